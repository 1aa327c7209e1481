use Rattle.std.proofs.Common.{subst, ◌∙◌}
use Rattle.std.specs.Io.KnownBytes.{Appends}
use Rattle.vm_cli.specs.answers.Carried.{WritesStart}
use Rattle.vm_cli.proofs.CarriedLemmas.{begins-cut, begins-whole, on_err, on_ok}
use Rattle.vm_cli.proofs.Known.{Appends-kept}
use Rattle.vm_cli.proofs.session.send.Goals as goal

pub returns-in_err-put_all-clause-err : goal.returns-in_err-put_all-clause-err
returns-in_err-put_all-clause-err g c =
    let before = g.W.Write.contents c.args.writer.now in
    let after = g.W.Write.contents c.put_all.new.writer in
    let cut = begins-cut before after _ c.in_err-put_all.ensures.err.0 c.in_err-put_all.ensures.err.1 in
    on_err c.from_residual.result (subst (WritesStart before after) (c.as_bytes.ensures ∙ c.push_onto.ensures) cut)

pub returns-clause-ok : goal.returns-clause-ok
returns-clause-ok g c =
    let before = g.W.Write.contents c.args.writer.now in
    let after = g.W.Write.contents c.flush.new.writer in
    let whole = Appends-kept before _ after _ c.in_ok-put_all.ensures.ok c.flush.ensures in
    on_ok c.flush.result (subst (Appends before after) (c.as_bytes.ensures ∙ c.push_onto.ensures) whole)

pub returns-clause-err : goal.returns-clause-err
returns-clause-err g c =
    let before = g.W.Write.contents c.args.writer.now in
    let after = g.W.Write.contents c.flush.new.writer in
    let whole = Appends-kept before _ after _ c.in_ok-put_all.ensures.ok c.flush.ensures in
    on_err c.flush.result (begins-whole before after _ (subst (Appends before after) (c.as_bytes.ensures ∙ c.push_onto.ensures) whole))
