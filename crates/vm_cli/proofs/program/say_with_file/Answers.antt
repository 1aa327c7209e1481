use Rattle.std.proofs.Common.{subst}
use Rattle.std.proofs.lemmas.Result.{on_err_weaker}
use Rattle.std.specs.Io.KnownBytes.{Appends}
use Rattle.vm_cli.specs.answers.Carried.{WritesStart}
use Rattle.vm_cli.proofs.CarriedLemmas.{begins-cut, begins-more, on_err}
use Rattle.vm_cli.proofs.ExitLemmas.{file_first, file_then}
use Rattle.vm_cli.proofs.program.say_with_file.Goals as goal

pub returns-in_err-put_all-clause-err : goal.returns-in_err-put_all-clause-err
returns-in_err-put_all-clause-err g c =
    let before = g.W.Write.contents c.args.writer.now in
    let after = g.W.Write.contents c.put_all.new.writer in
    let cut = begins-cut before after c.args.before.now c.in_err-put_all.ensures.err.0 c.in_err-put_all.ensures.err.1 in
    on_err c.from_residual.result (file_first before after c.args.before.now c.args.file.now c.args.behind.now cut)

pub returns-in_err-put_all-2-clause-err : goal.returns-in_err-put_all-2-clause-err
returns-in_err-put_all-2-clause-err g c =
    let before = g.W.Write.contents c.args.writer.now in
    let between = g.W.Write.contents c.put_all.new.writer in
    let after = g.W.Write.contents c.put_all-2.new.writer in
    let cut = begins-cut between after _ c.in_err-put_all-2.ensures.err.0 c.in_err-put_all-2.ensures.err.1 in
    let named : WritesStart between after c.args.file.now = subst (WritesStart between after) c.as_bytes.ensures.value cut in
    on_err c.from_residual-in_err-put_all-2.result
    (file_then before between after c.args.before.now _ c.in_ok-put_all.ensures.ok (begins-more between after c.args.file.now _ named))

pub returns-clause-err : goal.returns-clause-err
returns-clause-err g c =
    let before = g.W.Write.contents c.args.writer.now in
    let first = g.W.Write.contents c.put_all.new.writer in
    let second = g.W.Write.contents c.put_all-2.new.writer in
    let after = g.W.Write.contents c.say.new.writer in
    let named : Appends first second c.args.file.now = subst (Appends first second) c.as_bytes.ensures.value c.in_ok-put_all-2.ensures.ok in
    on_err_weaker c.say.result
    (λ end. file_then before first after c.args.before.now _ c.in_ok-put_all.ensures.ok (file_then first second after c.args.file.now _ named end)) c.say.ensures.err
