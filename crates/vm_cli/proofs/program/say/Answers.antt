use Rattle.vm_cli.proofs.CarriedLemmas.{begins-cut, begins-whole, on_err}
use Rattle.vm_cli.proofs.Known.{Appends-kept}
use Rattle.vm_cli.proofs.program.say.Goals as goal

pub returns-in_err-put_all-clause-err : goal.returns-in_err-put_all-clause-err
returns-in_err-put_all-clause-err g c =
    on_err c.from_residual.result (begins-cut (g.W.Write.contents c.args.writer.now) (g.W.Write.contents c.put_all.new.writer) _ c.in_err-put_all.ensures.err.0 c.in_err-put_all.ensures.err.1)

pub returns-clause-err : goal.returns-clause-err
returns-clause-err g c =
    let before = g.W.Write.contents c.args.writer.now in
    let after = g.W.Write.contents c.flush.new.writer in
    on_err c.flush.result (begins-whole before after _ (Appends-kept before _ after _ c.in_ok-put_all.ensures.ok c.flush.ensures))
