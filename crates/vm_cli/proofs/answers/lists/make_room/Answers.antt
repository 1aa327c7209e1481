use Rattle.std.proofs.Common.{subst}
use Rattle.vm_cli.specs.answers.Carried.{WritesStart}
use Rattle.vm_cli.proofs.CarriedLemmas.{begins-cut, on_err}
use Rattle.vm_cli.proofs.answers.lists.make_room.Goals as goal

pub returns-in_err-put_all-clause-err : goal.returns-in_err-put_all-clause-err
returns-in_err-put_all-clause-err g c =
    let cut = begins-cut (g.W.Write.contents c.args.writer.now) (g.W.Write.contents c.put_all.new.writer) _ c.in_err-put_all.ensures.err.0 c.in_err-put_all.ensures.err.1 in
    on_err c.from_residual.result
    (subst (WritesStart (g.W.Write.contents c.args.writer.now) (g.W.Write.contents c.put_all.new.writer)) c.as_bytes-then-as_bytes.ensures cut)
