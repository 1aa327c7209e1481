use Rattle.vm_cli.proofs.CarriedLemmas.{passed_on}
use Rattle.vm_cli.proofs.PlannerLemmas.{says_put}
use Rattle.vm_cli.proofs.session.batches.BatchSession.tell.Goals as goal

pub returns-in_err-put_told-clause-said : goal.returns-in_err-put_told-clause-said
returns-in_err-put_told-clause-said g c = rw (passed_on _ c.from_residual.ensures.1) (says_put _ _ _ _ _ c.in_err-put_told.ensures.put)
