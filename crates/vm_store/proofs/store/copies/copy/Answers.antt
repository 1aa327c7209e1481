use Rattle.std.proofs.Common.{Err, ap}
use Rattle.vm_store.proofs.store.copies.copy.Goals as goal

pub returns-in-Ok-clause-full : goal.returns-in-Ok-clause-full
returns-in-Ok-clause-full g c honest s holds comes = c.in-Err-copy_to.ensures.full honest s holds (ap Err comes)
