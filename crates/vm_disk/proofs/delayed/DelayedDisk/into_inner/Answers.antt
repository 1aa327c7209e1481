use Rattle.vm_disk.proofs.DelayedLemmas.{follows_below}
use Rattle.vm_disk.proofs.delayed.DelayedDisk.into_inner.Goals as goal

pub returns-clause-below : goal.returns-clause-below
returns-clause-below g c = follows_below g.D.Disk.state c.args.self c.args.self.covered
