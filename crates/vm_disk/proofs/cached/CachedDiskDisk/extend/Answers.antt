use Rattle.vm_disk.proofs.CachedLemmas.{right_after_growing}
use Rattle.vm_disk.proofs.cached.CachedDiskDisk.extend.Goals as goal

pub invariant_of-self : goal.invariant_of-self
invariant_of-self g c =
    record { right = right_after_growing c.args.blocks c.extend.result (g.D.Disk.state c.args.self.now.inner) (g.D.Disk.state c.extend.new.self) _ c.extend.ensures.any c.extend.ensures.honest c.args.self.now.right }
