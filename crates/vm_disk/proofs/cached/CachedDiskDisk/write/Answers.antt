use Rattle.vm_disk.proofs.CachedLemmas.{right_after_fault, right_after_write}
use Rattle.vm_disk.proofs.cached.CachedDiskDisk.write.Goals as goal

pub invariant_of-self : goal.invariant_of-self
invariant_of-self g c =
    record { right = right_after_write c.write.result _ (g.D.Disk.state c.args.self.now.inner) (g.D.Disk.state c.write.new.self) c.args.n c.args.from.now _ _ c.in-Ok.is c.set.ensures (record { there = c.requires; whole = g.met.D.Disk.whole c.write.new.self }) c.write.ensures.any c.write.ensures.honest c.args.self.now.right }

pub invariant_of-self-in-Err : goal.invariant_of-self-in-Err
invariant_of-self-in-Err g c =
    record { right = right_after_fault c.write.result (g.D.Disk.state c.args.self.now.inner) (g.D.Disk.state c.write.new.self) c.args.n c.args.from.now _ _ c.forget.ensures.entries c.forget.ensures.gone c.write.ensures.any c.write.ensures.honest c.args.self.now.right }
