use Rattle.vm_disk.proofs.DelayedLemmas.{covered_on}
use Rattle.vm_disk.proofs.delayed.DelayedDiskDisk.write.Goals as goal

pub invariant_of-self : goal.invariant_of-self
invariant_of-self g c =
    record { covered = λ honest. covered_on g.D.Disk.state c.args.self.now.layers c.write.new.self _ _ _ c.note.ensures (c.args.self.now.covered (c.write.ensures.any.earlier honest)) (c.write.ensures.below honest) }
