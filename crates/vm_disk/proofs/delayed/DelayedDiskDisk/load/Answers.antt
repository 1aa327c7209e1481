use Rattle.vm_disk.proofs.DelayedLemmas.{covered_on}
use Rattle.vm_disk.proofs.delayed.DelayedDiskDisk.load.Goals as goal

pub invariant_of-self : goal.invariant_of-self
invariant_of-self g c =
    record { covered = λ honest. covered_on g.D.Disk.state c.args.self.now.layers c.load.new.self _ _ _ c.note-2.ensures (c.args.self.now.covered (c.load.ensures.acts.any.earlier honest)) (c.load.ensures.acts.below honest) }
