use Rattle.vm_disk.proofs.CachedLemmas.{kept_or_not, right_after_hit, right_after_miss}
use Rattle.vm_disk.proofs.cached.CachedDiskDisk.load.Goals as goal

pub invariant_of-self : goal.invariant_of-self
invariant_of-self g c =
    record { right = right_after_hit (g.D.Disk.state c.args.self.now.inner) c.args.n _ _ _ _ c.promote.result c.if-promote.true c.promote.ensures.found c.promote.ensures.first c.args.self.now.right }

pub invariant_of-self-in-Again : goal.invariant_of-self-in-Again
invariant_of-self-in-Again g c =
    record { right = right_after_miss c.read.result _ (g.D.Disk.state c.args.self.now.inner) (g.D.Disk.state c.read.new.self) c.args.n _ c.read.new.into _ _ _ c.promote.result _ _ c.in_ok-read.was c.if-promote.false c.promote.ensures.missed (record { there = c.requires; whole = g.met.D.Disk.whole c.read.new.self }) c.read.ensures.any c.read.ensures.honest (kept_or_not c.keep_room.result c.keep_room.ensures.kept c.keep_room.ensures.refused) c.args.self.now.right }
