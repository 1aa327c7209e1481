use Rattle.vm_disk.proofs.CachedLemmas.{right_after_lost_run, right_after_run}
use Rattle.vm_disk.proofs.cached.CachedDiskDisk.write_run.Goals as goal

pub invariant_of-self : goal.invariant_of-self
invariant_of-self g c =
    record { right = right_after_run c.write_run.result _ (g.D.Disk.state c.args.self.now.inner) (g.D.Disk.state c.write_run.new.self) c.args.n c.args.blocks.now c.args.self.now.kept c.set_run.new.self c.in-Ok.is c.set_run.ensures c.requires (g.met.D.Disk.whole c.write_run.new.self) c.write_run.ensures.any c.write_run.ensures.honest c.args.self.now.right }

pub invariant_of-self-in-Err : goal.invariant_of-self-in-Err
invariant_of-self-in-Err g c =
    record { right = right_after_lost_run c.write_run.result (g.D.Disk.state c.args.self.now.inner) (g.D.Disk.state c.write_run.new.self) c.args.n c.args.blocks.now _ _ c.forget_run.ensures.entries c.forget_run.ensures.gone c.write_run.ensures.any c.write_run.ensures.honest c.args.self.now.right }
