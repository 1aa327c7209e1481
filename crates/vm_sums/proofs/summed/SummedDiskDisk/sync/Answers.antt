use Rattle.vm_sums.proofs.ShownLemmas.{syncs_show}
use Rattle.vm_sums.proofs.summed.SummedDiskDisk.sync.Goals as goal

pub returns-clause-honest : goal.returns-clause-honest
returns-clause-honest g c honest = syncs_show c.sync.result (g.D.Disk.state c.args.self.now.inner) (g.D.Disk.state c.sync.new.self) (c.sync.ensures.honest honest)
