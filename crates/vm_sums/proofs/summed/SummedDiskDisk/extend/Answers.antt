use Rattle.vm_sums.proofs.ShownLemmas.{enlarges_show}
use Rattle.vm_sums.proofs.summed.SummedDiskDisk.extend.Goals as goal

pub returns-clause-honest : goal.returns-clause-honest
returns-clause-honest g c honest = enlarges_show (g.D.Disk.state c.args.self.now.inner) (g.D.Disk.state c.extend.new.self) (c.extend.ensures.honest honest)
