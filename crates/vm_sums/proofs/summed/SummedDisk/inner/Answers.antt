use Rattle.vm_sums.proofs.ShownLemmas.{crashes_show}
use Rattle.vm_sums.proofs.summed.SummedDisk.inner.Goals as goal

pub returns-clause-crashes : goal.returns-clause-crashes
returns-clause-crashes g c = crashes_show (g.D.Disk.state c.args.self.now.inner)
