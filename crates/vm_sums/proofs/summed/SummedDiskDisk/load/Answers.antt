use Rattle.std.proofs.Common.{◌≡◌, ◌<◌, length, arith}
use Rattle.vm_sums.proofs.ShownLemmas.{reads_show}
use Rattle.vm_sums.proofs.summed.SummedDiskDisk.load.Goals as goal

pub returns-clause-honest : goal.returns-clause-honest
returns-clause-honest g c honest =
    let old = g.D.Disk.state c.args.self.now.inner in
    let whole : length old.now.contents ≡ old.blocks = g.met.D.Disk.whole c.args.self.now.inner (c.in_ok-read.ensures.any.earlier honest) in
    let inside : c.args.n < length old.now.contents = omega (arith, whole, c.requires) in
    reads_show c.args.n _ _ _ old (g.D.Disk.state c.read.new.self) inside c.exchange_sum.ensures (c.in_ok-read.ensures.honest honest)
