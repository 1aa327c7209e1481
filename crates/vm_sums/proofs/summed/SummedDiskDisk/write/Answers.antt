use Rattle.std.proofs.Common.{◌≡◌, ◌<◌, length, ap, ◌∙◌, arith}
use Rattle.vm_sums.specs.Sums.{summed}
use Rattle.vm_sums.proofs.ExchangeLemmas.{summed_twice}
use Rattle.vm_sums.proofs.ShownLemmas.{writes_show}
use Rattle.vm_sums.proofs.summed.SummedDiskDisk.write.Goals as goal

pub returns-clause-honest : goal.returns-clause-honest
returns-clause-honest g c honest =
    let old = g.D.Disk.state c.args.self.now.inner in
    let whole : length old.now.contents ≡ old.blocks = g.met.D.Disk.whole c.args.self.now.inner (c.write.ensures.any.earlier honest) in
    let inside : c.args.n < length old.now.contents = omega (arith, whole, c.requires) in
    let back = ap (summed c.args.n) c.exchange_sum.ensures ∙ summed_twice c.args.n c.args.from.now c.told-from c.fits-from in
    writes_show c.args.n c.exchange_sum.new.block c.args.from.now c.write.result old (g.D.Disk.state c.write.new.self) inside back (c.write.ensures.honest honest)
