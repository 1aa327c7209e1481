use Rattle.std.proofs.Common.{arith}
use Rattle.vm_types.specs.Places.{place}
use Rattle.vm_tree.specs.Over.{is_between}
use Rattle.vm_tree.proofs.PartReads.{few_aside}
use Rattle.vm_tree.proofs.WindowLemmas.{part_passes}
use Rattle.vm_tree.proofs.ranges.scan_part.Goals as goal

pub returns-clause-bound : goal.returns-clause-bound
returns-clause-bound g c honest sizes m bs tree =
    let low = place c.args.low in
    let high = place c.args.high in
    let few = few_aside sizes (g.D.Disk.state c.args.disk.now).now.contents c.args.blocks c.args.root m bs low tree in
    omega (arith, few, c.scan_window.ensures.bound honest sizes m bs tree (is_between low high) (part_passes low high m))
