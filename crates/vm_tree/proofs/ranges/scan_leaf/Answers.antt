use Rattle.std.proofs.Common.{refl, sym, subst, arith, length}
use Rattle.vm_disk.specs.Disk.{Contents, block}
use Rattle.vm_block.specs.Leaf.{HasRecords}
use Rattle.vm_tree.specs.declared.faults.TreeFault.TheVariants.{Device}
use Rattle.vm_tree.proofs.HandLemmas.{hand_records}
use Rattle.vm_tree.proofs.Looking.{looks_none, looks_on, looks_once, passed_on}
use Rattle.vm_tree.proofs.OverLemmas.{leaf_costs, leaf_over, top_costs}
use Rattle.vm_tree.proofs.ScanLemmas.{device_lists}
use Rattle.vm_tree.proofs.ranges.scan_leaf.Goals as goal

pub returns-in_err-count-clause-added : goal.returns-in_err-count-clause-added
returns-in_err-count-clause-added g c honest sizes x same rs bs tree begins rises =
    let at = leaf_over sizes x c.args.blocks 0 c.args.top.block rs bs refl tree in
    let leaf = subst (λ (y : Contents). HasRecords (block y c.args.top.block) rs) (sym same) at.leaf in
    rw (passed_on _ c.from_residual.ensures.1) (device_lists _ _ (c.in_err-count.ensures.only honest rs (record { inside = at.place; leaf = leaf })))

pub returns-in_err-count-clause-bound : goal.returns-in_err-count-clause-bound
returns-in_err-count-clause-bound g c honest sizes x same rs bs tree begins rises more reached test pass =
    top_costs sizes x c.args.blocks 0 c.args.top.block rs bs tree c.args.window (length c.args.into.now) c.args.top.low begins more reached test pass
    (g.D.Disk.state c.args.disk.now).reads (g.D.Disk.state c.load_records.new.disk).reads (g.D.Disk.state c.load_records.new.disk).reads c.in_err-count.ensures.looks.once.most (omega arith)

pub returns-clause-looks : goal.returns-clause-looks
returns-clause-looks g c = looks_on (looks_once c.in_ok-count.ensures.looks) (looks_none _ (λ failed. c.push_records.ensures.looks Device failed)) (λ is. is)

pub returns-clause-added : goal.returns-clause-added
returns-clause-added g c honest sizes x same rs bs tree begins rises =
    let at = leaf_over sizes x c.args.blocks 0 c.args.top.block rs bs refl tree in
    let leaf = subst (λ (y : Contents). HasRecords (block y c.args.top.block) rs) (sym same) at.leaf in
    let read = c.in_ok-count.ensures.only honest rs (record { inside = at.place; leaf = leaf }) in
    c.push_records.ensures.added rs (hand_records (sym c.at_hand.ensures) read.0) read.1

pub returns-clause-bound : goal.returns-clause-bound
returns-clause-bound g c honest sizes x same rs bs tree begins rises more reached test pass =
    let at = leaf_over sizes x c.args.blocks 0 c.args.top.block rs bs refl tree in
    let start = (g.D.Disk.state c.args.disk.now).reads in
    let mid = (g.D.Disk.state c.load_records.new.disk).reads in
    leaf_costs sizes x c.args.blocks 0 c.args.top.block rs bs tree c.args.window (length c.args.into.now) c.args.top.low begins more reached test pass
    start mid mid c.in_ok-count.ensures.looks.once.most at (omega arith)
