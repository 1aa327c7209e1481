use Rattle.std.proofs.Common.{[], ◌∙◌, Some, length, sym, ap, arith}
use Rattle.vm_block.specs.Leaf.{Record, RecordFits}
use Rattle.vm_block.proofs.EachLemmas.{each_at}
use Rattle.vm_tree.proofs.HandLemmas.{hand_records}
use Rattle.vm_tree.proofs.Looking.{passed_on}
use Rattle.vm_tree.proofs.TreeLemmas.{leaf_read}
use Rattle.vm_tree.proofs.lookup.get_in_leaf.Goals as goal

pub returns-in_err-load_leaf-clause-value : goal.returns-in_err-load_leaf-clause-value
returns-in_err-load_leaf-clause-value g c sizes honest rs bs tree begins rises =
    rw (passed_on _ c.from_residual.ensures.1) (c.in_err-load_leaf.ensures.only honest rs (leaf_read sizes _ _ _ rs bs tree) begins)

pub returns-in-Found-clause-value : goal.returns-in-Found-clause-value
returns-in-Found-clause-value g c sizes honest rs bs tree begins rises =
    let leaf = hand_records (sym c.at_hand-leaf.ensures) (c.in_ok-load_leaf.ensures.only honest rs (leaf_read sizes _ _ _ rs bs tree) begins) in
    let d : Record = (c.args.key, []) in
    let found = c.in-Found.ensures.only rs leaf in
    ap Some (c.copied.ensures ∙ c.record_value.ensures.value rs leaf d found.within) ∙ sym (found.value d)

pub returns-in-Missing-clause-value : goal.returns-in-Missing-clause-value
returns-in-Missing-clause-value g c sizes honest rs bs tree begins rises =
    let leaf = hand_records (sym c.at_hand-leaf.ensures) (c.in_ok-load_leaf.ensures.only honest rs (leaf_read sizes _ _ _ rs bs tree) begins) in
    sym (c.in-Missing.ensures.only rs leaf).value

pub returns-in-Found-clause-short : goal.returns-in-Found-clause-short
returns-in-Found-clause-short g c =
    let there = c.in_ok-load_leaf.ensures.leaf in
    let leaf = hand_records (sym c.at_hand-leaf.ensures) there.1 in
    let d : Record = (c.args.key, []) in
    let found = c.in-Found.ensures.only there.0 leaf in
    omega (arith, ap length (c.copied.ensures ∙ c.record_value.ensures.value there.0 leaf d found.within), (each_at RecordFits there.0 c.in-Found.index d leaf.fit found.within).1)
