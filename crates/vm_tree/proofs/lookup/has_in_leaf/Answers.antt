use Rattle.std.proofs.Common.{[], is_some, sym, ap}
use Rattle.vm_block.specs.Leaf.{Record}
use Rattle.vm_tree.proofs.HandLemmas.{hand_records}
use Rattle.vm_tree.proofs.Looking.{passed_on}
use Rattle.vm_tree.proofs.TreeLemmas.{leaf_read}
use Rattle.vm_tree.proofs.lookup.has_in_leaf.Goals as goal

pub returns-in_err-load_leaf-clause-found : goal.returns-in_err-load_leaf-clause-found
returns-in_err-load_leaf-clause-found g c sizes honest rs bs tree begins rises =
    rw (passed_on _ c.from_residual.ensures.1) (c.in_err-load_leaf.ensures.only honest rs (leaf_read sizes _ _ _ rs bs tree) begins)

pub returns-in-Found-clause-found : goal.returns-in-Found-clause-found
returns-in-Found-clause-found g c sizes honest rs bs tree begins rises =
    let leaf = hand_records (sym c.at_hand.ensures) (c.in_ok-load_leaf.ensures.only honest rs (leaf_read sizes _ _ _ rs bs tree) begins) in
    let d : Record = (c.args.key, []) in
    sym (ap is_some ((c.in-Found.ensures.only rs leaf).value d))

pub returns-in-Missing-clause-found : goal.returns-in-Missing-clause-found
returns-in-Missing-clause-found g c sizes honest rs bs tree begins rises =
    let leaf = hand_records (sym c.at_hand.ensures) (c.in_ok-load_leaf.ensures.only honest rs (leaf_read sizes _ _ _ rs bs tree) begins) in
    sym (ap is_some (c.in-Missing.ensures.only rs leaf).value)
