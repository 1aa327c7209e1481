use Rattle.std.proofs.Common.{◌≡◌, true, length, sym, subst, refl, arith, rules}
use Rattle.std.specs.List.{AllByRecursion}
use Rattle.vm_alloc.specs.Held.{IsHeld}
use Rattle.vm_types.specs.Places.{with_record}
use Rattle.vm_alloc.proofs.HeldLemmas.{holds_same}
use Rattle.vm_block.specs.Leaf.{Record}
use Rattle.vm_tree.specs.FullPath.{GrowsBy, NeedsMore}
use Rattle.vm_tree.specs.Replacement.{Replaces}
use Rattle.vm_tree.specs.Splits.{Made}
use Rattle.vm_tree.specs.Tree.{Subtree}
use Rattle.vm_tree.proofs.HandLemmas.{hand_records}
use Rattle.vm_tree.proofs.FullPaths.{leaf_grows, long_room}
use Rattle.vm_tree.proofs.Leading.{if_ok_is, leads_end}
use Rattle.vm_tree.proofs.Looking.{looks_free, looks_if, looks_write, passed_on}
use Rattle.vm_tree.proofs.PutLemmas.{below_so, device_below}
use Rattle.vm_tree.proofs.Renewing.{keeps_own}
use Rattle.vm_tree.proofs.TreeLemmas.{leaf_opens, leaf_read}
use Rattle.vm_tree.proofs.insertion.put_in_leaf.Goals as goal

pub returns-in_ok-leaf-in-Put-clause-put : goal.returns-in_ok-leaf-in-Put-clause-put
returns-in_ok-leaf-in-Put-clause-put g c sizes honest rs bs tree begins rises =
    let r : Record = (c.args.key, c.args.value.now) in
    let x = (g.D.Disk.state c.args.disk.now).now.contents in
    let before = c.args.held.now in
    let read = leaf_read sizes x c.blocks-2.result c.args.top.block rs bs (subst (λ n. Subtree sizes x n 0 c.args.top.block rs bs) (sym c.blocks-2.ensures.count) tree) in
    let earlier = c.write_bytes.ensures.writes.goes.earlier honest in
    let leaf = hand_records (sym c.at_hand.ensures) (c.in_ok-load_leaf.ensures.only earlier rs read begins) in
    let has = c.in-Put.ensures.only rs leaf in
    let first = (leaf_opens sizes x (length before) 0 c.args.top.block rs bs refl tree).first in (
      λ keep all keeps.
          let mine = keeps_own c.args.own before keep c.args.top.block c.requires.place (subst (AllByRecursion (IsHeld before)) first all).0 (subst (AllByRecursion (λ n. keep n ≡ true)) first keeps).0 in
          c.in_ok-leaf-in-Put.ensures.leaf honest before keep (holds_same before) mine sizes (with_record r rs) has,
      leaf_grows sizes x r c.args.top.block 0 rs read.leaf has.room,
    )

pub returns-in-TooBig-clause-put : goal.returns-in-TooBig-clause-put
returns-in-TooBig-clause-put g c sizes honest rs bs tree begins rises =
    let r : Record = (c.args.key, c.args.value.now) in
    let x = (g.D.Disk.state c.args.disk.now).now.contents in
    let before = c.args.held.now in
    let later = c.split_leaf.new.held in
    let y = (g.D.Disk.state c.split_leaf.new.disk).now.contents in
    let b = c.args.top.block in
    let read = leaf_read sizes x c.blocks-2.result b rs bs (subst (λ n. Subtree sizes x n 0 b rs bs) (sym c.blocks-2.ensures.count) tree) in
    let earlier = c.split_leaf.ensures.writes.goes.earlier honest in
    let leaf = c.in_ok-load_leaf.ensures.only earlier rs read begins in
    let over = c.in-TooBig.ensures.only rs (hand_records (sym c.at_hand.ensures) leaf) in
    let first = (leaf_opens sizes x (length before) 0 b rs bs refl tree).first in
    below_so c.split_leaf.result c.args.room (NeedsMore (with_record r rs)) (GrowsBy sizes x r 0 b) _
    (λ cs. Replaces before later bs (λ P. Made P sizes y (length before) 0 cs (with_record r rs)))
    (c.split_leaf.ensures.made honest rs leaf over) (λ more needs. leaf_grows sizes x r b more rs read.leaf needs)
    (λ cs made keep all keeps.
    let mine = keeps_own c.args.own before keep b c.requires.place (subst (AllByRecursion (IsHeld before)) first all).0 (subst (AllByRecursion (λ n. keep n ≡ true)) first keeps).0 in
    made before keep (holds_same before) mine sizes)

pub returns-in_err-load_leaf-clause-put : goal.returns-in_err-load_leaf-clause-put
returns-in_err-load_leaf-clause-put g c sizes honest rs bs tree begins rises =
    let x = (g.D.Disk.state c.args.disk.now).now.contents in
    let read = leaf_read sizes x c.blocks-2.result c.args.top.block rs bs (subst (λ n. Subtree sizes x n 0 c.args.top.block rs bs) (sym c.blocks-2.ensures.count) tree) in
    rw (passed_on _ c.from_residual.ensures.1) (device_below _ _ _ _ (c.in_err-load_leaf.ensures.only honest rs read begins))

pub returns-in-TooBig-clause-replaced : goal.returns-in-TooBig-clause-replaced
returns-in-TooBig-clause-replaced g c sizes honest rs bs tree begins rises there =
    let r : Record = (c.args.key, c.args.value.now) in
    let x = (g.D.Disk.state c.args.disk.now).now.contents in
    let read = leaf_read sizes x c.blocks-2.result c.args.top.block rs bs (subst (λ n. Subtree sizes x n 0 c.args.top.block rs bs) (sym c.blocks-2.ensures.count) tree) in
    let earlier = c.split_leaf.ensures.writes.goes.earlier honest in
    let leaf = c.in_ok-load_leaf.ensures.only earlier rs read begins in
    let over = c.in-TooBig.ensures.only rs (hand_records (sym c.at_hand.ensures) leaf) in
    let fits = long_room r rs there rises in
    absurd (omega (arith, over, fits, read.leaf.room))

pub returns-in_ok-leaf-in-Put-clause-path : goal.returns-in_ok-leaf-in-Put-clause-path
returns-in_ok-leaf-in-Put-clause-path g c honest =
    leads_end _ _ _ (length c.args.held.now) 0 c.args.top.block c.args.top.low refl c.blocks-2.ensures.count (c.in_ok-load_leaf.ensures.end (c.write_bytes.ensures.writes.goes.earlier honest))

pub returns-in-TooBig-clause-path : goal.returns-in-TooBig-clause-path
returns-in-TooBig-clause-path g c honest =
    if_ok_is c.split_leaf.result _
    (leads_end _ _ _ (length c.args.held.now) 0 c.args.top.block c.args.top.low refl c.blocks-2.ensures.count (c.in_ok-load_leaf.ensures.end (c.split_leaf.ensures.writes.goes.earlier honest)))

pub returns-in_ok-leaf-in-Put-clause-writes : goal.returns-in_ok-leaf-in-Put-clause-writes
returns-in_ok-leaf-in-Put-clause-writes g c = looks_write c.in_ok-load_leaf.ensures.looks c.in_ok-leaf-in-Put.ensures.writes (λ is. cc) (λ spared may. may) (omega arith) (omega arith)

pub returns-in_err-leaf-in-Put-clause-writes : goal.returns-in_err-leaf-in-Put-clause-writes
returns-in_err-leaf-in-Put-clause-writes g c = looks_write c.in_ok-load_leaf.ensures.looks c.in_err-leaf-in-Put.ensures.writes (search rules) (λ spared may. may) (omega arith) (omega arith)

pub returns-in-TooBig-clause-writes : goal.returns-in-TooBig-clause-writes
returns-in-TooBig-clause-writes g c = looks_write c.in_ok-load_leaf.ensures.looks c.split_leaf.ensures.writes (λ is. is) (λ spared may. may) (omega arith) (omega arith)

pub returns-in_err-load_leaf-clause-writes : goal.returns-in_err-load_leaf-clause-writes
returns-in_err-load_leaf-clause-writes g c = looks_free c.in_err-load_leaf.ensures.looks (search rules) (omega arith)

pub returns-in-TooBig-clause-refused : goal.returns-in-TooBig-clause-refused
returns-in-TooBig-clause-refused g c = looks_if c.in_ok-load_leaf.ensures.looks c.split_leaf.ensures.writes.goes.earlier c.split_leaf.ensures.refused (λ is. is)
