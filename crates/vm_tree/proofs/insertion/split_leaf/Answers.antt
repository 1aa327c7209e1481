use Rattle.std.proofs.Common.{List, [], ◌∷◌, length, take, drop, sym, subst, take-append-drop}
use Rattle.vm_types.specs.Places.{with_record}
use Rattle.vm_block.specs.Leaf.{Record}
use Rattle.vm_tree.specs.FullPath.{NeedsMore}
use Rattle.vm_tree.specs.Replacement.{IsRenewed}
use Rattle.vm_tree.specs.Splits.{Made, children_of}
use Rattle.vm_tree.proofs.FullPaths.{needs_two}
use Rattle.vm_tree.proofs.HandLemmas.{hand_records}
use Rattle.vm_tree.proofs.insertion.split_leaf.Goals as goal

pub returns-in_ok-write_two-in-Two-clause-made : goal.returns-in_ok-write_two-in-Two-clause-made
returns-in_ok-write_two-in-Two-clause-made g c honest rs leaf over =
    let r : Record = (c.args.key, c.args.value.now) in
    let all = with_record r rs in
    let two = c.in-Two.ensures.only rs (hand_records (sym c.at_hand-leaf.ensures) leaf) over in
    let done = c.in_ok-write_two-in-Two in
    let x = (g.D.Disk.state c.write_two.new.disk).now.contents in (
      λ before keep more mine sizes.
          subst (λ (qs : List Record). Made (IsRenewed before c.write_two.new.held keep) sizes x (length c.args.held.now) 0 (children_of done.field-0) qs) (take-append-drop two.cut all)
          (done.ensures.made honest before keep more mine sizes (take two.cut all) (drop two.cut all) two.before two.behind),
      subst (NeedsMore all) (sym done.ensures.copied.grows) (needs_two r rs all _ _ over two),
    )

pub returns-in_ok-write_three-in-Three-clause-made : goal.returns-in_ok-write_three-in-Three-clause-made
returns-in_ok-write_three-in-Three-clause-made g c honest rs leaf over =
    let r : Record = (c.args.key, c.args.value.now) in
    let all = with_record r rs in
    let three = c.in-Three.ensures.only rs (hand_records (sym c.at_hand-leaf.ensures) leaf) over in
    let done = c.in_ok-write_three-in-Three in
    let x = (g.D.Disk.state c.write_three.new.disk).now.contents in (
      λ before keep more mine sizes.
          subst (λ (qs : List Record). Made (IsRenewed before c.write_three.new.held keep) sizes x (length c.args.held.now) 0 (children_of done.field-0) qs) (sym three.is)
          (done.ensures.made honest before keep more mine sizes three.lower (r ∷ []) three.higher three.before three.one three.behind),
      subst (NeedsMore all) (sym done.ensures.copied.grows) (over, three.needed),
    )

pub returns-in_default-clause-made : goal.returns-in_default-clause-made
returns-in_default-clause-made g c honest rs leaf over =
    let r : Record = (c.args.key, c.args.value.now) in
    let two = c.in-Two.ensures.only rs (hand_records (sym c.at_hand-leaf.ensures) leaf) over in
    (1, c.if-room-ge1.false, needs_two r rs (with_record r rs) _ _ over two)

pub returns-in_default-2-clause-made : goal.returns-in_default-2-clause-made
returns-in_default-2-clause-made g c honest rs leaf over =
    let three = c.in-Three.ensures.only rs (hand_records (sym c.at_hand-leaf.ensures) leaf) over in
    (2, c.if-room-ge2.false, (over, three.needed))
