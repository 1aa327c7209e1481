use Rattle.std.proofs.Common.{◌≡◌, ◌-◌, ◌<◌, List, [], ◌∷◌, length, get_or, take, refl, ap, sym, subst, arith, rules}
use Rattle.std.specs.List.{AllByRecursion}
use Rattle.vm_alloc.proofs.HeldLemmas.{holds_same}
use Rattle.vm_disk.specs.Disk.{Medium}
use Rattle.vm_disk.proofs.MomentLemmas.{same_medium}
use Rattle.vm_block.specs.Node.{ChildFits, node_bytes, node_head}
use Rattle.vm_block.specs.declared.node.Child.{Child}
use Rattle.vm_tree.specs.Tree.{Children, Subtree}
use Rattle.vm_tree.specs.Splits.{Made}
use Rattle.vm_tree.specs.Removal.{IsLeftOf, Narrows, WasThere, child_of}
use Rattle.vm_tree.specs.Free.{IsBeside}
use Rattle.vm_tree.specs.Replacement.{IsRenewed, without_own}
use Rattle.vm_tree.specs.Root.{sizes_of}
use Rattle.vm_tree.specs.declared.removal.Left.TheVariants.{Rest}
use Rattle.vm_tree.specs.declared.root.Root.{Root}
use Rattle.vm_tree.proofs.Looking.{looks_free, looks_never, passed_on}
use Rattle.vm_tree.proofs.Renewing.{place_now, renewed_all}
use Rattle.vm_tree.proofs.RemoveLemmas.{one_child, two_children, narrowed_made}
use Rattle.vm_tree.proofs.removal.write_rest.Goals as goal
use Rattle.vm_tree.proofs.removal.write_rest.Goals.{then-not-is_root-via-then-not-is_root, then-not-is_root-via-else-not-is_root+then-children-gt1}

pub returns-then-not-is_root-clause-rest : goal.returns-then-not-is_root-clause-rest
returns-then-not-is_root-clause-rest g c honest levels rs bs rises fits under before keep more mine all =
    let sizes = sizes_of g.row.FAN levels in
    let y = (g.D.Disk.state c.write_node_block.new.disk).now.contents in
    let made = c.in_ok-node.ensures.made honest before keep more mine sizes rs (omega (arith, c.requires.level)) (omega (arith, c.requires.level)) (omega (arith, c.requires.few)) rises (record { blocks = bs; under = under; each = all; fit = fits }) in
    subst (λ (root : Root). Made (IsRenewed before c.write_node_block.new.held keep) sizes y (length c.args.held.now) root.level (child_of root ∷ []) rs) (sym c.root_at.ensures) made

pub returns-clause-rest : goal.returns-clause-rest
returns-clause-rest g c honest levels rs bs rises fits under before keep more mine all =
    let sizes = sizes_of g.row.FAN levels in
    let x = (g.D.Disk.state c.args.disk.now).now.contents in
    let cs = c.args.children.now in
    let d : Child = record { low = record { table = 0; number = 0 }; block = 0 } in
    let top = get_or cs 0 d in
    let some : 0 < length cs = search rules in
    let one : length cs ≡ 1 = omega (arith, c.if-children-gt1.false, some) in
    let is = one_child cs d one in
    let alone = subst (λ n. Children (Subtree sizes x n (c.args.level - 1)) (top ∷ []) rs bs) (sym c.blocks-2.ensures.count) (subst (λ (ds : List Child). Children (Subtree sizes x (length c.args.held.now) (c.args.level - 1)) ds rs bs) is under) in
    let n = c.in_ok-root.ensures.narrow honest levels rs bs alone in
    let still = ap (λ (m : Medium). m.contents) (same_medium _ _ (c.in_ok-root.ensures.looks.reads honest)) in
    narrowed_made (IsRenewed before c.args.held.now (without_own c.args.own keep)) (IsRenewed before c.args.held.now keep) sizes x _ (length c.args.held.now) (c.args.level - 1) top c.in_ok-root.root rs bs still (renewed_all c.args.own before c.args.held.now keep) (subst (AllByRecursion ChildFits) is fits).0 all
    (subst (λ k. Narrows sizes x k top c.in_ok-root.root rs bs) c.blocks-2.ensures.count n)

pub returns-in_err-root-clause-rest : goal.returns-in_err-root-clause-rest
returns-in_err-root-clause-rest g c honest levels rs bs rises fits under =
    let sizes = sizes_of g.row.FAN levels in
    let x = (g.D.Disk.state c.args.disk.now).now.contents in
    let cs = c.args.children.now in
    let d : Child = record { low = record { table = 0; number = 0 }; block = 0 } in
    let top = get_or cs 0 d in
    let some : 0 < length cs = search rules in
    let one : length cs ≡ 1 = omega (arith, c.if-children-gt1.false, some) in
    let alone = subst (λ n. Children (Subtree sizes x n (c.args.level - 1)) (top ∷ []) rs bs) (sym c.blocks-2.ensures.count) (subst (λ (ds : List Child). Children (Subtree sizes x (length c.args.held.now) (c.args.level - 1)) ds rs bs) (one_child cs d one) under) in
    rw (passed_on _ c.from_residual-in_err-root.ensures.1) (c.in_err-root.ensures.narrow honest levels rs bs alone)

pub returns-then-not-is_root-clause-kept : goal.returns-then-not-is_root-clause-kept
returns-then-not-is_root-clause-kept g c =
    let before = c.args.held.now in
    let later = c.write_node_block.new.held in
    let written = c.in_ok-node.ensures.written in
    looks_never (λ is.
    let there = subst (λ (root : Root). WasThere (IsBeside c.args.own) before later root) c.root_at.ensures is in
    place_now c.args.own before before later c.in_ok-node.node.block (holds_same before) written.place written.taken.held_now there.0 there.1)

pub returns-clause-writes : goal.returns-clause-writes
returns-clause-writes g c = looks_free c.in_ok-root.ensures.looks (λ is. cc) (omega arith)

pub returns-in_err-root-clause-writes : goal.returns-in_err-root-clause-writes
returns-in_err-root-clause-writes g c = looks_free c.in_err-root.ensures.looks (search rules) (omega arith)

pub returns-then-not-is_root-clause-left : goal.returns-then-not-is_root-clause-left
unfolding node_bytes node_head
returns-then-not-is_root-clause-left g c =
    let cs = c.args.children.now in
    let done = c.in_ok-node.ensures in
    subst (λ (root : Root). IsLeftOf c.args.level c.args.is_root c.args.held.now c.write_node_block.new.held (g.D.Disk.state c.write_node_block.new.disk) (Rest root)) (sym c.root_at.ensures) record {
      level_is = omega arith;
      same_level = λ _. refl;
      low_taken = omega (arith, done.writes.taken);
      root = (omega (arith, done.written.taken.above), omega (arith, done.written.taken.inside, done.writes.still.same_length));
      wide = λ root honest up k ds node.
          let two : 1 < length cs = elim c.then-not-is_root.branch [ then-not-is_root-via-then-not-is_root w ↦ search (rules, root, w.if-not-is_root.true) | then-not-is_root-via-else-not-is_root+then-children-gt1 w ↦ w.if-children-gt1.true ] in
          two_children {l = c.args.level} {n = length cs} (ap (take 16) (done.written.bytes_are honest)) (omega (arith, c.requires.level)) two (omega (arith, c.requires.few, c.requires.fan)) node;
    }
