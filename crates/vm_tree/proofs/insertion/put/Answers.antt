use Rattle.std.proofs.Common.{◌≡◌, ℕ, Bool, true, [], ◌∷◌, ◌+◌, ◌*◌, ◌≤◌, ◌<◌, min, length, take, ap, sym, subst, inl, inr, arith, rules}
use Rattle.std.specs.List.{AllByRecursion}
use Rattle.vm_types.specs.Map.{Map, with_value}
use Rattle.vm_types.specs.Places.{KeyFits}
use Rattle.vm_alloc.specs.Held.{IsHeld}
use Rattle.vm_block.specs.Leaf.{Record}
use Rattle.vm_block.specs.Node.{node_bytes, node_head}
use Rattle.vm_tree.specs.Answers.{LacksRoom}
use Rattle.vm_tree.specs.FullPath.{GrowsBy}
use Rattle.vm_tree.specs.Splits.{children_of, extra}
use Rattle.vm_tree.specs.Replacement.{IsRenewed}
use Rattle.vm_tree.specs.declared.root.Root.{Root}
use Rattle.vm_tree.specs.Root.{IsRootedIn, sizes_of}
use Rattle.vm_tree.proofs.Looking.{looks_never, passed_on, writes_as, writes_then}
use Rattle.vm_tree.proofs.Descent.{subtree_top}
use Rattle.vm_tree.proofs.FullPaths.{grows_few}
use Rattle.vm_tree.proofs.RemoveLemmas.{two_children}
use Rattle.vm_tree.proofs.Renewing.{all_kept, rooted_so}
use Rattle.vm_tree.proofs.RootLemmas.{grows_lacks, root_one, root_more, fault_puts}
use Rattle.vm_tree.proofs.insertion.put.Goals as goal
use Rattle.vm_tree.proofs.insertion.put.Goals.{then-from-2, else-from-2}

pub returns-then-root-eq0-clause-put : goal.returns-then-root-eq0-clause-put
returns-then-root-eq0-clause-put g c honest m bs (inl bare) =
    let sizes = sizes_of g.row.FAN g.row.LEVELS in
    let before = c.args.held.now in
    let held = c.put_first.new.held in
    let x = (g.D.Disk.state c.put_first.new.disk).now.contents in
    let limit = length before in
    let every : ℕ → Bool = λ _. true in
    let made = c.in_ok-put_first.ensures.put honest every sizes (omega (arith, c.requires.sizes.levels_least)) in
    let R : (ℕ → Type 0) → Map → Root → Type 0 = λ P n r. IsRootedIn sizes P x limit r (with_value n c.args.key c.args.value.now) in
    let root = c.in_ok-put_first.field-0 in
    let now = rooted_so (IsRenewed before held every) (IsHeld held) sizes x limit root (with_value [] c.args.key c.args.value.now) (λ n is. is.now) made in (
      λ all. subst (λ (n : Map). R (IsHeld held) n root) (sym bare.empty) now,
      λ (lacks : LacksRoom sizes _ c.args.root (c.args.key, c.args.value.now)). omega (arith, lacks.some, c.if-root-eq0.true),
    )
returns-then-root-eq0-clause-put g c honest m bs (inr top) =
    let inside = subtree_top _ _ _ _ _ m bs top.subtree in absurd (omega (arith, c.if-root-eq0.true, inside.0))

pub returns-in-One-clause-put : goal.returns-in-One-clause-put
returns-in-One-clause-put g c honest m bs (inl bare) = absurd (c.if-root-eq0.false bare.none)
returns-in-One-clause-put g c honest m bs (inr top) =
    let fits : KeyFits c.args.key = (omega arith, omega arith) in
    let sizes = sizes_of g.row.FAN g.row.LEVELS in
    let before = c.args.held.now in
    let held = c.put_below.new.held in
    let limit = length before in
    let after = (g.D.Disk.state c.put_below.new.disk).now.contents in
    let every : ℕ → Bool = λ _. true in
    let got = c.in_ok-copied.ensures.put g.row.LEVELS honest m bs top.subtree top.lowest top.rising in
    let P = IsRenewed before held every in
    let done = root_one sizes _ limit c.args.root m bs c.args.key c.args.value.now fits top P after c.in_ok-copied.copied 0 c.in-One.top (AllByRecursion (IsHeld before) bs)
    c.in-One.is (λ all. got.0 every all (all_kept bs), got.1) in (
      λ all.
          let now = rooted_so P (IsHeld held) sizes after limit _ (with_value m c.args.key c.args.value.now) (λ n is. is.now) (done.0 all) in
          subst (λ (r : Root). IsRootedIn sizes (IsHeld held) after limit r (with_value m c.args.key c.args.value.now)) (sym c.root_at.ensures) now,
      done.1,
    )

pub returns-in_ok-top-in-Two-clause-put : goal.returns-in_ok-top-in-Two-clause-put
returns-in_ok-top-in-Two-clause-put g c honest m bs (inl bare) = absurd (c.if-root-eq0.false bare.none)
returns-in_ok-top-in-Two-clause-put g c honest m bs (inr top) =
    let fits : KeyFits c.args.key = (omega arith, omega arith) in
    let sizes = sizes_of g.row.FAN g.row.LEVELS in
    let before = c.args.held.now in
    let between = c.put_below.new.held in
    let held = c.write_node_block.new.held in
    let limit = length before in
    let mid = (g.D.Disk.state c.put_below.new.disk).now.contents in
    let after = (g.D.Disk.state c.write_node_block.new.disk).now.contents in
    let level = c.args.root.level in
    let every : ℕ → Bool = λ _. true in
    let earlier = c.in_ok-top-in-Two.ensures.writes.goes.earlier honest in
    let got = c.in_ok-copied.ensures.put g.row.LEVELS earlier m bs top.subtree top.lowest top.rising in
    let more = ap extra c.in-Two.is in
    let some : 0 < c.if-from-2.room = omega (arith, more, c.in_ok-copied.ensures.copied.room) in
    let low : level + 1 < g.row.LEVELS = elim c.if-from-2.branch [ then-from-2 w ↦ omega (arith, w.if-from-2.true, c.from-2.ensures) | else-from-2 w ↦ absurd (omega (arith, some, w.room-is)) ] in
    let few : level + 1 ≤ 7 = omega (arith, low, c.requires.sizes.levels_most) in
    let P = IsRenewed before between every in
    let Q = IsRenewed before held every in
    let done = root_more sizes _ limit c.args.root m bs c.args.key c.args.value.now fits top P Q mid after (length between)
    c.in_ok-copied.copied 0 (c.in-Two.left ∷ c.in-Two.right ∷ []) c.in_ok-top-in-Two.top (AllByRecursion (IsHeld before) bs)
    (ap children_of c.in-Two.is) c.in_ok-copied.ensures.writes.still.same_length low
    (λ all. got.0 every all (all_kept bs), got.1)
    (λ rs rising made. c.in_ok-top-in-Two.ensures.made honest before every c.in_ok-copied.ensures.writes.still tt sizes rs (omega arith) few (omega (arith, c.requires.sizes.fan_least)) rising made) in (
      λ all.
          let now = rooted_so Q (IsHeld held) sizes after limit _ (with_value m c.args.key c.args.value.now) (λ n is. is.now) (done.0 all) in
          subst (λ (r : Root). IsRootedIn sizes (IsHeld held) after limit r (with_value m c.args.key c.args.value.now)) (sym c.root_at-in-Two.ensures) now,
      done.1,
    )

pub returns-in_ok-top-in-Three-clause-put : goal.returns-in_ok-top-in-Three-clause-put
returns-in_ok-top-in-Three-clause-put g c honest m bs (inl bare) = absurd (c.if-root-eq0.false bare.none)
returns-in_ok-top-in-Three-clause-put g c honest m bs (inr top) =
    let fits : KeyFits c.args.key = (omega arith, omega arith) in
    let sizes = sizes_of g.row.FAN g.row.LEVELS in
    let before = c.args.held.now in
    let between = c.put_below.new.held in
    let held = c.write_node_block-in-Three.new.held in
    let limit = length before in
    let mid = (g.D.Disk.state c.put_below.new.disk).now.contents in
    let after = (g.D.Disk.state c.write_node_block-in-Three.new.disk).now.contents in
    let level = c.args.root.level in
    let every : ℕ → Bool = λ _. true in
    let earlier = c.in_ok-top-in-Three.ensures.writes.goes.earlier honest in
    let got = c.in_ok-copied.ensures.put g.row.LEVELS earlier m bs top.subtree top.lowest top.rising in
    let more = ap extra c.in-Three.is in
    let some : 0 < c.if-from-2.room = omega (arith, more, c.in_ok-copied.ensures.copied.room) in
    let low : level + 1 < g.row.LEVELS = elim c.if-from-2.branch [ then-from-2 w ↦ omega (arith, w.if-from-2.true, c.from-2.ensures) | else-from-2 w ↦ absurd (omega (arith, some, w.room-is)) ] in
    let few : level + 1 ≤ 7 = omega (arith, low, c.requires.sizes.levels_most) in
    let P = IsRenewed before between every in
    let Q = IsRenewed before held every in
    let done = root_more sizes _ limit c.args.root m bs c.args.key c.args.value.now fits top P Q mid after (length between)
    c.in_ok-copied.copied 0 (c.in-Three.left ∷ c.in-Three.middle ∷ c.in-Three.right ∷ []) c.in_ok-top-in-Three.top (AllByRecursion (IsHeld before) bs)
    (ap children_of c.in-Three.is) c.in_ok-copied.ensures.writes.still.same_length low
    (λ all. got.0 every all (all_kept bs), got.1)
    (λ rs rising made. c.in_ok-top-in-Three.ensures.made honest before every c.in_ok-copied.ensures.writes.still tt sizes rs (omega arith) few (omega (arith, c.requires.sizes.fan_least)) rising made) in (
      λ all.
          let now = rooted_so Q (IsHeld held) sizes after limit _ (with_value m c.args.key c.args.value.now) (λ n is. is.now) (done.0 all) in
          subst (λ (r : Root). IsRootedIn sizes (IsHeld held) after limit r (with_value m c.args.key c.args.value.now)) (sym c.root_at-in-Three.ensures) now,
      done.1,
    )

pub returns-in_err-copied-clause-put : goal.returns-in_err-copied-clause-put
returns-in_err-copied-clause-put g c honest m bs (inl bare) = absurd (c.if-root-eq0.false bare.none)
returns-in_err-copied-clause-put g c honest m bs (inr top) =
    let fits : KeyFits c.args.key = (omega arith, omega arith) in
    let sizes = sizes_of g.row.FAN g.row.LEVELS in
    let r : Record = (c.args.key, c.args.value.now) in
    let x = (g.D.Disk.state c.args.disk.now).now.contents in
    rw (passed_on _ c.from_residual-in_err-copied.ensures.1) (fault_puts _ c.if-from-2.room (GrowsBy sizes x r c.args.root.level c.args.root.block) (LacksRoom sizes x c.args.root r) _ _
    (c.in_err-copied.ensures.put g.row.LEVELS honest m bs top.subtree top.lowest top.rising)
    (λ is more over grows.
    let few = grows_few sizes x r c.args.root.level c.args.root.block more grows in
    let greatest : c.args.root.level + 1 ≡ g.row.LEVELS = elim c.if-from-2.branch [ then-from-2 w ↦ absurd (omega (arith, over, few, w.room-is)) | else-from-2 w ↦ omega (arith, w.if-from-2.false, c.from-2.ensures, top.level) ] in
    grows_lacks sizes x (length c.args.held.now) c.args.root m bs c.args.key c.args.value.now fits top greatest more (omega (arith, over)) grows))

pub returns-in-One-clause-replaced : goal.returns-in-One-clause-replaced
returns-in-One-clause-replaced g c honest m bs (inl bare) there = absurd (c.if-root-eq0.false bare.none)
returns-in-One-clause-replaced g c honest m bs (inr top) there = (c.in_ok-copied.ensures.replaced g.row.LEVELS honest m bs top.subtree top.lowest top.rising there).1

pub returns-in_ok-top-in-Two-clause-replaced : goal.returns-in_ok-top-in-Two-clause-replaced
returns-in_ok-top-in-Two-clause-replaced g c honest m bs (inl bare) there = absurd (c.if-root-eq0.false bare.none)
returns-in_ok-top-in-Two-clause-replaced g c honest m bs (inr top) there =
    let one = (c.in_ok-copied.ensures.replaced g.row.LEVELS (c.in_ok-top-in-Two.ensures.writes.goes.earlier honest) m bs top.subtree top.lowest top.rising there).0 in
    absurd (omega (arith, one, ap extra c.in-Two.is))

pub returns-in_ok-top-in-Three-clause-replaced : goal.returns-in_ok-top-in-Three-clause-replaced
returns-in_ok-top-in-Three-clause-replaced g c honest m bs (inl bare) there = absurd (c.if-root-eq0.false bare.none)
returns-in_ok-top-in-Three-clause-replaced g c honest m bs (inr top) there =
    let one = (c.in_ok-copied.ensures.replaced g.row.LEVELS (c.in_ok-top-in-Three.ensures.writes.goes.earlier honest) m bs top.subtree top.lowest top.rising there).0 in
    absurd (omega (arith, one, ap extra c.in-Three.is))

pub returns-in_ok-top-in-Two-clause-wide : goal.returns-in_ok-top-in-Two-clause-wide
unfolding node_bytes node_head
returns-in_ok-top-in-Two-clause-wide g c higher honest up k cs node =
    two_children {l = c.args.root.level + 1} {n = 2} (ap (take 16) (c.in_ok-top-in-Two.ensures.written.bytes_are honest)) (omega (arith, c.if-from.false, c.from.ensures, c.requires.sizes.levels_most)) (omega arith) (omega arith) (rw c.root_at-in-Two.ensures at node)

pub returns-in_ok-top-in-Three-clause-wide : goal.returns-in_ok-top-in-Three-clause-wide
unfolding node_bytes node_head
returns-in_ok-top-in-Three-clause-wide g c higher honest up k cs node =
    two_children {l = c.args.root.level + 1} {n = 3} (ap (take 16) (c.in_ok-top-in-Three.ensures.written.bytes_are honest)) (omega (arith, c.if-from.false, c.from.ensures, c.requires.sizes.levels_most)) (omega arith) (omega arith) (rw c.root_at-in-Three.ensures at node)

pub returns-in_ok-top-in-Two-clause-writes : goal.returns-in_ok-top-in-Two-clause-writes
returns-in_ok-top-in-Two-clause-writes g c =
    let some : 0 < c.if-from-2.room = omega (arith, ap extra c.in-Two.is, c.in_ok-copied.ensures.copied.room) in
    let spent : 2 * c.args.root.level + 2 + min 1 c.if-from-2.room + 1 ≤ min 16 (2 * c.args.root.level + 4) =
    elim c.if-from-2.branch [ then-from-2 w ↦ omega (arith, w.if-from-2.true, c.from-2.ensures, c.requires.sizes.levels_most) | else-from-2 w ↦ absurd (omega (arith, some, w.room-is)) ] in
    writes_then c.in_ok-copied.ensures.writes c.in_ok-top-in-Two.ensures.writes (λ is. cc) (λ spared may. (may, tt)) (omega arith) spent

pub returns-in_err-top-in-Two-clause-writes : goal.returns-in_err-top-in-Two-clause-writes
returns-in_err-top-in-Two-clause-writes g c =
    let some : 0 < c.if-from-2.room = omega (arith, ap extra c.in-Two.is, c.in_ok-copied.ensures.copied.room) in
    let spent : 2 * c.args.root.level + 2 + min 1 c.if-from-2.room + 1 ≤ min 16 (2 * c.args.root.level + 4) =
    elim c.if-from-2.branch [ then-from-2 w ↦ omega (arith, w.if-from-2.true, c.from-2.ensures, c.requires.sizes.levels_most) | else-from-2 w ↦ absurd (omega (arith, some, w.room-is)) ] in
    writes_then c.in_ok-copied.ensures.writes c.in_err-top-in-Two.ensures.writes (search rules) (λ spared may. (may, tt)) (omega arith) spent

pub returns-in_ok-top-in-Three-clause-writes : goal.returns-in_ok-top-in-Three-clause-writes
returns-in_ok-top-in-Three-clause-writes g c =
    let some : 0 < c.if-from-2.room = omega (arith, ap extra c.in-Three.is, c.in_ok-copied.ensures.copied.room) in
    let spent : 2 * c.args.root.level + 2 + min 1 c.if-from-2.room + 1 ≤ min 16 (2 * c.args.root.level + 4) =
    elim c.if-from-2.branch [ then-from-2 w ↦ omega (arith, w.if-from-2.true, c.from-2.ensures, c.requires.sizes.levels_most) | else-from-2 w ↦ absurd (omega (arith, some, w.room-is)) ] in
    writes_then c.in_ok-copied.ensures.writes c.in_ok-top-in-Three.ensures.writes (λ is. cc) (λ spared may. (may, tt)) (omega arith) spent

pub returns-in_err-top-in-Three-clause-writes : goal.returns-in_err-top-in-Three-clause-writes
returns-in_err-top-in-Three-clause-writes g c =
    let some : 0 < c.if-from-2.room = omega (arith, ap extra c.in-Three.is, c.in_ok-copied.ensures.copied.room) in
    let spent : 2 * c.args.root.level + 2 + min 1 c.if-from-2.room + 1 ≤ min 16 (2 * c.args.root.level + 4) =
    elim c.if-from-2.branch [ then-from-2 w ↦ omega (arith, w.if-from-2.true, c.from-2.ensures, c.requires.sizes.levels_most) | else-from-2 w ↦ absurd (omega (arith, some, w.room-is)) ] in
    writes_then c.in_ok-copied.ensures.writes c.in_err-top-in-Three.ensures.writes (search rules) (λ spared may. (may, tt)) (omega arith) spent
