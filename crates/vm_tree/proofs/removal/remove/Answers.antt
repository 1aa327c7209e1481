use Rattle.std.proofs.Common.{◌∙◌, ◌≤◌, ℕ, Ok, [], ◌∷◌, length, option_copied, Bool, true, inl, inr, ap, sym, subst, refl, arith, rules, ◌≡◌}
use Rattle.vm_types.specs.Map.{Map, get, without}
use Rattle.vm_types.specs.Places.{KeyFits, place}
use Rattle.vm_alloc.specs.Held.{IsHeld, free_count}
use Rattle.vm_tree.specs.Splits.{Made}
use Rattle.vm_tree.specs.Tree.{IsData}
use Rattle.vm_block.specs.Changed.{without_place}
use Rattle.vm_tree.specs.Removal.{IsLeftOf, IsOutside, LeavesData, NeedsNone, RemovesBelow, child_of, level_of}
use Rattle.vm_tree.specs.Replacement.{IsRenewed, Replaces}
use Rattle.vm_tree.specs.Root.{sizes_of}
use Rattle.vm_tree.specs.declared.removal.Left.{Left}
use Rattle.vm_tree.proofs.Looking.{passed_on, writes_as}
use Rattle.vm_tree.proofs.RemoveLemmas.{nothing_needs, same_needs}
use Rattle.vm_tree.proofs.Renewing.{all_kept, rooted_so}
use Rattle.vm_tree.proofs.RootRemoval.{rooted_top, rooted_bare, value_there, nothing_left, rest_left}
use Rattle.vm_tree.proofs.removal.remove.Goals as goal

pub returns-then-root-eq0-clause-remove : goal.returns-then-root-eq0-clause-remove
returns-then-root-eq0-clause-remove g c honest m bs rooted =
    let bare = rooted_bare _ _ _ c.args.root m bs rooted c.if-root-eq0.true in ap (λ (n : Map). get n c.args.key) bare.empty

pub returns-in-Same-clause-remove : goal.returns-in-Same-clause-remove
returns-in-Same-clause-remove g c honest m bs rooted =
    let sizes = sizes_of g.row.FAN g.row.LEVELS in
    let x = (g.D.Disk.state c.args.disk.now).now.contents in
    let limit = length c.args.held.now in
    let top = rooted_top sizes x limit c.args.root m bs rooted c.if-root-eq0.false in
    let p = place c.args.key in
    let is : p ≡ place c.args.key = refl in
    let fits : KeyFits c.args.key = (omega arith, omega arith) in
    let before = c.args.held.now in
    let held = c.remove_below.new.held in
    let y = (g.D.Disk.state c.remove_below.new.disk).now.contents in
    let got = subst (λ (left : Left). RemovesBelow (Ok left) p m (λ root. Replaces before held bs (λ P. Made P sizes y limit root.level (child_of root ∷ []) (without_place p m)))) c.in-Same.is
    (c.in_ok-left.ensures.remove g.row.LEVELS honest m bs top.subtree top.lowest top.rising) in
    sym (value_there sizes x limit c.args.root m bs c.args.key p is fits top) ∙ got

pub returns-in-Nothing-clause-remove : goal.returns-in-Nothing-clause-remove
returns-in-Nothing-clause-remove g c honest m bs rooted =
    let sizes = sizes_of g.row.FAN g.row.LEVELS in
    let x = (g.D.Disk.state c.args.disk.now).now.contents in
    let limit = length c.args.held.now in
    let top = rooted_top sizes x limit c.args.root m bs rooted c.if-root-eq0.false in
    let p = place c.args.key in
    let is : p ≡ place c.args.key = refl in
    let fits : KeyFits c.args.key = (omega arith, omega arith) in
    let before = c.args.held.now in
    let held = c.remove_below.new.held in
    let y = (g.D.Disk.state c.remove_below.new.disk).now.contents in
    let got = subst (λ (left : Left). RemovesBelow (Ok left) p m (λ root. Replaces before held bs (λ P. Made P sizes y limit root.level (child_of root ∷ []) (without_place p m)))) c.in-Nothing.is
    (c.in_ok-left.ensures.remove g.row.LEVELS honest m bs top.subtree top.lowest top.rising) in
    (λ absent. got.0 (value_there sizes x limit c.args.root m bs c.args.key p is fits top ∙ absent), λ all. nothing_left sizes x limit c.args.root m bs c.args.key p is fits top (IsHeld held) y c.default.result c.default.ensures.0 got.1)

pub returns-in-Rest-clause-remove : goal.returns-in-Rest-clause-remove
returns-in-Rest-clause-remove g c honest m bs rooted =
    let sizes = sizes_of g.row.FAN g.row.LEVELS in
    let x = (g.D.Disk.state c.args.disk.now).now.contents in
    let limit = length c.args.held.now in
    let top = rooted_top sizes x limit c.args.root m bs rooted c.if-root-eq0.false in
    let p = place c.args.key in
    let is : p ≡ place c.args.key = refl in
    let fits : KeyFits c.args.key = (omega arith, omega arith) in
    let before = c.args.held.now in
    let held = c.remove_below.new.held in
    let y = (g.D.Disk.state c.remove_below.new.disk).now.contents in
    let got = subst (λ (left : Left). RemovesBelow (Ok left) p m (λ root. Replaces before held bs (λ P. Made P sizes y limit root.level (child_of root ∷ []) (without_place p m)))) c.in-Rest.is
    (c.in_ok-left.ensures.remove g.row.LEVELS honest m bs top.subtree top.lowest top.rising) in
    let low : c.in-Rest.root.level ≤ c.args.root.level = subst (λ (left : Left). level_of left c.args.root.level ≤ c.args.root.level) c.in-Rest.is c.in_ok-left.ensures.left.level_is in (
      λ absent. got.0 (value_there sizes x limit c.args.root m bs c.args.key p is fits top ∙ absent),
      λ all.
          let every : ℕ → Bool = λ _. true in
          let P = IsRenewed before held every in
          let rest = rest_left sizes x limit c.args.root m bs c.args.key p is fits top P y c.in-Rest.root low (got.1 every all (all_kept bs)) in
          rooted_so P (IsHeld held) sizes y limit c.in-Rest.root (without m c.args.key) (λ n is. is.now) rest,
    )

pub returns-in_err-left-clause-remove : goal.returns-in_err-left-clause-remove
returns-in_err-left-clause-remove g c honest m bs rooted =
    let sizes = sizes_of g.row.FAN g.row.LEVELS in
    let x = (g.D.Disk.state c.args.disk.now).now.contents in
    let limit = length c.args.held.now in
    let top = rooted_top sizes x limit c.args.root m bs rooted c.if-root-eq0.false in
    let p = place c.args.key in
    let is : p ≡ place c.args.key = refl in
    let fits : KeyFits c.args.key = (omega arith, omega arith) in
    rw (passed_on _ c.from_residual.ensures.1) (c.in_err-left.ensures.remove g.row.LEVELS honest m bs top.subtree top.lowest top.rising)
