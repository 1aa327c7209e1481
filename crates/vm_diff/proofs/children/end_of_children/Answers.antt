use Rattle.std.proofs.Common.{◌≡◌, ◌≤◌, inl, inr, ap, subst, arith}
use Rattle.std.proofs.lemmas.Bool.{cases_lt}
use Rattle.vm_types.specs.Places.{place}
use Rattle.vm_block.specs.Row.{child_of, node_row}
use Rattle.vm_block.specs.declared.node.Child.{Child}
use Rattle.vm_block.proofs.RowLemmas.{row_child}
use Rattle.vm_diff.proofs.children.end_of_children.Goals as goal

pub returns-then-place-clause-above : goal.returns-then-place-clause-above
returns-then-place-clause-above c lt =
    let is = row_child (node_row c.args.bytes.now c.loop-i.i) c.child_at.result c.child_at.ensures.fits c.child_at.ensures.spelled in
    omega (arith, ap (λ (d : Child). place d.low) is, c.if-place.true, c.place.ensures.place, c.place-in-loop-i.ensures.place)

pub loop-i-preserved : goal.loop-i-preserved
loop-i-preserved c k least lt =
    let is = row_child (node_row c.args.bytes.now c.loop-i.i) c.child_at.result c.child_at.ensures.fits c.child_at.ensures.spelled in
    let here : place (child_of (node_row c.args.bytes.now c.loop-i.i)).low ≤ place c.args.high = omega (arith, ap (λ (d : Child). place d.low) is, c.if-place.false, c.place.ensures.place, c.place-in-loop-i.ensures.place) in
    elim (cases_lt k c.loop-i.i) [
      | inl before ↦ c.loop-i.invariant k least before
      | inr le ↦ let same : c.loop-i.i ≡ k = omega (arith, le, lt) in subst (λ j. place (child_of (node_row c.args.bytes.now j)).low ≤ place c.args.high) same here
    ]
