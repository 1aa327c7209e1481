use Rattle.std.proofs.Common.{◌+◌, ap, arith}
use Rattle.vm_types.specs.Places.{place}
use Rattle.vm_block.specs.Row.{node_row}
use Rattle.vm_block.specs.declared.node.Child.{Child}
use Rattle.vm_block.proofs.RowLemmas.{row_child}
use Rattle.vm_diff.proofs.children.first_child_in.Goals as goal

pub loop-i-preserved : goal.loop-i-preserved
loop-i-preserved c lt =
    let is = row_child (node_row c.args.bytes.now (c.loop-i.i + 1)) c.child_at.result c.child_at.ensures.fits c.child_at.ensures.spelled in
    (omega (arith, c.if-i-count.false, c.loop-i-test.true), omega (arith, ap (λ (d : Child). place d.low) is, c.if-place.false, c.place.ensures.place, c.place-in-loop-i.ensures.place))

pub returns-then-place-clause-next : goal.returns-then-place-clause-next
returns-then-place-clause-next c lt =
    let is = row_child (node_row c.args.bytes.now (c.loop-i.i + 1)) c.child_at.result c.child_at.ensures.fits c.child_at.ensures.spelled in
    omega (arith, ap (λ (d : Child). place d.low) is, c.if-place.true, c.place.ensures.place, c.place-in-loop-i.ensures.place)

pub returns-clause-passed : goal.returns-clause-passed
returns-clause-passed c lt =
    let inside = c.loop-i.invariant (omega (arith, lt, c.loop-i-test.false)) in
    absurd (omega (arith, inside.0, c.loop-i-test.false))
