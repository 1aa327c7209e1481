use Rattle.std.proofs.Common.{is_some, sym, ap, ◌∙◌}
use Rattle.vm_types.proofs.MergingLemmas.{first_repeated-here, first_repeated-later, side_of-more}
use Rattle.vm_types.proofs.settlements.sides_by_key.Goals as goal

pub returns-then-is_some-clause-twice : goal.returns-then-is_some-clause-twice
returns-then-is_some-clause-twice c =
    let side = sym (c.in_ok-insert.ensures.old ∙ c.loop-key.invariant.1 _) in
    c.loop-key.invariant.0 ∙ first_repeated-here c.args.settled.now c.loop-key.key-index _ c.loop-key-test.true (ap is_some side ∙ sym c.is_some.ensures ∙ c.if-is_some.true)

pub loop-key-preserved : goal.loop-key-preserved
loop-key-preserved c =
    let side = sym (c.in_ok-insert.ensures.old ∙ c.loop-key.invariant.1 _) in
    let new = ap is_some side ∙ sym c.is_some.ensures ∙ c.if-is_some.false in (
      c.loop-key.invariant.0 ∙ first_repeated-later c.args.settled.now c.loop-key.key-index _ c.loop-key-test.true new,
      side_of-more c.args.settled.now c.loop-key.key-index _ c.loop-key-test.true new _ _ c.loop-key.invariant.1 c.in_ok-insert.ensures.updates.0,
    )
