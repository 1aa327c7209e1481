use Rattle.std.proofs.Common.{is_some, sym, ap, ◌∙◌}
use Rattle.vm_types.proofs.MergingLemmas.{first_repeated-here, first_repeated-later}
use Rattle.vm_types.proofs.settlements.settled_twice.Goals as goal

pub returns-then-is_some : goal.returns-then-is_some
returns-then-is_some c =
    sym (c.loop-i.invariant ∙ first_repeated-here c.args.settled.now c.loop-i.i _ c.loop-i-test.true (ap is_some (sym c.side_of.ensures) ∙ sym c.is_some.ensures ∙ c.if-is_some.true))

pub loop-i-preserved : goal.loop-i-preserved
loop-i-preserved c =
    c.loop-i.invariant ∙ first_repeated-later c.args.settled.now c.loop-i.i _ c.loop-i-test.true (ap is_some (sym c.side_of.ensures) ∙ sym c.is_some.ensures ∙ c.if-is_some.false)
