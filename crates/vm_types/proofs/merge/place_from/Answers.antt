use Rattle.std.proofs.Common.{None, arith, sym, ap, ◌∙◌}
use Rattle.std.specs.Ordering.{is_lt}
use Rattle.vm_types.specs.declared.change.Change.{Change}
use Rattle.vm_types.specs.Map.{key_cmp}
use Rattle.vm_types.proofs.MergingLemmas.{from_key-passes, from_key-stops}
use Rattle.vm_types.proofs.merge.place_from.Goals as goal

pub returns-then-not-is_lt-clause-rest : goal.returns-then-not-is_lt-clause-rest
returns-then-not-is_lt-clause-rest c =
    let d : Change = record { key = c.key.result; before = None; after = None } in
    let above = ap (λ k. is_lt (key_cmp k c.args.key)) (sym (c.key.ensures d)) ∙ ap is_lt (sym c.cmp.ensures) ∙ sym c.if-not-is_lt.ensures in
    sym (c.loop-i.invariant ∙ from_key-stops c.args.key c.args.changes.now c.loop-i.i d (omega arith) above)

pub loop-i-preserved : goal.loop-i-preserved
loop-i-preserved c =
    let d : Change = record { key = c.key.result; before = None; after = None } in
    let below = ap (λ k. is_lt (key_cmp k c.args.key)) (sym (c.key.ensures d)) ∙ ap is_lt (sym c.cmp.ensures) ∙ sym c.if-not-is_lt.ensures in
    c.loop-i.invariant ∙ from_key-passes c.args.key c.args.changes.now c.loop-i.i d (omega arith) below
