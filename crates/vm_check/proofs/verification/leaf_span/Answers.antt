use Rattle.std.proofs.Common.{◌≡◌, ◌-◌, [], length, get_or, ap, ◌∙◌, subst, arith}
use Rattle.vm_types.specs.declared.key.Key.{Key}
use Rattle.vm_block.specs.Leaf.{Record}
use Rattle.vm_check.specs.Keys.{IsHighest}
use Rattle.vm_check.proofs.SpanLemmas.{highest_last}
use Rattle.vm_check.proofs.verification.leaf_span.Goals as goal

pub returns-clause-high : goal.returns-clause-high
returns-clause-high c rs leaf many =
    let last : Record = (c.record_key.result, []) in
    let here : (get_or rs (length rs - 1) last).0 ≡ c.record_key.result = ap (λ n. (get_or rs (n - 1) last).0) many ∙ c.record_key.ensures.key rs leaf last (omega (arith, many, c.requires.some)) in
    subst (λ (k : Key). IsHighest k rs) here (highest_last rs last 0 leaf.some leaf.rising)
