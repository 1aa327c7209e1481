use Rattle.std.proofs.Common.{rules}
use Rattle.std.specs.Ordering.{is_lt}
use Rattle.std.proofs.lemmas.Fn.{always_returns_same}
use Rattle.vm_types.specs.Map.{key_cmp}
use Rattle.vm_types.proofs.SettledLemmas.{rising-adjacent}
use Rattle.vm_types.proofs.settlements.settled_rise.Goals as goal

pub returns : goal.returns
returns c =
    rising-adjacent (λ x. x.0) c.args.settled.now c.is_sorted_by.result
    (c.is_sorted_by.ensures.cases (λ x y. is_lt (key_cmp x.0 y.0)) (always_returns_same _ _ _ (λ a r f k. search rules)))
