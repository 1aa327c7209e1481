use Rattle.std.proofs.Common.{rules, IsTrue, ◌↔◌, subst}
use Rattle.std.proofs.lemmas.List.{map-id}
use Rattle.std.specs.List.Sorted.{IsStrictlySortedBy}
use Rattle.std.specs.Ordering.{is_lt}
use Rattle.std.proofs.lemmas.Fn.{always_returns_same}
use Rattle.vm_types.specs.Map.{key_cmp}
use Rattle.vm_types.proofs.SettledLemmas.{rising-adjacent}
use Rattle.vm_types.proofs.settlements.conflicts_rise.Goals as goal

pub returns : goal.returns
returns c =
    let keys = c.args.conflicts.now in
    let rises = rising-adjacent (λ x. x) keys c.is_sorted_by.result
    (c.is_sorted_by.ensures.cases (λ x y. is_lt (key_cmp x y)) (always_returns_same _ _ _ (λ a r f k. search rules))) in
    subst (λ ks. IsTrue c.is_sorted_by.result ↔ IsStrictlySortedBy key_cmp ks) (map-id keys) rises
