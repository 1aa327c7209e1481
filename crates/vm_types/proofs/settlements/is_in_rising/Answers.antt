use Rattle.std.proofs.Common.{rules, sym, ◌∙◌}
use Rattle.std.proofs.lemmas.Fn.{always_returns_same}
use Rattle.vm_types.specs.Map.{key_cmp}
use Rattle.vm_types.proofs.SettledLemmas.{searched-any}
use Rattle.vm_types.proofs.settlements.is_in_rising.Goals as goal

pub returns : goal.returns
returns c =
    c.is_ok.ensures.value
    ∙ sym (searched-any c.args.key c.args.conflicts.now c.binary_search_by.result c.requires c.binary_search_by.ensures.bound
    (c.binary_search_by.ensures.position (λ x. key_cmp x c.args.key) (always_returns_same _ _ _ (λ a r f k. search rules))))
