use Rattle.std.proofs.Common.{◌≡◌, [], map, take, drop}
use Rattle.std.specs.BTreeMap as tree
use Rattle.vm_types.specs.declared.key.Key.{Key}
use Rattle.vm_types.specs.Map.{key_cmp, side_of}
use Rattle.vm_types.specs.Step.{first_repeated}
use Rattle.vm_types.proofs.settlements.sides_by_key.Given as goal

-- no key so far repeats an earlier one, and each has its side
abbrev pub invariant-loop-key : goal.invariant-loop-key
invariant-loop-key l =
    (first_repeated [] (map (λ e. e.0) l.settled) ≡ first_repeated (map (λ e. e.0) (take l.key-index l.settled)) (map (λ e. e.0) (drop l.key-index l.settled)))
    × ((q : Key) → tree.get key_cmp l.sides q ≡ side_of (take l.key-index l.settled) q)
