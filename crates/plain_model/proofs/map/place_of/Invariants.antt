use Rattle.std.proofs.Common.{◌≡◌, ◌++◌, List, ℕ, take, drop}
use Rattle.vm_types.specs.Map.{with_value}
use Rattle.plain_model.proofs.map.place_of.Given as goal

-- a record of the key goes behind those so far
abbrev pub invariant-loop-i : goal.invariant-loop-i
invariant-loop-i l = (value : List ℕ) → with_value l.map l.fn.key value ≡ take l.i l.map ++ with_value (drop l.i l.map) l.fn.key value
