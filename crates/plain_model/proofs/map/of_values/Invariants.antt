use Rattle.std.proofs.Common.{◌≡◌, take}
use Rattle.plain_model.proofs.map.of_values.Given as goal

-- the records so far are there
abbrev pub invariant-loop-key : goal.invariant-loop-key
invariant-loop-key l = l.map.items ≡ take l.key-index l.records
