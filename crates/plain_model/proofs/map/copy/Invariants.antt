use Rattle.std.proofs.Common.{◌≡◌, take}
use Rattle.plain_model.proofs.map.copy.Given as goal

-- the records so far are there
abbrev pub invariant-loop-key : goal.invariant-loop-key
invariant-loop-key l = l.copy.items ≡ take l.key-index l.map
