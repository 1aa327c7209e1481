use Rattle.std.proofs.Common.{◌≡◌, drop}
use Rattle.vm_types.specs.Merge.{from_key}
use Rattle.vm_types.proofs.merge.place_from.Given as goal

-- each change so far has a lower key
abbrev pub invariant-loop-i : goal.invariant-loop-i
invariant-loop-i l = from_key l.key (drop l.from l.changes) ≡ from_key l.key (drop l.i l.changes)
