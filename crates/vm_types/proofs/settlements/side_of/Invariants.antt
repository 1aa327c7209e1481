use Rattle.std.proofs.Common.{◌≡◌, drop}
use Rattle.vm_types.specs.Map.{side_of}
use Rattle.vm_types.proofs.settlements.side_of.Given as goal

-- the key is none of those so far
abbrev pub invariant-loop-other : goal.invariant-loop-other
invariant-loop-other l = side_of l.settled l.fn.key ≡ side_of (drop l.other-index l.settled) l.fn.key
