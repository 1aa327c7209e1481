use Rattle.std.proofs.Common.{◌≡◌, drop}
use Rattle.vm_types.specs.Merge.{settled_from}
use Rattle.vm_types.proofs.merge.settled_from.Given as goal

-- each settlement so far has a lower key
abbrev pub invariant-loop-i : goal.invariant-loop-i
invariant-loop-i l = settled_from l.fn.key l.settled ≡ settled_from l.fn.key (drop l.i l.settled)
