use Rattle.std.proofs.Common.{take, drop}
use Rattle.vm_block.specs.Slot.{Follows}
use Rattle.vm_catalog.proofs.ledger.all_follow.Given as goal

-- the entries so far may follow those before them
abbrev pub invariant-loop-i : goal.invariant-loop-i
invariant-loop-i l = Follows (take 1 l.entries) (drop 1 (take l.i l.entries))
