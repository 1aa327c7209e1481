use Rattle.vm_tree.proofs.RecordsLeft.{Pushed}
use Rattle.vm_tree.proofs.ranges.push_records.Given as goal

-- the first records were gone through
abbrev pub invariant-loop-i : goal.invariant-loop-i
invariant-loop-i l = Pushed l.bytes l.count l.window l.i l.initial.into l.into
