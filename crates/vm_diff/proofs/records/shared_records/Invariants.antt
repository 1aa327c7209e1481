use Rattle.std.proofs.Common.{ℕ, ◌+◌, ◌<◌}
use Rattle.vm_diff.specs.Rows.{IsSameRecord}
use Rattle.vm_diff.proofs.records.shared_records.Given as goal

-- the records so far are the same
abbrev pub invariant-loop-i : goal.invariant-loop-i
invariant-loop-i l = (k : ℕ) → k < l.i → IsSameRecord l.one (l.at + k) l.other (l.other_at + k)
