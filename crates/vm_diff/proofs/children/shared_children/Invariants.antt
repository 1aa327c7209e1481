use Rattle.std.proofs.Common.{◌≡◌, ℕ, ◌+◌, ◌<◌}
use Rattle.vm_block.specs.Row.{node_row}
use Rattle.vm_diff.proofs.children.shared_children.Given as goal

-- the rows so far are equal
abbrev pub invariant-loop-i : goal.invariant-loop-i
invariant-loop-i l = (k : ℕ) → k < l.i → node_row l.one (l.at + k) ≡ node_row l.other (l.other_at + k)
