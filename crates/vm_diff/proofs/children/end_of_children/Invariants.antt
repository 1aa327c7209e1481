use Rattle.std.proofs.Common.{ℕ, ◌<◌, ◌≤◌}
use Rattle.vm_types.specs.Places.{place}
use Rattle.vm_block.specs.Row.{child_of, node_row}
use Rattle.vm_diff.proofs.children.end_of_children.Given as goal

-- the children so far begin at the key or before it
abbrev pub invariant-loop-i : goal.invariant-loop-i
invariant-loop-i l = (k : ℕ) → l.at ≤ k → k < l.i → place (child_of (node_row l.bytes k)).low ≤ place l.high
