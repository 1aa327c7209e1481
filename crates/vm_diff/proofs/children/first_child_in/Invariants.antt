use Rattle.std.proofs.Common.{◌<◌, ◌≤◌}
use Rattle.vm_types.specs.Places.{place}
use Rattle.vm_block.specs.Row.{child_of, node_row}
use Rattle.vm_diff.proofs.children.first_child_in.Given as goal

-- past the first, the child at hand begins at the key or before it
abbrev pub invariant-loop-i : goal.invariant-loop-i
invariant-loop-i l = l.at < l.i → (l.i < l.count) × (place (child_of (node_row l.bytes l.i)).low ≤ place l.low)
