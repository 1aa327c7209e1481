use Rattle.std.proofs.Common.{◌≡◌, ◌*◌, ◌++◌, map, take, drop}
use Rattle.std.specs.List.{flat_map}
use Rattle.vm_block.specs.Bounds.{bounds_of, moved}
use Rattle.vm_block.specs.Leaf.{bound_bytes}
use Rattle.vm_block.proofs.bounds.move_bounds.Given as goal

abbrev pub invariant-loop-i : goal.invariant-loop-i
invariant-loop-i l = l.out ≡ flat_map bound_bytes (take l.i (map (moved l.from l.to) (bounds_of l.count l.bytes))) ++ drop (12 * l.i) l.fn.out
