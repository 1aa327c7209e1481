use Rattle.std.proofs.Common.{◌≡◌, ◌*◌, ◌++◌, take, drop}
use Rattle.std.specs.List.{flat_map}
use Rattle.vm_block.specs.Node.{child_bytes}
use Rattle.vm_block.proofs.node.write_children.Given as goal

abbrev pub invariant-loop-i : goal.invariant-loop-i
invariant-loop-i l = l.out ≡ flat_map child_bytes (take l.i l.children) ++ drop (14 * l.i) l.fn.out
