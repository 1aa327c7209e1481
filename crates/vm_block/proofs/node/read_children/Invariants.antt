use Rattle.std.proofs.Common.{◌≡◌, ◌*◌, length, take}
use Rattle.std.specs.List.{AllByRecursion, flat_map}
use Rattle.vm_block.specs.Node.{ChildFits, child_bytes}
use Rattle.vm_block.proofs.node.read_children.Given as goal

abbrev pub invariant-loop-i : goal.invariant-loop-i
invariant-loop-i l = record {
  many : length l.children.items ≡ l.i;
  fit : AllByRecursion ChildFits l.children.items;
  spelled : take (14 * l.i) l.bytes ≡ flat_map child_bytes l.children.items;
}
