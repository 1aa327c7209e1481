use Rattle.std.proofs.Common.{Ok, ◌≡◌, ◌+◌, ◌-◌, true, List, length}
use Rattle.vm_block.specs.Node.{IsNode}
use Rattle.vm_block.specs.declared.node.Child.{Child}
use Rattle.vm_tree.specs.Tree.{Sizes}
use Rattle.vm_check.specs.Marks.{MarksBlocks}
use Rattle.vm_check.proofs.MarkLemmas.{IsBelow, MarkedSoFar}
use Rattle.vm_check.proofs.OnlyLemmas.{OnlySoFar}
use Rattle.vm_check.proofs.marks.+mark_below.Given as goal

abbrev pub decreases-mark_below : goal.decreases-mark_below
decreases-mark_below g l = l.level + l.level + 1

abbrev pub decreases-mark_node : goal.decreases-mark_node
decreases-mark_node g l = l.level + l.level

abbrev pub invariant-mark_node-loop-i : goal.invariant-mark_node-loop-i
invariant-mark_node-loop-i g l =
    let old = g.D.Disk.state l.fn.disk in
    let now = g.D.Disk.state l.disk in record {
      marking : MarksBlocks {T = Unit {0}} (Ok tt) old now l.fn.marks l.marks;
      since : now.honest ≡ true → (g.D.Disk.state l.initial.disk).honest ≡ true;
      many : length l.marks ≡ l.blocks;
      marked : now.honest ≡ true → (sizes : Sizes) (cs : List Child) → IsNode l.bytes l.level cs → length cs ≡ l.count → MarkedSoFar sizes l.blocks (l.level - 1) old.now.contents cs l.i l.initial.marks l.marks;
      only : now.honest ≡ true → (sizes : Sizes) (cs : List Child) → IsNode l.bytes l.level cs → length cs ≡ l.count → OnlySoFar (IsBelow sizes old.now.contents l.blocks (l.level - 1)) cs l.i l.initial.marks l.marks;
    }
