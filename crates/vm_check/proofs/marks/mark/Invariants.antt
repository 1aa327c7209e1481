use Rattle.std.proofs.Common.{Ok, ◌≡◌, true, length}
use Rattle.vm_tree.specs.Tree.{Sizes}
use Rattle.vm_check.specs.Marks.{IsUnder, MarksBlocks}
use Rattle.vm_check.proofs.RootLemmas.{RootsSoFar}
use Rattle.vm_check.proofs.OnlyLemmas.{OnlySoFar}
use Rattle.vm_check.proofs.marks.mark.Given as goal

abbrev pub invariant-loop-root : goal.invariant-loop-root
invariant-loop-root g l =
    let old = g.D.Disk.state l.fn.disk in
    let now = g.D.Disk.state l.disk in record {
      marking : MarksBlocks {T = Unit {0}} (Ok tt) old now l.fn.marks l.marks;
      many : length l.marks ≡ l.blocks;
      marked : now.honest ≡ true → (sizes : Sizes) → RootsSoFar sizes l.blocks old.now.contents l.roots l.root-index l.fn.marks l.marks;
      only : now.honest ≡ true → (sizes : Sizes) → OnlySoFar (IsUnder sizes old.now.contents l.blocks) l.roots l.root-index l.fn.marks l.marks;
    }
