use Rattle.std.proofs.Common.{◌≡◌, ◌+◌, ◌*◌, Ok, ℕ, true, List, length}
use Rattle.vm_disk.specs.Disk.{block}
use Rattle.vm_block.specs.Node.{IsNode}
use Rattle.vm_block.specs.declared.node.Child.{Child}
use Rattle.vm_check.specs.TreeCopy.{AreCopied, ChildCopied, CopiesOnly, IsUpTo, ReachedChildrenCopy, StepsTo, WhereCopied}
use Rattle.vm_check.proofs.CopySoFar.{SoFar}
use Rattle.vm_check.proofs.tree_copy.+copy_below.Given as goal

abbrev pub decreases-copy_below : goal.decreases-copy_below
decreases-copy_below g l = 3 * l.level + 2

abbrev pub decreases-copy_node : goal.decreases-copy_node
decreases-copy_node g l = 3 * l.level + 1

abbrev pub decreases-copy_children : goal.decreases-copy_children
decreases-copy_children g l = 3 * l.level + 3

abbrev pub invariant-copy_children-loop-i : goal.invariant-copy_children-loop-i
invariant-copy_children-loop-i g l =
    let s = g.S.Disk.state l.fn.source in
    let t = g.T.Disk.state l.fn.target in
    let s' = g.S.Disk.state l.source in
    let t' = g.T.Disk.state l.target in record {
      step : StepsTo {T = Unit {0}} (Ok tt) l.limit s t l.fn.numbers s' t' l.numbers;
      only : s'.honest ≡ true → CopiesOnly (λ n. IsUpTo l.level (block s.now.contents n)) l.fn.numbers l.numbers;
      reached : ReachedChildrenCopy {T = Unit {0}} (Ok tt) l.blocks l.level l.count l.fn.bytes s l.fn.numbers s' l.numbers;
      nodes : (above : ℕ) (cs : List Child) → IsNode l.fn.bytes above cs → l.count ≡ length cs → SoFar (λ _ _. Unit {0}) (IsNode l.bytes above) l.i cs;
      copied : (above : ℕ) (cs : List Child) → IsNode l.fn.bytes above cs → l.count ≡ length cs
          → WhereCopied l.limit s t l.fn.numbers s' t' (AreCopied s.now.contents t'.now.contents l.limit l.numbers × SoFar (ChildCopied l.numbers) (IsNode l.bytes above) l.i cs);
    }
