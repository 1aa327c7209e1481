use Rattle.std.proofs.Common.{Ok, ◌≡◌, ◌+◌, ◌≤◌, true, map, take}
use Rattle.vm_tree.specs.Calls.{OnlyLooks}
use Rattle.vm_tree.specs.declared.root.Root.{Root}
use Rattle.vm_check.specs.Trees.{AreFound, IsFound}
use Rattle.vm_check.proofs.trees.find_roots.Given as goal

-- what was found under the numbers so far
abbrev pub invariant-loop-number : goal.invariant-loop-number
invariant-loop-number g l =
    let old = g.D.Disk.state l.fn.disk in
    let now = g.D.Disk.state l.disk in record {
      looks : OnlyLooks {T = Unit {0}} (Ok tt) old now;
      once : now.reads ≤ old.reads + l.number-index;
      named : map (λ (r : Root). r.block) l.roots.items ≡ take l.number-index l.numbers;
      found : now.honest ≡ true → AreFound old.now.contents l.blocks l.roots.items;
      last : now.honest ≡ true → IsFound old.now.contents l.blocks l.last;
    }
