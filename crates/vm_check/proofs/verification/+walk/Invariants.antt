use Rattle.std.proofs.Common.{◌≡◌, ◌+◌, ◌*◌, ◌<◌, ℕ, None, true, List, length, take}
use Rattle.std.specs.Prelude.{slice_index_or}
use Rattle.vm_types.specs.Places.{RisesFrom, place, places}
use Rattle.vm_block.specs.Leaf.{Record}
use Rattle.vm_block.specs.Node.{IsNode, lows}
use Rattle.vm_block.specs.declared.node.Child.{Child}
use Rattle.vm_tree.specs.Root.{sizes_of}
use Rattle.vm_tree.specs.Tree.{Children, Subtree}
use Rattle.vm_check.specs.Surveys.{ChildrenSurveyed, IsParent, Surveyed, Walks}
use Rattle.vm_check.specs.Visits.{Known, VisitedAll}
use Rattle.vm_check.specs.declared.notes.OnDamage.TheVariants.{GoOn}
use Rattle.vm_check.proofs.verification.+walk.Given as goal

abbrev pub decreases-visit : goal.decreases-visit
decreases-visit g l = 3 * l.most

abbrev pub decreases-visit_child : goal.decreases-visit_child
decreases-visit_child g l = 3 * l.level + 1

abbrev pub decreases-visit_children : goal.decreases-visit_children
decreases-visit_children g l = 3 * l.level + 2

-- what was found under the children so far, and that it stands below the next one
abbrev pub invariant-visit_children-loop-i : goal.invariant-visit_children-loop-i
invariant-visit_children-loop-i g l =
    let old = g.D.Disk.state l.fn.disk in
    let now = g.D.Disk.state l.disk in record {
      walks : Walks ⊥ old now l.fn.marks l.marks l.fn.notes l.notes;
      found : now.honest ≡ true → (levels above : ℕ) (cs : List Child) → IsNode l.bytes above cs → length cs ≡ l.count → Known (sizes_of g.row.FAN levels) old.now.contents l.blocks l.level l.fn.marks l.initial.spans
          → l.notes.first ≡ None → VisitedAll (sizes_of g.row.FAN levels) old.now.contents l.blocks l.level (take l.i cs) l.high l.fn.marks l.initial.spans l.marks l.spans
          × (0 < l.i → l.i < length cs → place l.high < slice_index_or (lows cs) l.i 0);
      only : now.honest ≡ true → (levels above : ℕ) (cs : List Child) (rs : List Record) (bs : List ℕ) → IsNode l.bytes above cs → length cs ≡ l.count
          → Known (sizes_of g.row.FAN levels) old.now.contents l.blocks l.level l.fn.marks l.initial.spans
          → Children (Subtree (sizes_of g.row.FAN levels) old.now.contents l.blocks l.level) cs rs bs → RisesFrom 0 (places rs) → l.fn.notes.first ≡ None → l.notes.first ≡ None;
      surveyed : now.honest ≡ true → l.fn.notes.on_damage ≡ GoOn → (levels : ℕ) (ns : List ℕ) (cs : List Child) → IsParent old.now.contents l.blocks ns l.parent l.level l.bytes cs → length cs ≡ l.count
          → Surveyed (sizes_of g.row.FAN levels) old.now.contents l.blocks ns l.level l.fn.marks l.initial.spans l.fn.notes
          → ChildrenSurveyed (sizes_of g.row.FAN levels) old.now.contents l.blocks ns l.parent l.level l.i cs l.high l.fn.marks l.initial.spans l.marks l.spans l.notes;
    }
