use Rattle.std.proofs.Common.{◌≡◌, ◌+◌, None, true, length, take, map}
use Rattle.vm_tree.specs.Calls.{Looks}
use Rattle.vm_tree.specs.Root.{sizes_of}
use Rattle.vm_tree.specs.declared.root.Root.{Root}
use Rattle.vm_check.specs.Marks.{unmarked}
use Rattle.vm_check.specs.Verification.{HaveTrees}
use Rattle.vm_check.specs.declared.notes.OnDamage.TheVariants.{GoOn}
use Rattle.vm_check.proofs.FoundLemmas.{FoundSoFar}
use Rattle.vm_check.proofs.SurveyLemmas.{NumbersSurveyed}
use Rattle.vm_check.proofs.verification.walk_numbers.Given as goal

-- what was found under the numbers so far
abbrev pub invariant-loop-number : goal.invariant-loop-number
invariant-loop-number g l =
    let old = g.D.Disk.state l.fn.disk in
    let now = g.D.Disk.state l.disk in record {
      looks : Looks ⊥ old now;
      many : length l.marks ≡ l.blocks;
      room : length l.spans ≡ l.blocks;
      noted : length l.notes.damaged ≡ l.blocks;
      once : now.reads + unmarked l.marks + 34 ≡ old.reads + l.blocks;
      on_damage : l.notes.on_damage ≡ l.initial.notes.on_damage;
      named : l.notes.first ≡ None → map (λ (r : Root). r.block) l.roots.items ≡ take l.number-index l.numbers;
      found : now.honest ≡ true → l.notes.first ≡ None → FoundSoFar (sizes_of g.row.FAN g.row.LEVELS) old.now.contents l.blocks (take l.number-index l.numbers) l.roots.items l.marks l.spans;
      only : now.honest ≡ true → HaveTrees (sizes_of g.row.FAN g.row.LEVELS) old.now.contents l.blocks l.numbers → l.notes.first ≡ None;
      surveyed : now.honest ≡ true → l.initial.notes.on_damage ≡ GoOn → NumbersSurveyed (sizes_of g.row.FAN g.row.LEVELS) old.now.contents l.blocks l.numbers l.number-index l.marks l.spans l.notes;
    }
