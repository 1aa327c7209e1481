-- What calls do that mark blocks, one after another.
use Rattle.std.proofs.Common.{◌≡◌, ℕ, ◌≤◌, Bool, true, List, length, sym, subst, arith}
use Rattle.std.specs.Prelude.{slice_set}
use Rattle.vm_disk.specs.Disk.{DiskState, block}
use Rattle.vm_disk.proofs.MomentLemmas.{same_medium}
use Rattle.vm_alloc.specs.Held.{HoldsMore}
use Rattle.vm_alloc.specs.Marks.{IsMarked}
use Rattle.vm_alloc.proofs.HeldLemmas.{holds_more_then, taken_holds_more}
use Rattle.vm_tree.specs.BlockReads.{LooksOnce}
use Rattle.vm_tree.specs.Tree.{IsData}
use Rattle.vm_tree.proofs.Looking.{looks_none, looks_on, looks_once, looks_so}
use Rattle.vm_check.specs.Marks.{Marking, is_inner, unmarked}
use Rattle.vm_check.proofs.InnerLemmas.{inner_less, inner_more, inner_then}
use Rattle.vm_check.proofs.MarkLemmas.{set_less}

-- a call that reads nothing, and perhaps marks
pub marking_unread : {fails done : Type 0} {s : DiskState} {marks later : List Bool} → (fails → ⊥) → unmarked later ≤ unmarked marks → HoldsMore marks later → Marking fails done s s marks later
marking_unread {s = s} {marks = marks} {later = later} fine fewer grows = record {
  looks = looks_none _ fine;
  growing = grows;
  once = omega (arith, fewer);
  inner = λ done honest. omega (arith, inner_more s.now.contents marks later grows);
}

-- a call that reads a block which was not marked, and marks it
pub marking_read : {fails both done : Type 0} {limit b : ℕ} {old new : DiskState} {marks first : List Bool} → LooksOnce limit b fails old new → IsData limit b → first ≡ slice_set marks b true → length marks ≡ limit → (IsMarked marks b → ⊥)
    → (both → fails) → (done → new.honest ≡ true → is_inner (block old.now.contents b) ≡ true) → Marking both done old new marks first
marking_read {b = b} {marks = marks} looks inside set many fresh cause letters = record {
  looks = looks_so (looks_once looks) cause;
  growing = subst (HoldsMore marks) (sym set) (taken_holds_more marks b);
  once = omega (arith, looks.once.most, set_less _ _ _ _ set many inside fresh);
  inner = λ done honest. omega (arith, looks.once.most, inner_less _ _ _ b set (omega (arith, inside.1, many)) fresh (letters done honest));
}

-- a call that marks, after another one
pub marking_on : {first done second then both all : Type 0} {old mid new : DiskState} {a b c : List Bool} → Marking first done old mid a b → done → Marking second then mid new b c → (both → second) → (all → then) → Marking both all old new a c
marking_on so_far is more cause so = record {
  looks = looks_on so_far.looks more.looks cause;
  growing = holds_more_then _ _ _ so_far.growing more.growing;
  once = omega (arith, so_far.once, more.once);
  inner = λ all honest.
      let earlier = more.looks.goes.earlier honest in
      inner_then _ _ _ _ _ _ _ _ (same_medium _ _ (so_far.looks.reads earlier)) (so_far.inner is earlier) (more.inner (so all) honest);
}
