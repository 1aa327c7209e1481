-- What a command does that is refused before it takes or writes a block, and what one takes that is refused later.
use Rattle.std.proofs.Common.{◌≡◌, ◌⊎◌, inl, inr, ℕ, ◌≤◌, Bool, List, Result, Ok, Err, ap, arith, subst, sym, refl}
use Rattle.vm_types.specs.declared.answer.Answer.{Answer}
use Rattle.vm_types.specs.declared.answer.Answer.TheVariants.{Done}
use Rattle.vm_types.specs.declared.refusal.Refusal.{Refusal}
use Rattle.vm_types.specs.declared.refusal.Refusal.TheVariants.{Device}
use Rattle.vm_types.specs.State.{State, blocks_a_change}
use Rattle.vm_disk.specs.Moments.{OnlyReads}
use Rattle.vm_disk.proofs.GoesLemmas.{goes_at, goes_nowhere}
use Rattle.vm_disk.proofs.MomentLemmas.{reads_then, started}
use Rattle.vm_alloc.specs.Held.{free_count}
use Rattle.vm_tree.specs.Calls.{IsRefused}
use Rattle.vm_tree.specs.Faults.{refusal_of, refusal_of_put}
use Rattle.vm_tree.specs.Free.{TakesAtMost}
use Rattle.vm_tree.specs.declared.faults.PutFault.{PutFault}
use Rattle.vm_tree.specs.declared.faults.PutFault.TheVariants as put
use Rattle.vm_tree.specs.declared.faults.TreeFault.{TreeFault}
use Rattle.vm_tree.specs.declared.faults.TreeFault.TheVariants as fault
use Rattle.vm_tree.specs.declared.root.Root.{Root}
use Rattle.vm_store.specs.Answers.{ComesAfterMarking, ComesFirst, most_taken}
use Rattle.vm_store.specs.Store.{FirstReads, Holds, IsHonest, MarksStore, ReadsAlone, TakesUpTo, disk_of, free_of, held_of}
use Rattle.vm_store.specs.declared.store.Store.{Store}

-- a fault in a tree comes later
pub late_fault : (f : TreeFault) → ComesFirst (refusal_of f) → ⊥
late_fault fault.Device first = first
late_fault (fault.Damaged b) first = first

pub late_put : (f : PutFault) → ComesFirst (refusal_of_put f) → ⊥
late_put (put.Tree f) first = late_fault f first
late_put put.Deep first = first

-- nor does one in a tree that is looked at come after a marking
pub unmarked_fault : (f : TreeFault) → ComesAfterMarking (Err (refusal_of f)) → ⊥
unmarked_fault fault.Device late = late
unmarked_fault (fault.Damaged b) late = late

-- a change that is refused for a fault takes no block, unless the device failed
module _ (most : ℕ) (held later : List Bool) (taken : TakesAtMost most held later) where
  pub fault_takes : (f : TreeFault) → ((b : ℕ) → f ≡ fault.Damaged b → later ≡ held) → TakesAtMost (most_taken most (Err (refusal_of f))) held later
  fault_takes fault.Device damaged = taken
  fault_takes (fault.Damaged b) damaged = omega (arith, ap free_count (damaged b refl))

  pub put_takes : (f : PutFault) → (IsRefused {T = Root} (Err f) → later ≡ held) → TakesAtMost (most_taken most (Err (refusal_of_put f))) held later
  put_takes (put.Tree fault.Device) refused = taken
  put_takes (put.Tree (fault.Damaged b)) refused = omega (arith, ap free_count (refused tt))
  put_takes put.Deep refused = omega (arith, ap free_count (refused tt))

module _ {D : Type 0} {members : _} where
  -- no device call was made
  pub unread : (a : Result Answer Refusal) (old new : Store D members) → disk_of new ≡ disk_of old → FirstReads a old new
  unread (Ok x) old new same = tt
  unread (Err refusal) old new same = λ first. subst (λ d. OnlyReads (members.state (disk_of old)) (members.state d)) (sym same) (started _ _ refl)

  -- it read before
  pub first_then : (a : Result Answer Refusal) (old mid new : Store D members) → ReadsAlone old mid → FirstReads a mid new → FirstReads a old new
  first_then (Ok x) old mid new before reads = tt
  first_then (Err refusal) old mid new before reads = λ first. reads_then _ _ _ before (reads first)

  -- it was done, or the device failed
  pub done_or_device : (a : Result Answer Refusal) (old new : Store D members) → (a ≡ Ok Done) ⊎ (a ≡ Err Device) → FirstReads a old new
  done_or_device a old new (inl done) = subst (λ r. FirstReads r old new) (sym done) tt
  done_or_device a old new (inr device) = subst (λ r. FirstReads r old new) (sym device) (λ first. absurd first)

  -- a change takes none that is refused where blocks are marked
  pub takes_none : (most : ℕ) (r : Refusal) (old new : Store D members) → (blocks_a_change ≤ free_of old → held_of new ≡ held_of old) → (IsHonest new → (s : State) → Holds old s → r ≡ Device)
      → TakesUpTo most (Err r) old new
  takes_none most r old new same only =
      (λ enough. omega (arith, ap free_count (same enough)), λ honest few late s holds. absurd (subst (λ r. ComesAfterMarking (Err r)) (only honest s holds) late))

module _ {D : Type 0} {members : _} where
  -- what marks no block
  pub marks_none : {T : Type 0} (x : T) (store : Store D members) → MarksStore (Ok x) store store
  marks_none x store = record {
    any = goes_nowhere _ _ _ refl (λ is. cc);
    failed = refl;
    never = (λ is. cc, λ is. cc, λ is. cc);
    late = tt;
    same = refl;
    roots = refl;
    reads = λ honest. started _ _ refl;
    only = λ honest s holds. tt;
    state = λ honest s holds. holds;
  }

  -- what is told after a marking that was done
  pub marks_told : {T U : Type 0} (x : T) (y : U) {old new : Store D members} → MarksStore (Ok x) old new → MarksStore (Ok y) old new
  marks_told x y marks = record {
    any = goes_at _ _ _ _ marks.any (λ is. cc);
    failed = marks.failed;
    never = (λ is. cc, λ is. cc, λ is. cc);
    late = tt;
    same = marks.same;
    roots = marks.roots;
    reads = marks.reads;
    only = λ honest s holds. tt;
    state = marks.state;
  }

  -- and where it failed
  pub marks_failed : {T U : Type 0} (e : Refusal) {old new : Store D members} → MarksStore {T = T} (Err e) old new → MarksStore {T = U} (Err e) old new
  marks_failed e marks = record {
    any = goes_at _ _ _ _ marks.any (λ is. cc);
    failed = marks.failed;
    never = (λ is. marks.never.0 cc, λ is. marks.never.1 cc, λ is. marks.never.2 cc);
    late = marks.late;
    same = marks.same;
    roots = marks.roots;
    reads = marks.reads;
    only = marks.only;
    state = marks.state;
  }
