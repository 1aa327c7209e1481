-- What a Merge takes of the free blocks, and what it reads, on each of its ways out.
use Rattle.std.proofs.Common.{◌≡◌, ◌⊎◌, inl, inr, ℕ, ◌*◌, ◌≤◌, Bool, true, false, List, Option, Some, None, option_map, Result, Err, if◌then◌else◌, sym, ap, arith, subst}
use Rattle.std.specs.Option.{option_or}
use Rattle.vm_types.specs.declared.answer.Answer.{Answer}
use Rattle.vm_types.specs.declared.key.Key.{Key}
use Rattle.vm_types.specs.declared.refusal.Refusal.{Refusal}
use Rattle.vm_types.specs.declared.refusal.Refusal.TheVariants.{Device, Full, Memory, NotInConflict, SettledTwice, Unsettled}
use Rattle.vm_types.specs.State.{blocks_a_change}
use Rattle.vm_tree.specs.Faults.{refusal_of, refusal_of_put}
use Rattle.vm_tree.specs.declared.faults.PutFault.{PutFault}
use Rattle.vm_tree.specs.declared.faults.PutFault.TheVariants as put
use Rattle.vm_tree.specs.declared.faults.TreeFault.{TreeFault}
use Rattle.vm_tree.specs.declared.faults.TreeFault.TheVariants as fault
use Rattle.vm_store.specs.Answers.{ComesAfterMarking, IsEarly, TakesForChanges, taken_by_changes}
use Rattle.vm_store.specs.Pairs.{LacksPair}
use Rattle.vm_store.specs.declared.version.Version.{Version}

-- the refusal comes before blocks are marked
abbrev pub IsUnmarked : Refusal → Type 0
IsUnmarked refusal = ComesAfterMarking (Err refusal) → ⊥

-- one for an alternative or a parent that is not there does
pub pair_unmarked : (vs : List Version) (alt : List ℕ) (refusal : Refusal) → LacksPair vs alt refusal → IsUnmarked refusal
pair_unmarked vs alt refusal (inl lacks) = subst IsUnmarked (sym lacks.0) (λ late. late)
pair_unmarked vs alt refusal (inr (own, found, inl first)) = subst IsUnmarked (sym first.0) (λ late. late)
pair_unmarked vs alt refusal (inr (own, found, inr gone)) = subst IsUnmarked (sym gone.2) (λ late. late)

-- and so does each one of what the two sides changed: that the device failed or memory was wanting, or one for the settlements
pub sides_unmarked : (twice absent : Option Key) (some : Bool) (left : ℕ) (refusal : Refusal)
    → (refusal ≡ Device) ⊎ ((refusal ≡ Memory) ⊎ (option_or (option_map SettledTwice twice) (option_or (option_map NotInConflict absent) (if some then Some (Unsettled left) else None)) ≡ Some refusal))
    → IsUnmarked refusal
sides_unmarked twice absent some left refusal (inl device) = subst IsUnmarked (sym device) (λ late. late)
sides_unmarked twice absent some left refusal (inr (inl memory)) = subst IsUnmarked (sym memory) (λ late. late)
sides_unmarked (Some key) absent some left refusal (inr (inr is)) = let same : SettledTwice key ≡ refusal = cc in subst IsUnmarked same (λ late. late)
sides_unmarked None (Some key) some left refusal (inr (inr is)) = let same : NotInConflict key ≡ refusal = cc in subst IsUnmarked same (λ late. late)
sides_unmarked None None true left refusal (inr (inr is)) = let same : Unsettled left ≡ refusal = cc in subst IsUnmarked same (λ late. late)
sides_unmarked None None false left refusal (inr (inr is)) = cc

-- so it is not Full
abbrev refused : Refusal → Result Answer Refusal
refused refusal = Err refusal

pub unmarked_not_full : (refusal : Refusal) → IsUnmarked refusal → refused refusal ≡ refused Full → ⊥
unmarked_not_full refusal unmarked is = unmarked (subst ComesAfterMarking (sym is) tt)

-- a fault in the tree comes after the first change, so it is no early refusal
fault_is_late : (f : TreeFault) → IsEarly (refusal_of f) → ⊥
fault_is_late fault.Device early = early
fault_is_late (fault.Damaged b) early = early

pub put_is_late : (f : PutFault) → IsEarly (refusal_of_put f) → ⊥
put_is_late (put.Tree f) early = fault_is_late f early
put_is_late put.Deep early = early

-- how many blocks may be taken if changes end in this fault
pub taken_at_fault : (changes : ℕ) (f : PutFault) (deep : Type 0) → (f ≡ put.Tree fault.Device) ⊎ ((f ≡ put.Deep) × deep) → taken_by_changes changes (Err (refusal_of_put f)) ≡ 16 * changes
taken_at_fault changes f deep (inl device) = ap (λ (f : PutFault). taken_by_changes changes (Err (refusal_of_put f))) device
taken_at_fault changes f deep (inr full) = ap (λ (f : PutFault). taken_by_changes changes (Err (refusal_of_put f))) full.0

-- a Merge that is refused before blocks are marked takes none
pub unmarked_takes : (changes : ℕ) (refusal : Refusal) (before after spare : ℕ) → (blocks_a_change * changes ≤ before → after ≡ before) → IsUnmarked refusal → TakesForChanges changes (Err refusal) before after spare
unmarked_takes changes refusal before after spare same unmarked = (λ enough. omega (arith, same enough), λ few late. absurd (unmarked late))
