-- What a list of records answers.
use Rattle.std.proofs.Common.{◌≡◌, ◌⊎◌, inl, inr, List, Result, Ok, Err, IsOk, refl, sym, ap, ◌∙◌, subst}
use Rattle.vm_types.specs.declared.refusal.Refusal.{Refusal}
use Rattle.vm_types.specs.declared.refusal.Refusal.TheVariants.{Device, Memory}
use Rattle.vm_tree.specs.Answers.{Lists}
use Rattle.vm_types.specs.Queries.{IsListing}
use Rattle.vm_store.specs.Sides.{ReadsOr}
use Rattle.vm_tree.specs.Faults.{refusal_of_list}
use Rattle.vm_tree.specs.declared.faults.ListFault.{ListFault}
use Rattle.vm_tree.specs.declared.faults.ListFault.TheVariants as list
use Rattle.vm_tree.specs.declared.faults.TreeFault.TheVariants as fault

-- a list that was refused for the device or for memory
pub list_refused : {T : Type 0} (f : ListFault) (P : T → Type 0) (due : Type 0) → Lists (Err f) P → (refusal_of_list f ≡ Device) ⊎ ((refusal_of_list f ≡ Memory) ⊎ due)
list_refused (list.Tree fault.Device) P due h = inl refl
list_refused (list.Tree (fault.Damaged b)) P due h = absurd h
list_refused list.Memory P due h = inr (inl refl)

-- one that is due was refused for the device or for memory
pub wanting : {X : Type 0} (refusal : Refusal) (due : Result (List X) Refusal) (is : List X) → due ≡ Ok is → (refusal ≡ Device) ⊎ ((refusal ≡ Memory) ⊎ ⊥) → IsListing (Err refusal) due
wanting refusal due is same (inl device) = inl (subst IsOk (sym same) refl, inl device)
wanting refusal due is same (inr (inl memory)) = inl (subst IsOk (sym same) refl, inr memory)
wanting refusal due is same (inr (inr never)) = absurd never

-- a list that was read, or refused for the device or for memory
pub listed : {X : Type 0} (r : Result (List X) Refusal) (due : Result (List X) Refusal) (is : List X) → due ≡ Ok is → ReadsOr r (λ list. list ≡ is) (λ e. ⊥) → IsListing r due
listed (Ok list) due is same read = same ∙ ap Ok (sym read)
listed (Err e) due is same read = wanting e due is same read
