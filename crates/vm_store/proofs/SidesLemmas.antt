-- What two sides made of a base, read from trees.
use Rattle.std.proofs.Common.{◌≡◌, ◌⊎◌, inl, inr, ℕ, true, List, Result, Ok, Err, IfOk, IfErr, sym, subst}
use Rattle.vm_types.specs.declared.refusal.Refusal.{Refusal}
use Rattle.vm_types.specs.declared.refusal.Refusal.TheVariants.{Device, Memory}
use Rattle.vm_types.specs.Map.{Map, IsMap}
use Rattle.vm_types.proofs.Bridge.{IsMap-rising_from}
use Rattle.vm_disk.specs.Disk.{DiskState, Contents, Medium}
use Rattle.vm_disk.specs.Moments.{OnlyReads}
use Rattle.vm_disk.proofs.MomentLemmas.{same_medium}
use Rattle.vm_tree.specs.Root.{IsRooted}
use Rattle.vm_tree.specs.declared.root.Root.{Root}
use Rattle.vm_tree.proofs.RootLemmas.{subtree_keys}
use Rattle.vm_store.specs.Sides.{ReadsOr}
use Rattle.vm_store.specs.Sizes.{sizes}

-- a tree stands after reads
pub rooted_after : (old new : DiskState) (limit : ℕ) (root : Root) (m : Map) (bs : List ℕ) → OnlyReads old new → IsRooted sizes old.now.contents limit root m bs → IsRooted sizes new.now.contents limit root m bs
rooted_after old new limit root m bs reads tree = subst (λ (m' : Medium). IsRooted sizes m'.contents limit root m bs) (sym (same_medium old new reads)) tree

-- the records of a tree are a map
pub rooted_map : (x : Contents) (limit : ℕ) (root : Root) (m : Map) (bs : List ℕ) → IsRooted sizes x limit root m bs → IsMap m
rooted_map x limit root m bs (inl bare) = subst IsMap (sym bare.empty) (λ i. true)
rooted_map x limit root m bs (inr top) = IsMap-rising_from 0 m (subtree_keys sizes x limit root.level root.block m bs top.subtree) top.rising

-- a list that only want of memory refuses
pub reads_list : {T : Type 0} (r : Result T Refusal) (P : T → Type 0) (Q : Refusal → Type 0) → IfErr r (λ e. e ≡ Memory) → IfOk r P → ReadsOr r P Q
reads_list (Ok x) P Q only list = list
reads_list (Err e) P Q only list = inr (inl only)

-- a fault of the device or of memory is passed on
pub reads_fault : {T : Type 0} (r : Result T Refusal) (e : Refusal) (P : T → Type 0) (Q : Refusal → Type 0) → r ≡ Err e → (e ≡ Device) ⊎ ((e ≡ Memory) ⊎ ⊥) → ReadsOr r P Q
reads_fault r e P Q is fault = subst (λ r. ReadsOr r P Q) (sym is) (by_case fault)
  where
    by_case : (e ≡ Device) ⊎ ((e ≡ Memory) ⊎ ⊥) → (e ≡ Device) ⊎ ((e ≡ Memory) ⊎ Q e)
    by_case (inl device) = inl device
    by_case (inr (inl memory)) = inr (inl memory)
    by_case (inr (inr never)) = absurd never

-- such a list, where something else is known, too
pub reads_pair : {T : Type 0} (r : Result T Refusal) (known : Type 0) (P : T → Type 0) (Q : Refusal → Type 0) → IfErr r (λ e. e ≡ Memory) → known → IfOk r P → ReadsOr r (λ x. known × P x) Q
reads_pair (Ok x) known P Q only is list = (is, list)
reads_pair (Err e) known P Q only is list = inr (inl only)
