-- What is read of two sides that went on from one base.
use Rattle.std.specs.Prelude.{◌≡◌, ◌⊎◌, ℕ, ◌+◌, ◌≤◌, true, List, map, Option, None, Some, Result, Ok, Err}
use Rattle.vm_types.specs.declared.change.Conflict.{Conflict}
use Rattle.vm_types.specs.declared.key.Key.{Key}
use Rattle.vm_types.specs.declared.command.Side.{Side}
use Rattle.vm_types.specs.declared.command.Side.TheVariants.{Mine, Theirs}
use Rattle.vm_types.specs.declared.merge.MergePlan.{MergePlan}
use Rattle.vm_types.specs.declared.refusal.Refusal.{Refusal}
use Rattle.vm_types.specs.declared.refusal.Refusal.TheVariants.{Device, Memory}
use Rattle.vm_types.specs.Map.{Map, conflicts, delta, merge}
use Rattle.vm_types.specs.Merge.{IsPlan}
use Rattle.vm_types.specs.Step.{settled_refusal}
use Rattle.vm_disk.specs.Disk.{DiskState}
use Rattle.vm_tree.specs.Root.{IsRooted}
use Rattle.vm_tree.specs.declared.root.Root.{Root}
use Rattle.vm_diff.specs.Shared.{unshared}
use Rattle.vm_store.specs.Sizes.{sizes}
use Rattle.vm_store.specs.Tallies.{tally_between}
use Rattle.vm_store.specs.declared.sides.Sides.{Sides}
use Rattle.vm_store.specs.declared.sides.ThreeRoots.{ThreeRoots}
use Rattle.vm_store.specs.declared.tally.Tally.{Tally}

-- what is due of these maps, or that the device failed or memory ran out
abbrev pub ReadsOr : {T : Type 0} → Result T Refusal → (T → Type 0) → (Refusal → Type 0) → Type 0
ReadsOr (Ok x) P Q = P x
ReadsOr (Err refusal) P Q = (refusal ≡ Device) ⊎ ((refusal ≡ Memory) ⊎ Q refusal)

-- the refusal of these settlements, if there is one
abbrev pub refusal_in : Map → Map → Map → List (Key × Side) → Option Refusal
refusal_in base parent own settled = settled_refusal settled (map (λ c. c.key) (conflicts base parent own))

-- the root that a merge begins with, by the side whose map it begins with
abbrev pub root_from : Side → ThreeRoots → Root
root_from Mine roots = roots.own
root_from Theirs roots = roots.parent

-- on a disk that is honest after the call
module _ (old new : DiskState) (blocks : ℕ) (roots : ThreeRoots) where
  -- P holds of the maps that lay under the three roots before it, and of their blocks
  abbrev pub OnThree : (Map → Map → Map → List ℕ → List ℕ → List ℕ → Type 0) → Type 0
  OnThree P =
      new.honest ≡ true → (base parent own : Map) (bs ps os : List ℕ) → IsRooted sizes old.now.contents blocks roots.base base bs
      → IsRooted sizes old.now.contents blocks roots.parent parent ps → IsRooted sizes old.now.contents blocks roots.own own os
      → P base parent own bs ps os

  -- no more reads were made than there are blocks that only one tree of a side has
  abbrev pub ReadsSides : Type 0
  ReadsSides = OnThree (λ base parent own bs ps os. new.reads ≤ old.reads + (unshared bs ps + unshared bs os))

  -- what both sides changed of the base is given
  abbrev pub GivesSides : Result Sides Refusal → Type 0
  GivesSides result =
      OnThree (λ base parent own bs ps os. ReadsOr result (λ s. (s.theirs ≡ delta base parent) × (s.mine ≡ delta base own)) (λ r. ⊥))

  -- their conflicts are given
  abbrev pub GivesConflicts : Result (List Conflict) Refusal → Type 0
  GivesConflicts result = OnThree (λ base parent own bs ps os. ReadsOr result (λ list. list ≡ conflicts base parent own) (λ r. ⊥))

  -- what is counted of them is given
  abbrev pub GivesTally : Result Tally Refusal → Type 0
  GivesTally result = OnThree (λ base parent own bs ps os. ReadsOr result (λ tally. tally ≡ tally_between base parent own) (λ r. ⊥))

  -- their merge is planned on the smaller side, or the settlements are refused
  abbrev pub GivesPlan : Result MergePlan Refusal → List (Key × Side) → Type 0
  GivesPlan result settled =
      OnThree
      (λ base parent own bs ps os.
      ReadsOr result (λ plan. (refusal_in base parent own settled ≡ None) × IsPlan plan own parent (merge base parent own settled))
      (λ r. refusal_in base parent own settled ≡ Some r))
