-- What the steps of two walks answer.
use Rattle.std.specs.Prelude.{◌≡◌, ℕ, ◌<◌, ◌≤◌, ◌⊎◌, false, List, [], Result, Ok, Err, ⊤}
use Rattle.std.specs.Str.{bytes_eq}
use Rattle.vm_types.specs.declared.key.Key.{Key}
use Rattle.vm_types.specs.Places.{place}
use Rattle.vm_types.specs.declared.change.Change.{Change}
use Rattle.vm_tree.specs.declared.faults.TreeFault.{TreeFault}
use Rattle.vm_tree.specs.declared.faults.TreeFault.TheVariants.{Device}
use Rattle.vm_diff.specs.Front.{Front, place_of}
use Rattle.vm_diff.specs.Front.Front.{Pair}
use Rattle.vm_diff.specs.declared.front.Step.{Step}
use Rattle.vm_diff.specs.declared.front.Step.TheVariants.{Done, Moved, Found}

-- what a step answers on trees with these differences; P is told of the ones that are left
abbrev pub StepsBy : Result Step TreeFault → List Change → (List Change → Type 0) → Type 0
StepsBy (Ok Done) changes P = changes ≡ []
StepsBy (Ok Moved) changes P = P changes
StepsBy (Ok (Found key)) changes P = P changes
StepsBy (Err e) changes P = e ≡ Device

-- a step that goes on makes less of what is ahead, and no other makes more of it
abbrev pub Falls : Result Step TreeFault → ℕ → ℕ → Type 0
Falls (Ok Done) old new = Unit {0}
Falls (Ok Moved) old new = new < old
Falls (Ok (Found key)) old new = new ≤ old
Falls (Err e) old new = Unit {0}

-- a walk stands before a record of this key, and the other one above it
pub record StandsAlone (key : Key) (here there : Front) : Type 0 where
  pub value : List ℕ
  pub front : here ≡ Pair key value
  pub below : place key < place_of there

-- both stand before records of this key, with two values
pub record StandApart (key : Key) (here there : Front) : Type 0 where
  pub value : List ℕ
  pub low : Key
  pub other : List ℕ
  pub first : here ≡ Pair key value
  pub second : there ≡ Pair low other
  pub level : place key ≡ place low
  pub apart : bytes_eq value other ≡ false

-- two walks that stand here stand before a difference at this key
abbrev pub Meet : Key → Front → Front → Type 0
Meet key here there = StandsAlone key here there ⊎ (StandsAlone key there here ⊎ StandApart key here there)

-- what was found is a difference that they stand before
abbrev pub FoundBy : Result Step TreeFault → Front → Front → Type 0
FoundBy (Ok Done) here there = Unit {0}
FoundBy (Ok Moved) here there = Unit {0}
FoundBy (Ok (Found key)) here there = Meet key here there
FoundBy (Err e) here there = Unit {0}

-- a subtree was opened, which is a step, or could not be
abbrev pub moved_by : Result ⊤ TreeFault → Result Step TreeFault
moved_by (Ok x) = Ok Moved
moved_by (Err e) = Err e
