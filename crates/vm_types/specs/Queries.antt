-- What the model's queries give.
use Rattle.std.specs.Prelude.{◌≡◌, ◌⊎◌, ℕ, List, Option, Some, None, Result, Ok, Err, IsOk, Vec}
use Rattle.vm_types.specs.declared.refusal.Refusal.{Refusal}
use Rattle.vm_types.specs.declared.refusal.Refusal.TheVariants.{NoSuchAlternative, IsTop, Device, Memory}
use Rattle.vm_types.specs.declared.change.Change.{Change}
use Rattle.vm_types.specs.declared.change.Conflict.{Conflict}
use Rattle.vm_types.specs.declared.key.Key.{Key}
use Rattle.vm_types.specs.Map.{Map, get, delta, conflicts}
use Rattle.vm_types.specs.Shape.{saved_names}
use Rattle.vm_types.specs.Tree.{Tree, Alternative, named}

-- the value that an alternative has at a key, or that there is no such alternative
abbrev pub value_of : Option Alternative → Key → Result (Option (List ℕ)) Refusal
value_of None key = Err NoSuchAlternative
value_of (Some a) key = Ok (get a.current key)

abbrev pub value_in : Tree → List ℕ → Key → Result (Option (List ℕ)) Refusal
value_in tree alt key = value_of (named tree alt) key

-- the records of an alternative, or that there is no such alternative
abbrev pub records_of : Option Alternative → Result Map Refusal
records_of None = Err NoSuchAlternative
records_of (Some a) = Ok a.current

abbrev pub records_in : Tree → List ℕ → Result Map Refusal
records_in tree alt = records_of (named tree alt)

-- what changed in an alternative since its base, or that there is no such alternative
abbrev pub changes_of : Option Alternative → Result (List Change) Refusal
changes_of None = Err NoSuchAlternative
changes_of (Some a) = Ok (delta a.base a.current)

abbrev pub changes_in : Tree → List ℕ → Result (List Change) Refusal
changes_in tree alt = changes_of (named tree alt)

-- the conflicts of an alternative with this parent
abbrev pub conflicts_with : Option Alternative → Alternative → Result (List Conflict) Refusal
conflicts_with None a = Err NoSuchAlternative
conflicts_with (Some p) a = Ok (conflicts a.base p.current a.current)

-- the conflicts of an alternative with the parent of this name, if it has one
abbrev pub conflicts_under : Tree → Option (List ℕ) → Alternative → Result (List Conflict) Refusal
conflicts_under tree None a = Err IsTop
conflicts_under tree (Some parent) a = conflicts_with (named tree parent) a

-- the conflicts of an alternative with its parent, or why there are none to be asked for
abbrev pub conflicts_of : Tree → Option Alternative → Result (List Conflict) Refusal
conflicts_of tree None = Err NoSuchAlternative
conflicts_of tree (Some a) = conflicts_under tree a.parent a

abbrev pub conflicts_in : Tree → List ℕ → Result (List Conflict) Refusal
conflicts_in tree alt = conflicts_of tree (named tree alt)

-- the names of the checkpoints of an alternative, in order of creation, or that there is no such alternative
abbrev pub checkpoints_of : Option Alternative → Result (List (List ℕ)) Refusal
checkpoints_of None = Err NoSuchAlternative
checkpoints_of (Some a) = Ok (saved_names a.saved)

abbrev pub checkpoints_in : Tree → List ℕ → Result (List (List ℕ)) Refusal
checkpoints_in tree alt = checkpoints_of (named tree alt)

-- the list that is due, where `items` tells what is in one, or the refusal that is due; if none is, that the device failed, or that
-- there was no memory
abbrev pub IsListOf : {T X : Type 0} → (T → List X) → Result T Refusal → Result (List X) Refusal → Type 0
IsListOf items (Ok list) due = due ≡ Ok (items list)
IsListOf items (Err refusal) due = (IsOk due × ((refusal ≡ Device) ⊎ (refusal ≡ Memory))) ⊎ (due ≡ Err refusal)

-- the same of a Vec
abbrev pub IsList : {X A : Type 0} → Result (Vec X A) Refusal → Result (List X) Refusal → Type 0
IsList answer due = IsListOf (λ list. list.items) answer due

-- and of a list that is seen as one
abbrev pub IsListing : {X : Type 0} → Result (List X) Refusal → Result (List X) Refusal → Type 0
IsListing answer due = IsListOf (λ list. list) answer due
