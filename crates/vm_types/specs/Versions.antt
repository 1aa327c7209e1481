-- The records of a version, and what the model's queries give of versions.
use Rattle.std.specs.Prelude.{ℕ, List, Option, Some, None, Result, Ok, Err}
use Rattle.vm_types.specs.declared.at.At.{At}
use Rattle.vm_types.specs.declared.at.Of.{Of}
use Rattle.vm_types.specs.declared.at.Of.TheVariants.{Current, Base, Checkpoint}
use Rattle.vm_types.specs.declared.change.Change.{Change}
use Rattle.vm_types.specs.declared.key.Key.{Key}
use Rattle.vm_types.specs.declared.refusal.Refusal.{Refusal}
use Rattle.vm_types.specs.declared.refusal.Refusal.TheVariants.{NoSuchAlternative, NoSuchCheckpoint}
use Rattle.vm_types.specs.Map.{Map, get, delta}
use Rattle.vm_types.specs.Tree.{Alternative, Saved, Tree, named, saved_as}

-- the version that is the current records of an alternative, and the one that is its base
abbrev pub at_current : List ℕ → At
at_current alt = record { alt = alt; of = Current }

abbrev pub at_base : List ℕ → At
at_base alt = record { alt = alt; of = Base }

-- the records of a checkpoint, or that there is no such checkpoint
abbrev pub map_saved : Option Saved → Result Map Refusal
map_saved None = Err NoSuchCheckpoint
map_saved (Some c) = Ok c.current

-- the records of an alternative that are meant, or that there is no such checkpoint
abbrev pub map_of : Alternative → Of → Result Map Refusal
map_of a Current = Ok a.current
map_of a Base = Ok a.base
map_of a (Checkpoint name) = map_saved (saved_as a name)

-- the same of an alternative that may not be there
abbrev pub map_found : Option Alternative → Of → Result Map Refusal
map_found None of = Err NoSuchAlternative
map_found (Some a) of = map_of a of

-- the records of a version: that there is no such alternative comes before that there is no such checkpoint
abbrev pub map_at : Tree → At → Result Map Refusal
map_at tree at = map_found (named tree at.alt) at.of

-- the value that a map has at a key, if there is a map
abbrev pub value_within : Result Map Refusal → Key → Result (Option (List ℕ)) Refusal
value_within (Ok m) key = Ok (get m key)
value_within (Err refusal) key = Err refusal

-- the value of a record of a version, or why there is no such version
abbrev pub value_at : Tree → At → Key → Result (Option (List ℕ)) Refusal
value_at tree at key = value_within (map_at tree at) key

-- where two maps differ, if there are both. The refusal of the first comes first
abbrev pub delta_from : Map → Result Map Refusal → Result (List Change) Refusal
delta_from m (Ok n) = Ok (delta m n)
delta_from m (Err refusal) = Err refusal

abbrev pub delta_between : Result Map Refusal → Result Map Refusal → Result (List Change) Refusal
delta_between (Ok m) second = delta_from m second
delta_between (Err refusal) second = Err refusal

-- the changes from one version to another, or why there is no such version
abbrev pub delta_at : Tree → At → At → Result (List Change) Refusal
delta_at tree first second = delta_between (map_at tree first) (map_at tree second)
