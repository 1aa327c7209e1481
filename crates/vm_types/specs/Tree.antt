-- The tree of alternatives.
use Rattle.std.specs.Prelude.{ℕ, ◌+◌, Bool, List, length, find, sum_by, Option, Some, option_map, unwrap_or, nat_le, bytes_eq, [], codes, ◌∷◌, None}
use Rattle.std.specs.List.{list_any}
use Rattle.std.specs.Option.{option_and_then, option_eq}
use Rattle.vm_types.specs.declared.sizes.TheConstants.{MAX_VERSIONS}
use Rattle.vm_types.specs.Map.{Map}
use Rattle.vm_types.specs.Firsts.{change_first}

-- a checkpoint: an earlier state of an alternative, under a name
pub record Saved : Type 0 where
  pub name : List ℕ
  pub current : Map
  pub base : Map

-- an alternative: its records, and those of its parent that it last took in
pub record Alternative : Type 0 where
  pub name : List ℕ
  pub parent : Option (List ℕ)
  pub current : Map
  pub base : Map
  pub saved : List Saved

-- the alternatives, in order of creation
abbrev pub Tree : Type 0
Tree = List Alternative

-- the name of the first alternative
abbrev pub top : List ℕ
top = codes "top"

-- the tree of a new store: the first alternative, without records
abbrev pub fresh : Tree
fresh = record { name = top; parent = None; current = []; base = []; saved = [] } ∷ []

-- the alternative of this name, if there is one
abbrev pub named : Tree → List ℕ → Option Alternative
named tree name = find (λ a. bytes_eq a.name name) tree

-- the checkpoint of this name, if there is one
abbrev pub saved_as : Alternative → List ℕ → Option Saved
saved_as a name = find (λ c. bytes_eq c.name name) a.saved

-- what an alternative shows as its records
abbrev pub current_of : Tree → List ℕ → Map
current_of tree name = unwrap_or (option_map (λ a. a.current) (named tree name)) []

-- what its parent shows, if it has one
abbrev pub parent_current_of : Tree → List ℕ → Map
parent_current_of tree name =
    unwrap_or (option_map (λ p. p.current) (option_and_then (λ parent. named tree parent) (option_and_then (λ a. a.parent) (named tree name)))) []

-- whether some alternative has this one as its parent
abbrev pub has_children : Tree → List ℕ → Bool
has_children tree name = list_any (λ a. option_eq bytes_eq a.parent (Some name)) tree

-- the alternatives and checkpoints together
abbrev pub entry_count : Tree → ℕ
entry_count tree = sum_by (λ a. 1 + length a.saved) tree

-- whether there are as many alternatives and checkpoints as may be
abbrev pub is_full : Tree → Bool
is_full tree = nat_le MAX_VERSIONS (entry_count tree)

-- the tree in which the alternative of this name is changed so
abbrev pub changed : Tree → List ℕ → (Alternative → Alternative) → Tree
changed tree name change = change_first (λ a. bytes_eq a.name name) change tree
