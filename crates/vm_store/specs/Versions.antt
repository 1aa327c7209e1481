-- Alternatives and checkpoints in memory: what a slot says of them, which belong to an alternative, what they are called, and
-- other roots of them.
use Rattle.std.specs.Prelude.{◌≡◌, ℕ, ◌<◌, Bool, true, ◌&&◌, ◌||◌, not, List, [], ◌∷◌, map, filter, length, slice_index_or, Option, Some}
use Rattle.std.specs.List.{position_or_len}
use Rattle.std.specs.Option.{option_eq}
use Rattle.std.specs.Str.{bytes_eq}
use Rattle.vm_block.specs.Slot.{is_alternative}
use Rattle.vm_block.specs.declared.slot.Entry.{Entry}
use Rattle.vm_block.specs.declared.slot.Kind.TheVariants.{Alternative}
use Rattle.vm_tree.specs.declared.root.Root.{Root}
use Rattle.vm_store.specs.declared.version.Version.{Version}

-- what a slot says of it
abbrev pub entry_of : Version → Entry
entry_of v = record { kind = v.kind; name = v.name; owner = v.owner; current = v.current.block; base = v.base.block }

-- what a slot says of them all
abbrev pub slot_entries : List Version → List Entry
slot_entries vs = map entry_of vs

-- the block numbers of the roots of entries, current before base
abbrev pub numbers_of : List Entry → List ℕ
numbers_of [] = []
numbers_of (e ∷ es) = e.current ∷ e.base ∷ numbers_of es

-- entries with these roots, current before base
abbrev pub versions_of : List Entry → List Root → List Version
versions_of (e ∷ es) (r ∷ q ∷ rs) = record { kind = e.kind; name = e.name; owner = e.owner; current = r; base = q } ∷ versions_of es rs
versions_of [] rs = []
versions_of (e ∷ es) [] = []
versions_of (e ∷ es) (r ∷ []) = []

-- whether it is the alternative of this name
abbrev pub is_alternative_of : List ℕ → Version → Bool
is_alternative_of alt v = is_alternative v.kind && bytes_eq v.name alt

-- the version at this place, if it is an alternative, is the first of its name
abbrev pub IsEarliest : List Version → ℕ → Type 0
IsEarliest versions at =
    (alt : List ℕ) (d : Version) → at < length versions → is_alternative_of alt (slice_index_or versions at d) ≡ true → position_or_len (is_alternative_of alt) versions ≡ at

-- whether it is a checkpoint of the alternative
abbrev pub is_checkpoint_under : List ℕ → Version → Bool
is_checkpoint_under alt v = not (is_alternative v.kind) && option_eq bytes_eq v.owner (Some alt)

-- whether it is the checkpoint of this name of the alternative
abbrev pub is_checkpoint_of : List ℕ → List ℕ → Version → Bool
is_checkpoint_of alt name v = is_checkpoint_under alt v && bytes_eq v.name name

-- whether it is an alternative whose parent is this one
abbrev pub is_child_of : List ℕ → Version → Bool
is_child_of alt v = is_alternative v.kind && option_eq bytes_eq v.owner (Some alt)

-- whether it is neither the alternative nor one of its checkpoints
abbrev pub is_apart : List ℕ → Version → Bool
is_apart alt v = not (is_alternative_of alt v || is_checkpoint_under alt v)

-- the alternatives, each with its parent
abbrev pub alternatives_among : List Version → List (List ℕ × Option (List ℕ))
alternatives_among vs = map (λ v. (v.name, v.owner)) (filter (λ v. is_alternative v.kind) vs)

-- the names of an alternative's checkpoints
abbrev pub checkpoints_among : List Version → List ℕ → List (List ℕ)
checkpoints_among vs alt = map (λ v. v.name) (filter (is_checkpoint_under alt) vs)

-- a new alternative under a parent, with this root for both of its trees
abbrev pub alternative_under : List ℕ → List ℕ → Root → Version
alternative_under parent name root = record { kind = Alternative; name = name; owner = Some parent; current = root; base = root }

-- the version with another current root, with another base root, or with two others
abbrev pub with_current : Root → Version → Version
with_current root v = record v { current = root }

abbrev pub with_base : Root → Version → Version
with_base root v = record v { base = root }

abbrev pub with_tops : Root → Root → Version → Version
with_tops current base v = record v { current = current; base = base }
