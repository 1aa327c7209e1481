-- A slot: the list of alternatives and checkpoints, each with the roots of its records.
use Rattle.std.specs.Prelude.{◌≡◌, ℕ, ◌+◌, ◌/◌, ◌<◌, ◌≤◌, ◌^◌, Bool, true, false, ◌&&◌, ◌||◌, not, List, [], ◌∷◌, ◌++◌, length, Option, Some, None, IfSome, IsSomeAnd, codes}
use Rattle.std.specs.List.{AllByRecursion, flat_map, list_any}
use Rattle.std.specs.Option.{option_eq}
use Rattle.std.specs.Str.{bytes_eq}
use Rattle.byteorder.specs.Endian.{little_bytes}
use Rattle.vm_types.specs.declared.sizes.TheConstants.{BLOCK_SIZE, MIN_BLOCKS, MAX_BLOCKS, MAX_VERSIONS}
use Rattle.vm_types.specs.Name.{IsName}
use Rattle.vm_block.specs.Padding.{padded}
use Rattle.vm_block.specs.declared.header.TheConstants.{FORMAT}
use Rattle.vm_block.specs.declared.slot.Kind.{Kind}
use Rattle.vm_block.specs.declared.slot.Kind.TheVariants.{Alternative, Checkpoint}
use Rattle.vm_block.specs.declared.slot.Entry.{Entry}

-- the letter by which an entry begins
abbrev pub tag_of : Kind → ℕ
tag_of Alternative = 65
tag_of Checkpoint = 67

-- a name in its 33 bytes: its length, and it, with zero bytes after it
abbrev pub name_bytes : List ℕ → List ℕ
name_bytes name = length name ∷ padded 32 name

-- an owner in its 33 bytes: none is spelled as a name without bytes
abbrev pub owner_bytes : Option (List ℕ) → List ℕ
owner_bytes None = name_bytes []
owner_bytes (Some name) = name_bytes name

-- an entry in its 128 bytes
unfoldable pub entry_bytes : Entry → List ℕ
entry_bytes e =
    padded 128 (tag_of e.kind ∷ (name_bytes e.name ++ (owner_bytes e.owner ++ (little_bytes 4 e.current ++ little_bytes 4 e.base))))

-- an entry with names that are names, and roots of their size
pub record EntryFits (e : Entry) : Type 0 where
  pub name : IsName e.name
  pub owner : IfSome e.owner IsName
  pub current : e.current < 2 ^ 32
  pub base : e.base < 2 ^ 32

-- these bytes are the entry
pub record IsEntry (bytes : List ℕ) (e : Entry) : Type 0 where
  pub spelled : bytes ≡ entry_bytes e
  pub fits : EntryFits e

-- the head of a slot in its 128 bytes: the letters SLOT, the number of the format, the store's blocks, and how many entries
unfoldable pub head_bytes : ℕ → ℕ → List ℕ
head_bytes limit n =
    padded 128 (codes "SLOT" ++ (little_bytes 4 FORMAT ++ (little_bytes 4 limit ++ little_bytes 4 n)))

-- counts that a slot may have: of the store's blocks, and of entries
pub record HeadFits (limit n : ℕ) : Type 0 where
  pub least : MIN_BLOCKS ≤ limit
  pub most : limit ≤ MAX_BLOCKS
  pub some : 0 < n
  pub few : n ≤ MAX_VERSIONS

-- these bytes are the head of a slot
pub record IsHead (bytes : List ℕ) (limit n : ℕ) : Type 0 where
  pub spelled : bytes ≡ head_bytes limit n
  pub fits : HeadFits limit n

abbrev pub is_alternative : Kind → Bool
is_alternative Alternative = true
is_alternative Checkpoint = false

-- whether the entry is the alternative of this name
abbrev pub is_alternative_of : List ℕ → Entry → Bool
is_alternative_of name e = is_alternative e.kind && bytes_eq e.name name

-- whether both are alternatives, or both checkpoints
abbrev pub is_same_kind : Kind → Kind → Bool
is_same_kind Alternative kind = is_alternative kind
is_same_kind Checkpoint kind = not (is_alternative kind)

-- whether two entries are called the same: two alternatives, or two checkpoints of one owner
abbrev pub is_called_as : Entry → Entry → Bool
is_called_as e f =
    (is_same_kind e.kind f.kind && bytes_eq e.name f.name)
    && (is_alternative e.kind || option_eq bytes_eq e.owner f.owner)

-- the entry may follow these: its owner is an alternative among them, its name is new, and a checkpoint of `top` has the empty base
pub record MayFollow (earlier : List Entry) (e : Entry) : Type 0 where
  pub owned : IsSomeAnd e.owner (λ owner. list_any (is_alternative_of owner) earlier ≡ true)
  pub new : list_any (is_called_as e) earlier ≡ false
  pub top : is_alternative e.kind ≡ false → e.owner ≡ Some (codes "top") → e.base ≡ 0

-- each entry may follow those before it
abbrev pub Follows : List Entry → List Entry → Type 0
Follows earlier [] = Unit {0}
Follows earlier (e ∷ es) = MayFollow earlier e × Follows (earlier ++ e ∷ []) es

-- the entry is `top`: an alternative without parent, with the empty base
pub record IsTopEntry (e : Entry) : Type 0 where
  pub kind : e.kind ≡ Alternative
  pub name : e.name ≡ codes "top"
  pub owner : e.owner ≡ None
  pub base : e.base ≡ 0

-- `top` comes first, and each other entry may follow those before it
abbrev pub IsLedger : List Entry → Type 0
IsLedger [] = ⊥
IsLedger (top ∷ es) = IsTopEntry top × Follows (top ∷ []) es

-- entries that a slot of a store of this many blocks may have
pub record SlotFits (limit : ℕ) (es : List Entry) : Type 0 where
  pub head : HeadFits limit (length es)
  pub each : AllByRecursion EntryFits es
  pub ledger : IsLedger es

-- how many blocks of a slot this many entries take
abbrev pub used_blocks : ℕ → ℕ
used_blocks n = (n + 32) / 32

-- the entries after their head
abbrev pub slot_bytes : ℕ → List Entry → List ℕ
slot_bytes limit es = head_bytes limit (length es) ++ flat_map entry_bytes es

-- these blocks hold these entries; what follows the last entry is ignored
pub record IsSlot (blocks : List (List ℕ)) (limit : ℕ) (es : List Entry) : Type 0 where
  pub fits : SlotFits limit es
  pub whole : AllByRecursion (λ block. length block ≡ BLOCK_SIZE) blocks
  pub rest : List ℕ
  pub spelled : flat_map (λ block. block) blocks ≡ slot_bytes limit es ++ rest
