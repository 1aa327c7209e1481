-- The blocks that a cache keeps.
use Rattle.std.specs.Prelude.{◌≡◌, ◌≢◌, ◌⊎◌, ℕ, zero, suc, ◌+◌, ◌-◌, ◌<◌, Bool, true, if◌then◌else◌, List, [], ◌∷◌, length, map, take, nat_eq, is_some, slice_index_or, Option, Some, None}
use Rattle.std.specs.Global.{Box}
use Rattle.std.specs.Map.{lookup, remove_entry}
use Rattle.lru.specs.LruCache.{LruCache}
use Rattle.vm_disk.specs.declared.kept.Kept.{Kept}
use Rattle.vm_disk.specs.Disk.{Contents, block}
use Rattle.vm_disk.specs.Past.{noted}

-- blocks by number, each with its bytes, the one that was used last first
abbrev pub Entries : Type 0
Entries = List (ℕ × List ℕ)

-- those for which there are these rooms
abbrev pub rooms_in : LruCache ℕ (Box (List ℕ)) → Entries
rooms_in rooms = map (λ entry. (entry.0, entry.1.value)) rooms.entries

-- block n is among them
abbrev pub keeps : ℕ → Entries → Bool
keeps n entries = is_some (lookup (nat_eq n) entries)

-- once block n was used and has these bytes: it is the first, and if one more would be too many the last one goes
abbrev pub with_first : ℕ → ℕ → List ℕ → Entries → Entries
with_first limit n bytes entries = (n, bytes) ∷ (if keeps n entries then remove_entry (nat_eq n) entries else take (limit - 1) entries)

-- each of them is one of these blocks, and has its bytes
abbrev pub AreOf : Contents → Entries → Type 0
AreOf contents entries = (n : ℕ) (bytes : List ℕ) → lookup (nat_eq n) entries ≡ Some bytes → (n < length contents) × (bytes ≡ block contents n)

-- the bytes of the first one, if there is one
abbrev pub first_in : Entries → Option (List ℕ)
first_in [] = None
first_in (entry ∷ entries) = Some entry.1

-- the same, or else these
abbrev pub first_or : List ℕ → Entries → List ℕ
first_or bytes [] = bytes
first_or bytes (entry ∷ entries) = entry.1

-- the kept blocks
abbrev pub entries_of : Kept → Entries
entries_of kept = rooms_in kept.rooms

-- how many blocks may be kept
abbrev pub limit_of : Kept → ℕ
limit_of kept = kept.rooms.cap

-- how often a block was not kept since memory for it was refused
abbrev pub refusals_in : Kept → ℕ
refusals_in kept = length (noted kept.refused)

-- as many may be kept, and no memory was refused
pub record Settings (old new : Kept) : Type 0 where
  pub limit : limit_of new ≡ limit_of old
  pub refusals : refusals_in new ≡ refusals_in old

-- block n comes first, with these bytes, and if one more would be too many the last one goes
abbrev pub ComesFirst : ℕ → List ℕ → Kept → Kept → Type 0
ComesFirst n bytes old new = entries_of new ≡ with_first (limit_of old) n bytes (entries_of old)

-- block n comes first so; or memory for it was refused, which is counted, and the same blocks are kept
abbrev pub ComesFirstOrNot : ℕ → List ℕ → Kept → Kept → Type 0
ComesFirstOrNot n bytes old new =
    (refusals_in new ≡ refusals_in old) × ComesFirst n bytes old new
    ⊎ ((refusals_in new ≡ refusals_in old + 1) × (entries_of new ≡ entries_of old))

-- block n was used and has these bytes: it is kept, as the first, unless memory for it was refused; for a block that was kept before, none was asked
pub record UsesBlock (n : ℕ) (bytes : List ℕ) (old new : Kept) : Type 0 where
  pub capacity : limit_of new ≡ limit_of old
  pub kept : refusals_in new ≡ refusals_in old → entries_of new ≡ with_first (limit_of old) n bytes (entries_of old)
  pub refused : refusals_in new ≢ refusals_in old → entries_of new ≡ entries_of old
  pub known : keeps n (entries_of old) ≡ true → refusals_in new ≡ refusals_in old

-- this many of the blocks in a row from the first one on were used with these bytes, one after another
abbrev pub UsesBlocks : ℕ → List (List ℕ) → ℕ → Kept → Kept → Type 0
UsesBlocks first blocks zero old new = new ≡ old
UsesBlocks first blocks (suc count) old new =
    (mid : Kept) × (UsesBlocks first blocks count old mid × UsesBlock (first + count) (slice_index_or blocks count []) mid new)

-- without this many blocks in a row from the first one on
abbrev pub without_run : ℕ → ℕ → Entries → Entries
without_run first zero entries = entries
without_run first (suc count) entries = remove_entry (nat_eq (first + count)) (without_run first count entries)
