-- The blocks that wait to be written, and those that were.
use Rattle.std.specs.Prelude.{◌≡◌, ◌⊎◌, ◌+◌, ◌<◌, ◌≤◌, ◌&&◌, ℕ, Bool, true, false, if◌then◌else◌, List, [], length, nat_eq, nat_le, nat_lt, is_some, slice_index_or, Option, Some, None}
use Rattle.std.specs.Map.{lookup, update}
use Rattle.vm_disk.specs.Kept.{Entries, rooms_in}
use Rattle.vm_disk.specs.declared.waiting.Waiting.{Waiting}

-- the bytes that wait for block n, if it waits
abbrev pub bytes_for : Waiting → ℕ → Option (List ℕ)
bytes_for waiting n = lookup (nat_eq n) (rooms_in waiting.rooms)

-- the written blocks that are kept
abbrev pub written_in : Waiting → Entries
written_in waiting = rooms_in waiting.written

-- the bytes with which block n was written, if it is one of them
abbrev pub written_for : Waiting → ℕ → Option (List ℕ)
written_for waiting n = lookup (nat_eq n) (written_in waiting)

-- these bytes, or else those
abbrev pub first_of : Option (List ℕ) → Option (List ℕ) → Option (List ℕ)
first_of None other = other
first_of (Some bytes) other = Some bytes

-- the bytes that wait for block n, or else those with which it was written
abbrev pub known_for : Waiting → ℕ → Option (List ℕ)
known_for waiting n = first_of (bytes_for waiting n) (written_for waiting n)

-- block n waits
abbrev pub waits : Waiting → ℕ → Bool
waits waiting n = is_some (bytes_for waiting n)

-- how many blocks wait
abbrev pub count_of : Waiting → ℕ
count_of waiting = length waiting.rooms.entries

-- block n waits with these bytes, or no longer if there are none, and all others wait as before
abbrev pub ChangesOne : ℕ → Option (List ℕ) → Waiting → Waiting → Type 0
ChangesOne n bytes old new = (k : ℕ) → bytes_for new k ≡ update nat_eq (bytes_for old) n bytes k

-- the blocks from the first one up to the one before the end wait no longer, and all others wait as before
abbrev pub LosesRun : ℕ → ℕ → Waiting → Waiting → Type 0
LosesRun first end old new = (k : ℕ) → bytes_for new k ≡ (if nat_le first k && nat_lt k end then None else bytes_for old k)

-- these are the bytes that wait for the blocks in a row from the first one on
abbrev pub IsRun : ℕ → List (List ℕ) → Waiting → Type 0
IsRun first run waiting = (i : ℕ) → i < length run → bytes_for waiting (first + i) ≡ Some (slice_index_or run i [])

-- how many may wait
abbrev pub limit_of : Waiting → ℕ
limit_of waiting = waiting.rooms.cap

-- block n waits no longer, all others wait as before, and as many may wait
pub record StopsWaiting (n : ℕ) (old new : Waiting) : Type 0 where
  pub gone : ChangesOne n None old new
  pub fewer : waits old n ≡ true → count_of new < count_of old
  pub most : count_of new ≤ count_of old
  pub limit : limit_of new ≡ limit_of old

-- each written block that is kept was kept before, with the same bytes
abbrev pub KeepsNoMore : Waiting → Waiting → Type 0
KeepsNoMore old new = (k : ℕ) (bytes : List ℕ) → written_for new k ≡ Some bytes → written_for old k ≡ Some bytes

-- and block n is not kept
abbrev pub Drops : ℕ → Waiting → Waiting → Type 0
Drops n old new = (k : ℕ) (bytes : List ℕ) → written_for new k ≡ Some bytes → (nat_eq n k ≡ false) × (written_for old k ≡ Some bytes)

-- each written block that is kept is block n, with these bytes, or another one that was kept before
abbrev pub Gains : ℕ → List ℕ → Waiting → Waiting → Type 0
Gains n bytes old new =
    (k : ℕ) (kept : List ℕ) → written_for new k ≡ Some kept → ((nat_eq n k ≡ true) × (kept ≡ bytes)) ⊎ ((nat_eq n k ≡ false) × (written_for old k ≡ Some kept))

-- it is one that was settled, with the bytes that waited for it, or another one that was kept before
abbrev pub Settles : (ℕ → Bool) → Waiting → Waiting → Type 0
Settles settled old new =
    (k : ℕ) (bytes : List ℕ) → written_for new k ≡ Some bytes → ((settled k ≡ true) × (bytes_for old k ≡ Some bytes)) ⊎ ((settled k ≡ false) × (written_for old k ≡ Some bytes))
