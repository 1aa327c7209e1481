-- A medium with blocks laid over it that wait to be written, and what a crash of the disk below leaves.
use Rattle.std.specs.Prelude.{◌≡◌, ℕ, ◌+◌, ◌<◌, ◌≤◌, ◌||◌, max, nat_eq, true, if◌then◌else◌, List, [], ◌∷◌, length, map, slice_get, is_some, Option, Some, None}
use Rattle.std.specs.List.{range_with_len}
use Rattle.std.proofs.Common.{sym, subst}
use Rattle.std.proofs.lemmas.Bool.{or_left}
use Rattle.std.proofs.lemmas.List.FromFn.{length-map-range_with_len}
use Rattle.vm_disk.specs.Disk.{Contents, block, Medium, DiskState, moment, Elapses}
use Rattle.vm_disk.specs.Following.{HeldAt, IsUnder}
use Rattle.vm_disk.specs.Moments.{Throughout, TouchesOnly}

-- the bytes that wait for each block, if it waits
abbrev pub Held : Type 0
Held = ℕ → Option (List ℕ)

-- the bytes that wait, or else those below
abbrev pub over : Option (List ℕ) → List ℕ → List ℕ
over None below = below
over (Some bytes) below = bytes

-- contents with the waiting blocks over them
abbrev pub laid_contents : Held → Contents → Contents
laid_contents held contents = map (λ n. over (held n) (block contents n)) (range_with_len 0 (length contents))

-- there are as many blocks
pub laid_length : (held : Held) (contents : Contents) → length (laid_contents held contents) ≡ length contents
laid_length held contents = length-map-range_with_len (λ n. over (held n) (block contents n)) 0 (length contents)

-- no more are sure than there are
pub laid_within : (held : Held) (m : Medium) → m.sure ≤ length (laid_contents held m.contents)
laid_within held m = let R : ℕ → Type 0 = λ k. m.sure ≤ k in subst R (sym (laid_length held m.contents)) m.within

-- one that is not sure is dirty
pub laid_unsure : (held : Held) (m : Medium) (n : ℕ) → m.sure ≤ n → n < length (laid_contents held m.contents) → (m.dirty n || is_some (held n)) ≡ true
laid_unsure held m n from inside =
    let R : ℕ → Type 0 = λ k. n < k in or_left (m.dirty n) (is_some (held n)) (m.unsure n from (subst R (laid_length held m.contents) inside))

-- a medium with the waiting blocks over it, which are dirty
abbrev pub laid : Held → Medium → Medium
laid held m =
    record {
      contents = laid_contents held m.contents;
      dirty = λ n. m.dirty n || is_some (held n);
      sure = m.sure;
      within = laid_within held m;
      unsure = laid_unsure held m;
    }

-- until its last call, a disk only touches blocks that are dirty in this medium
pub record TouchesDirty (above : Medium) (old new : DiskState) : Type 0 where
  pub before_last : DiskState
  pub touches : Throughout old before_last (TouchesOnly above.dirty old.now)
  pub last : Elapses before_last new

-- what a delayed disk was at a moment, and the moment of the disk below then
pub record Rest : Type 0 where
  pub time : ℕ
  pub medium : Medium

-- from one moment above on, and up to the next, the disk below is under what was held then
pub record Covers (lower : DiskState) (rest next : Rest) : Type 0 where
  pub past : next.time ≤ moment lower
  pub rising : rest.time ≤ next.time
  pub under : (t : ℕ) (m : Medium) → rest.time ≤ t → t < max next.time (rest.time + 1) → HeldAt lower t m → IsUnder rest.medium m

-- the moment of the disk below at moment k above
abbrev pub time_at : List Rest → ℕ → ℕ
time_at [] k = 0
time_at (rest ∷ earlier) k = if nat_eq k (length earlier) then rest.time else time_at earlier k

-- so it is from each moment above, the newest first, up to the present, and the first moment above was the first one below
pub record IsCovered (lower : DiskState) (now : Rest) (rests : List Rest) : Type 0 where
  pub first : time_at (now ∷ rests) 0 ≡ 0
  pub each : (i : ℕ) (rest next : Rest) → slice_get rests i ≡ Some rest → slice_get (now ∷ rests) i ≡ Some next → Covers lower rest next

-- the moments before a delayed disk was made are those of the disk below
abbrev pub rests_before : List Medium → List Rest
rests_before [] = []
rests_before (m ∷ earlier) = record { time = length earlier; medium = m } ∷ rests_before earlier
