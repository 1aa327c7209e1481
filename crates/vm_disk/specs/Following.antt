-- What a disk holds while one that stands over it is at each of its own moments.
use Rattle.std.specs.Prelude.{◌≡◌, ◌⊎◌, ℕ, ◌+◌, ◌<◌, ◌≤◌, List, [], ◌∷◌, length}
use Rattle.vm_disk.specs.Disk.{Contents, DiskState, IsClean, MayLeave, Medium, moment}

-- at moment t, one of this many, a disk held this
abbrev pub HeldPast : List Medium → ℕ → Medium → Type 0
HeldPast [] t held = ⊥
HeldPast (m ∷ earlier) t held = ((t ≡ length earlier) × (held ≡ m)) ⊎ HeldPast earlier t held

-- at moment t it held this
abbrev pub HeldAt : DiskState → ℕ → Medium → Type 0
HeldAt s t held = HeldPast (s.now ∷ s.past) t held

-- what a crash below leaves, one above may leave; and if all is clean above, both hold the same
pub record IsUnder (above below : Medium) : Type 0 where
  pub left : (left : Contents) → MayLeave below left → MayLeave above left
  pub clean : IsClean above → below ≡ above

-- at its moment t the disk below is as at moment k above, or on the way to the next
pub record IsMeanwhile (time : ℕ → ℕ) (k t : ℕ) : Type 0 where
  pub from : time k ≤ t
  pub until : (t ≡ time k) ⊎ (t < time (k + 1))

-- to each moment above belongs one below, from the first to the present one. From it on, and up to the next, what is held below is under what was held above
pub record Follows (above below : DiskState) : Type 0 where
  pub time : ℕ → ℕ
  pub first : time 0 ≡ 0
  pub last : time (moment above) ≡ moment below
  pub rising : (k : ℕ) → k < moment above → time k ≤ time (k + 1)
  pub under : (k t : ℕ) (m : Medium) → k ≤ moment above → IsMeanwhile time k t → HeldAt below t m → (held : Medium) × HeldAt above k held × IsUnder held m
