-- Calls that sync nothing.
use Rattle.std.specs.Prelude.{◌≡◌, ℕ, ◌<◌, ◌≤◌, true, List, [], ◌∷◌, ◌++◌, length}
use Rattle.vm_disk.specs.Disk.{Medium, DiskState}

-- each block that was dirty is there and dirty still, and as many blocks are sure: no sync has made one of them durable
pub record LeavesDirty (old new : Medium) : Type 0 where
  pub more : length old.contents ≤ length new.contents
  pub dirty : (n : ℕ) → n < length old.contents → old.dirty n ≡ true → new.dirty n ≡ true
  pub sure : new.sure ≡ old.sure

-- the newest of these moments after the first, or the first
abbrev pub latest : Medium → List Medium → Medium
latest first [] = first
latest first (m ∷ ms) = m

-- each of these moments after the first, the newest first, leaves dirty what was so at the one before it
abbrev pub DirtyGrows : Medium → List Medium → Type 0
DirtyGrows first [] = Unit {0}
DirtyGrows first (m ∷ ms) = LeavesDirty (latest first ms) m × DirtyGrows first ms

-- nothing is synced: at each moment of the call what was dirty at the one before it is so still
pub record NeverSyncs (old new : DiskState) : Type 0 where
  -- what the disk held after each call since, the newest first
  pub since : List Medium
  pub goes_on : new.now ∷ new.past ≡ since ++ old.now ∷ old.past
  pub each : DirtyGrows old.now since
