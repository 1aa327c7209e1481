-- What holds at each moment of a call, and what a crash at any of them leaves.
use Rattle.std.specs.Prelude.{◌≡◌, ℕ, ◌+◌, ◌<◌, ◌≤◌, ◌&&◌, nat_le, nat_lt, Bool, true, false, List, [], ◌∷◌, ◌++◌, length, slice_index_or, Result, OnOk}
use Rattle.vm_disk.specs.declared.disk.DeviceFault.{DeviceFault}
use Rattle.vm_disk.specs.Disk.{Contents, block, Medium, DiskState, MayLeave, moment, LeftAt}

-- Q holds of each
abbrev pub AtEach : (Medium → Type 0) → List Medium → Type 0
AtEach Q [] = Unit {0}
AtEach Q (m ∷ ms) = Q m × AtEach Q ms

-- Q holds of what the disk held at each moment from old to new
pub record Throughout (old new : DiskState) (Q : Medium → Type 0) : Type 0 where
  -- what it held after each call since, the newest first
  pub since : List Medium
  pub goes_on : new.now ∷ new.past ≡ since ++ old.now ∷ old.past
  pub each : AtEach Q since
  pub first : Q old.now

-- the call only read: at each moment the disk held what it held before
abbrev pub OnlyReads : DiskState → DiskState → Type 0
OnlyReads old new = Throughout old new (λ m. m ≡ old.now)

-- a crash leaves contents that have P
abbrev pub Leaves : (Contents → Type 0) → Medium → Type 0
Leaves P m = (left : Contents) → MayLeave m left → P left

-- a crash at any moment from old to new leaves contents that have P
abbrev pub LeavesOnly : DiskState → DiskState → (Contents → Type 0) → Type 0
LeavesOnly old new P = (t : ℕ) (left : Contents) → moment old ≤ t → LeftAt new t left → P left

-- each block outside those that may be touched keeps its bytes, and stays clean if it was; no fewer blocks are sure
pub record TouchesOnly (touched : ℕ → Bool) (old new : Medium) : Type 0 where
  pub count : length new.contents ≡ length old.contents
  pub same : (n : ℕ) → touched n ≡ false → block new.contents n ≡ block old.contents n
  pub clean : (n : ℕ) → touched n ≡ false → old.dirty n ≡ false → new.dirty n ≡ false
  pub sure : old.sure ≤ new.sure

-- block k is one of this many in a row
abbrev pub in_run : ℕ → ℕ → ℕ → Bool
in_run first count k = nat_le first k && nat_lt k (first + count)

-- each block that is clean was so before, and has kept its bytes
pub record CleanAsBefore (old new : Medium) : Type 0 where
  pub same : (n : ℕ) → new.dirty n ≡ false → block new.contents n ≡ block old.contents n
  pub clean : (n : ℕ) → new.dirty n ≡ false → old.dirty n ≡ false

-- what a write of blocks in a row does, on a disk that is honest after it: at no moment another block is touched, and at each
-- every block that is clean is as it was; if it fails, each of the row that is dirty then holds any bytes
pub record WritesRun {T : Type 0} (first : ℕ) (blocks : List (List ℕ)) (result : Result T DeviceFault) (old new : DiskState) : Type 0 where
  pub written : OnOk result ((i : ℕ) → i < length blocks → block new.now.contents (first + i) ≡ slice_index_or blocks i [])
  pub dirty : OnOk result ((i : ℕ) → i < length blocks → new.now.dirty (first + i) ≡ true)
  pub others_dirty : (k : ℕ) → in_run first (length blocks) k ≡ false → new.now.dirty k ≡ old.now.dirty k
  pub sure : new.now.sure ≡ old.now.sure
  pub moments : Throughout old new (TouchesOnly (in_run first (length blocks)) old.now)
  pub clean : Throughout old new (CleanAsBefore old.now)
