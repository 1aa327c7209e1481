-- What a disk holds, what its calls do to it, and what a crash may leave.
use Rattle.std.specs.Prelude.{◌≡◌, ◌≢◌, ◌⊎◌, ℕ, ◌+◌, ◌<◌, ◌≤◌, Bool, true, false, List, [], ◌∷◌, length, slice_index_or, Result, OnOk, OnErr}
use Rattle.vm_disk.specs.declared.disk.DeviceFault.{DeviceFault}

-- the bytes of each block
abbrev pub Contents : Type 0
Contents = List (List ℕ)

-- the bytes of block n
abbrev pub block : Contents → ℕ → List ℕ
block contents n = slice_index_or contents n []

-- what a disk holds at a moment
pub record Medium : Type 0 where
  pub contents : Contents
  -- the blocks that are not yet synced
  pub dirty : ℕ → Bool
  -- how many blocks a crash surely leaves: those that it had at the last sync
  pub sure : ℕ
  pub within : sure ≤ length contents
  -- each block past those is dirty
  pub unsure : (n : ℕ) → sure ≤ n → n < length contents → dirty n ≡ true

-- what is known of a disk
pub record DiskState : Type 0 where
  pub blocks : ℕ
  -- it has kept the rules of a disk in every call so far
  pub honest : Bool
  -- how many reads were asked of it
  pub reads : ℕ
  -- how many calls failed
  pub failures : ℕ
  pub now : Medium
  -- what it held before each call so far, the newest first
  pub past : List Medium

-- no block is dirty
abbrev pub IsClean : Medium → Type 0
IsClean m = (n : ℕ) → m.dirty n ≡ false

-- a crash may leave these contents: at least the blocks that are sure, and they agree on each block that is not dirty
pub record MayLeave (m : Medium) (left : Contents) : Type 0 where
  pub least : m.sure ≤ length left
  pub most : length left ≤ length m.contents
  pub clean : (n : ℕ) → m.dirty n ≡ false → block left n ≡ block m.contents n

-- the number of the present moment
abbrev pub moment : DiskState → ℕ
moment s = length s.past

-- a crash at moment t, one of this many, may have left these contents
abbrev pub LeftPast : List Medium → ℕ → Contents → Type 0
LeftPast [] t left = ⊥
LeftPast (m ∷ earlier) t left = ((t ≡ length earlier) × MayLeave m left) ⊎ LeftPast earlier t left

-- a crash at moment t may have left these contents
abbrev pub LeftAt : DiskState → ℕ → Contents → Type 0
LeftAt s t left = LeftPast (s.now ∷ s.past) t left

-- what each device call does, on any disk: it keeps the blocks, a disk that is honest after it was so before, it counts its reads, and
-- the count of failures rises exactly if it answers a fault
pub record Counts {T : Type 0} (reads : ℕ) (result : Result T DeviceFault) (old new : DiskState) : Type 0 where
  pub same_blocks : new.blocks ≡ old.blocks
  pub earlier : new.honest ≡ true → old.honest ≡ true
  pub read : new.reads ≡ old.reads + reads
  pub rising : old.failures ≤ new.failures
  pub fault : OnErr result (old.failures < new.failures)
  pub fine : OnOk result (new.failures ≡ old.failures)

-- what any number of device calls does, on any disk, where `fails` says that the device failed in one of them
pub record Goes (fails : Type 0) (old new : DiskState) : Type 0 where
  pub same_blocks : new.blocks ≡ old.blocks
  pub earlier : new.honest ≡ true → old.honest ≡ true
  pub rising : old.failures ≤ new.failures
  pub fault : fails → old.failures < new.failures

-- what growing to this many blocks does, on any disk: if it fails, the disk may have some of the new blocks
pub record Extends {T : Type 0} (blocks : ℕ) (result : Result T DeviceFault) (old new : DiskState) : Type 0 where
  pub least : old.blocks ≤ new.blocks
  pub most : new.blocks ≤ blocks
  pub all : OnOk result (new.blocks ≡ blocks)
  pub earlier : new.honest ≡ true → old.honest ≡ true
  pub read : new.reads ≡ old.reads
  pub rising : old.failures ≤ new.failures
  pub fault : OnErr result (old.failures < new.failures)
  pub fine : OnOk result (new.failures ≡ old.failures)

-- no device call was made: all that is known of the disk is as it was
abbrev pub NoCalls : DiskState → DiskState → Type 0
NoCalls old new = new ≡ old

-- the moment before the call is past, or nothing was done
pub record Elapses (old new : DiskState) : Type 0 where
  pub step : (new.past ≡ old.now ∷ old.past) ⊎ ((new.past ≡ old.past) × (new.now ≡ old.now))

-- what a read does, on a disk that is honest after it
pub record Reads {T : Type 0} (n : ℕ) (bytes : List ℕ) (result : Result T DeviceFault) (old new : DiskState) : Type 0 where
  pub bytes_are : OnOk result (bytes ≡ block old.now.contents n)
  pub same : new.now ≡ old.now
  pub time : Elapses old new

-- what a write does, on a disk that is honest after it: if it fails, the block holds any bytes
pub record Writes {T : Type 0} (n : ℕ) (bytes : List ℕ) (result : Result T DeviceFault) (old new : DiskState) : Type 0 where
  pub written : OnOk result (block new.now.contents n ≡ bytes)
  pub dirty : new.now.dirty n ≡ true
  pub count : length new.now.contents ≡ length old.now.contents
  pub others : (k : ℕ) → k ≢ n → block new.now.contents k ≡ block old.now.contents k
  pub others_dirty : (k : ℕ) → k ≢ n → new.now.dirty k ≡ old.now.dirty k
  pub sure : new.now.sure ≡ old.now.sure
  pub time : Elapses old new

-- what a sync does, on a disk that is honest after it: it makes all blocks sure, and if it fails, nothing changes
pub record Syncs {T : Type 0} (result : Result T DeviceFault) (old new : DiskState) : Type 0 where
  pub synced : OnOk result (IsClean new.now)
  pub failed : OnErr result (new.now ≡ old.now)
  pub same : new.now.contents ≡ old.now.contents
  pub sure : OnOk result (new.now.sure ≡ length new.now.contents)
  pub time : Elapses old new

-- a medium with blocks added, which are dirty and hold any bytes; the others stay as they were, and as many are sure
pub record Lengthens (old new : Medium) : Type 0 where
  pub more : length old.contents ≤ length new.contents
  pub same : (n : ℕ) → n < length old.contents → block new.contents n ≡ block old.contents n
  pub same_dirty : (n : ℕ) → n < length old.contents → new.dirty n ≡ old.dirty n
  pub dirty : (n : ℕ) → length old.contents ≤ n → n < length new.contents → new.dirty n ≡ true
  pub sure : new.sure ≡ old.sure

-- what a growing does, on a disk that is honest after it
pub record Enlarges (old new : DiskState) : Type 0 where
  pub longer : Lengthens old.now new.now
  pub time : Elapses old new
