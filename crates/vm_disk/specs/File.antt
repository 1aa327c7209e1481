-- What a disk over a file shows.
use Rattle.std.specs.Prelude.{◌≡◌, ℕ, ◌+◌, ◌-◌, ◌*◌, ◌/◌, ◌^◌, ◌<◌, ◌≤◌, min, nat_lt, nat_le, ◌&&◌, ◌||◌, Bool, true, false, List, [], ◌∷◌, length, map, replicate, take, drop, Result, Ok, Err}
use Rattle.std.specs.List.{range_with_len}
use Rattle.std.proofs.Common.{sym, subst}
use Rattle.std.proofs.Math.Nat.{min-le_right}
use Rattle.std.proofs.lemmas.Bool.{and_from, or_right, le-leb, lt-ltb}
use Rattle.std.proofs.lemmas.List.FromFn.{length-map-range_with_len}
use Rattle.vm_types.specs.declared.sizes.TheConstants.{BLOCK_SIZE}
use Rattle.vm_disk.specs.declared.file.Earlier.{Earlier}
use Rattle.vm_disk.specs.declared.file.FileDisk.{FileDisk}
use Rattle.vm_disk.specs.Calls.{DiskCall, Read, Load, Write, WriteRun, Sync, Extend}
use Rattle.vm_disk.specs.Disk.{Contents, Medium, DiskState}
use Rattle.vm_disk.specs.Past.{noted}
use Rattle.vm_disk.specs.Positional.{FileState}

-- block n of a file is the 4,096 bytes from 4096 n on
abbrev pub file_block : List ℕ → ℕ → List ℕ
file_block bytes n = take BLOCK_SIZE (drop (BLOCK_SIZE * n) bytes)

-- the first blocks of a file, this many of them
abbrev pub file_blocks : ℕ → List ℕ → Contents
file_blocks count bytes = map (file_block bytes) (range_with_len 0 count)

-- a write that begins there, of this many bytes, touches block n
abbrev pub touches : ℕ × ℕ → ℕ → Bool
touches write n = nat_lt write.0 (BLOCK_SIZE * n + BLOCK_SIZE) && nat_lt (BLOCK_SIZE * n) (write.0 + write.1)

-- one of these writes touches block n
abbrev pub is_touched : List (ℕ × ℕ) → ℕ → Bool
is_touched [] n = false
is_touched (write ∷ writes) n = touches write n || is_touched writes n

-- the first blocks of a file, and how many of them it surely keeps
pub record Part : Type 0 where
  pub file : FileState
  pub blocks : ℕ
  pub sure : ℕ

-- the blocks from the sure ones to the last
abbrev pub is_unsure : ℕ → ℕ → ℕ → Bool
is_unsure sure count n = nat_le (min sure count) n && nat_lt n count

-- no more are sure than there are
pub sure_within : (sure count : ℕ) (bytes : List ℕ) → min sure count ≤ length (file_blocks count bytes)
sure_within sure count bytes =
    let R : ℕ → Type 0 = λ k. min sure count ≤ k in
    subst R (sym (length-map-range_with_len (file_block bytes) 0 count)) (min-le_right sure count)

-- one that is not sure is dirty
pub unsure_dirty : (sure count : ℕ) (bytes : List ℕ) (waiting : List (ℕ × ℕ)) (n : ℕ) → min sure count ≤ n → n < length (file_blocks count bytes) → (is_touched waiting n || is_unsure sure count n) ≡ true
unsure_dirty sure count bytes waiting n from inside =
    let R : ℕ → Type 0 = λ k. n < k in
    let here : n < count = subst R (length-map-range_with_len (file_block bytes) 0 count) inside in
    or_right (is_touched waiting n) (is_unsure sure count n) (and_from (nat_le (min sure count) n) (nat_lt n count) (le-leb (min sure count) n from) (lt-ltb n count here))

-- part of a file as a disk: the blocks that a waiting write touches are dirty, and those that are not sure
abbrev pub file_medium : Part → Medium
file_medium part =
    record {
      contents = file_blocks part.blocks part.file.bytes;
      dirty = λ n. is_touched part.file.waiting n || is_unsure part.sure part.blocks n;
      sure = min part.sure part.blocks;
      within = sure_within part.sure part.blocks part.file.bytes;
      unsure = unsure_dirty part.sure part.blocks part.file.bytes part.file.waiting;
    }

-- zero blocks were written from one block on up to another; those before them stay as they were
pub record AddsZeros (from to : ℕ) (old new : FileState) : Type 0 where
  pub long : BLOCK_SIZE * to ≤ length new.bytes
  pub same : (n : ℕ) → n < from → file_block new.bytes n ≡ file_block old.bytes n
  pub zero : (n : ℕ) → from ≤ n → n < to → file_block new.bytes n ≡ replicate BLOCK_SIZE 0
  pub same_waiting : (n : ℕ) → n < from → is_touched new.waiting n ≡ is_touched old.waiting n

-- the same, in a file that is long enough for the blocks before them
abbrev pub AddsZerosIn : ℕ → ℕ → FileState → FileState → Type 0
AddsZerosIn from to old new = BLOCK_SIZE * from ≤ length old.bytes → AddsZeros from to old new

-- what stands in a file after this many blocks is as it was
abbrev pub KeepsBehind : ℕ → FileState → FileState → Type 0
KeepsBehind count old new = drop (BLOCK_SIZE * count) new.bytes ≡ drop (BLOCK_SIZE * count) old.bytes

-- the same, of a file that was long enough for the blocks before one
abbrev pub KeepsBehindIn : ℕ → ℕ → FileState → FileState → Type 0
KeepsBehindIn from count old new = BLOCK_SIZE * from ≤ length old.bytes → KeepsBehind count old new

-- at each of these moments the file was long enough for the blocks
abbrev pub was_whole : List Part → Bool
was_whole [] = true
was_whole (part ∷ parts) = nat_le (BLOCK_SIZE * part.blocks) (length part.file.bytes) && was_whole parts

-- a disk of this part of a file, of which no call was made so far
pub record IsPart (part : Part) (s : DiskState) : Type 0 where
  pub blocks : s.blocks ≡ part.blocks
  pub honest : s.honest ≡ (part.file.honest && was_whole (part ∷ []))
  pub reads : s.reads ≡ 0
  pub failures : s.failures ≡ part.file.failures
  pub now : s.now ≡ file_medium part
  pub past : s.past ≡ []

-- this many blocks of this file that was there, all of them sure, and no call was made of the disk so far
abbrev pub IsOver : ℕ → FileState → DiskState → Type 0
IsOver count file s = IsPart (record { file = file; blocks = count; sure = count }) s

-- this many blocks of this file that was just made, none of them sure, and no call was made of the disk so far
abbrev pub IsMade : ℕ → FileState → DiskState → Type 0
IsMade count file s = IsPart (record { file = file; blocks = count; sure = 0 }) s

-- the first blocks of a file, of which this many are sure
abbrev pub part_with : FileState → ℕ → ℕ → Part
part_with file count sure = record { file = file; blocks = count; sure = sure }

-- an honest disk of the whole blocks of this file, all of them sure
pub record IsOpened (file : FileState) (s : DiskState) : Type 0 where
  pub file_honest : file.honest ≡ true
  pub honest : s.honest ≡ true
  pub blocks : s.blocks ≡ min (length file.bytes / BLOCK_SIZE) (2 ^ 32 - 1)
  pub now : s.now ≡ file_medium (record { file = file; blocks = s.blocks; sure = s.blocks })

-- an honest disk of zero blocks
pub record IsZero (s : DiskState) : Type 0 where
  pub honest : s.honest ≡ true
  pub zero : s.now.contents ≡ replicate s.blocks (replicate BLOCK_SIZE 0)

module _ {F : Type 0} where
  -- the bytes in its room
  abbrev pub file_hand : FileDisk F → List ℕ
  file_hand disk = disk.room

  -- the file below
  abbrev pub file_of : FileDisk F → F
  file_of disk = disk.file

  -- the file below the disk that was made of it, or the file that came back
  abbrev pub file_left : Result (FileDisk F) F → F
  file_left (Ok disk) = file_of disk
  file_left (Err file) = file

  -- the part of its file that the disk is
  abbrev pub part_of : (F → FileState) → FileDisk F → Part
  part_of state disk = record { file = state disk.file; blocks = disk.blocks; sure = disk.sure }

  -- the part that it was at an earlier moment
  abbrev pub part_then : (F → FileState) → Earlier F → Part
  part_then state was = record { file = state was.file.value; blocks = was.blocks; sure = was.sure }

  -- honest as long as its file is, and is long enough for the disk's blocks; its failures are the file's
  abbrev pub file_state : (F → FileState) → FileDisk F → DiskState
  file_state state disk =
      let now = part_of state disk in
      let past = map (part_then state) (noted disk.past) in record {
        blocks = disk.blocks;
        honest = now.file.honest && was_whole (now ∷ past);
        reads = length (noted disk.reads);
        failures = now.file.failures;
        now = file_medium now;
        past = map file_medium past;
      }

  -- a disk of this many blocks of its file, which was there
  abbrev pub IsOverFile : (F → FileState) → ℕ → FileDisk F → Type 0
  IsOverFile state count disk = IsOver count (state (file_of disk)) (file_state state disk)

  -- a disk of this many blocks of its file, which was just made
  abbrev pub IsMadeFile : (F → FileState) → ℕ → FileDisk F → Type 0
  IsMadeFile state count disk = IsMade count (state (file_of disk)) (file_state state disk)

  -- if its file is honest, an honest disk of the whole blocks of the file that this was
  abbrev pub OpensFile : (F → FileState) → F → FileDisk F → Type 0
  OpensFile state file disk = (state (file_of disk)).honest ≡ true → IsOpened (state file) (file_state state disk)

  -- if its file is honest, and this file that it was had no bytes, an honest disk of zero blocks
  abbrev pub StartsZero : (F → FileState) → F → FileDisk F → Type 0
  StartsZero state file disk = (state (file_of disk)).honest ≡ true → (state file).bytes ≡ [] → IsZero (file_state state disk)

  -- then its file ends with its last block
  abbrev pub EndsItsFile : (F → FileState) → F → FileDisk F → Type 0
  EndsItsFile state file disk =
      (state (file_of disk)).honest ≡ true → (state file).bytes ≡ [] → length (state (file_of disk)).bytes ≡ BLOCK_SIZE * disk.blocks

  -- if it is honest after it, the blocks that it got were written to its file as zeros
  abbrev pub GetsZeros : (F → FileState) → FileDisk F → FileDisk F → Type 0
  GetsZeros state old new =
      (file_state state new).honest ≡ true → AddsZeros old.blocks new.blocks (state (file_of old)) (state (file_of new))

  -- if it is honest after it, what stands in its file after this many blocks is as it was
  abbrev pub LeavesBehind : (F → FileState) → ℕ → FileDisk F → FileDisk F → Type 0
  LeavesBehind state count old new =
      (file_state state new).honest ≡ true → KeepsBehind count (state (file_of old)) (state (file_of new))

  -- a call that its file is honest after leaves an honest disk honest
  abbrev pub StaysHonest : (F → FileState) → FileDisk F → FileDisk F → Type 0
  StaysHonest state old new =
      (file_state state old).honest ≡ true → (state (file_of new)).honest ≡ true → (file_state state new).honest ≡ true

  -- what writing to its blocks does, of which there are this many
  pub record WritesWithin (state : F → FileState) (count : ℕ) (old new : FileDisk F) : Type 0 where
    pub stays : StaysHonest state old new
    -- The bytes of the file behind the disk do not change.
    pub behind : LeavesBehind state count old new

  -- what growing to this many blocks does
  pub record GrowsWithin (state : F → FileState) (count : ℕ) (old new : FileDisk F) : Type 0 where
    -- The new blocks of the file are zeros, and nothing after them changes.
    pub zero : GetsZeros state old new
    pub within : WritesWithin state count old new

  -- what is promised of each call beside the trait's clauses
  abbrev pub file_does : (F → FileState) → DiskCall → FileDisk F → FileDisk F → Type 0
  file_does state (Read n bytes result) old new = StaysHonest state old new
  file_does state (Load n need result) old new = StaysHonest state old new
  file_does state (Write n bytes result) old new = WritesWithin state old.blocks old new
  file_does state (WriteRun n blocks result) old new = WritesWithin state old.blocks old new
  file_does state (Sync result) old new = StaysHonest state old new
  file_does state (Extend blocks result) old new = GrowsWithin state blocks old new
