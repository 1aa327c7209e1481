-- What a `MemDisk` shows.
use Rattle.std.specs.Prelude.{◌≡◌, ℕ, ◌+◌, ◌<◌, ◌≤◌, ◌==◌, ◌&&◌, true, false, if◌then◌else◌, List, [], ◌∷◌, length, map, replicate, slice_index_or, Result, IsOk, IsErr, OnOk, OnErr, ⊤}
use Rattle.vm_types.specs.declared.sizes.TheConstants.{BLOCK_SIZE}
use Rattle.vm_disk.specs.declared.disk.DeviceFault.{DeviceFault}
use Rattle.vm_disk.specs.declared.memory.Platter.{Platter}
use Rattle.vm_disk.specs.declared.memory.MemDisk.{MemDisk}
use Rattle.vm_disk.specs.Between.{Between}
use Rattle.vm_disk.specs.Calls.{DiskCall, Read, Load, Write, WriteRun, Sync, Extend}
use Rattle.vm_disk.specs.Disk.{Medium, DiskState, IsClean, MayLeave, block}
use Rattle.vm_disk.specs.Fill.{filled_up}
use Rattle.vm_disk.specs.Past.{noted}

-- its blocks, which are dirty, and how many are sure
abbrev pub medium_of : Platter → Medium
medium_of p =
    record {
      contents = p.blocks.items;
      dirty = λ n. slice_index_or p.dirty.items n false;
      sure = p.sure;
      within = p.within;
      unsure = p.unsure;
    }

-- how many blocks it has room for
abbrev pub room_of : MemDisk → ℕ
room_of m = m.platter.room

-- always honest
abbrev pub memory_state : MemDisk → DiskState
memory_state m =
    record {
      blocks = length m.platter.blocks.items;
      honest = true;
      reads = length (noted m.reads);
      failures = length (noted m.failed);
      now = medium_of m.platter;
      past = map medium_of (noted m.past);
    }

-- the block at its place, or zeros if there is none
abbrev pub memory_hand : MemDisk → List ℕ
memory_hand m = slice_index_or m.platter.blocks.items m.at (replicate BLOCK_SIZE 0)

-- a disk just made: this many blocks of zero bytes, none dirty and all sure, and no call so far
pub record IsBlank (count : ℕ) (s : DiskState) : Type 0 where
  pub blocks : s.blocks ≡ count
  pub zero : s.now.contents ≡ replicate count (replicate BLOCK_SIZE 0)
  pub clean : IsClean s.now
  pub sure : s.now.sure ≡ count
  pub reads : s.reads ≡ 0
  pub failures : s.failures ≡ 0
  pub past : s.past ≡ []

-- these bytes, or those of the last entry for block n
abbrev pub filled : List (ℕ × List ℕ) → ℕ → List ℕ → List ℕ
filled [] n bytes = bytes
filled (entry ∷ fill) n bytes = filled fill n (if entry.0 == n then entry.1 else bytes)

-- what block n holds once each dirty block has taken the bytes of its last entry
abbrev pub refilled : Medium → List (ℕ × List ℕ) → ℕ → List ℕ
refilled m fill n = if m.dirty n then filled fill n (block m.contents n) else block m.contents n

-- each dirty block has taken the bytes of its last entry, and the others are as they were
abbrev pub IsRefilled : List (ℕ × List ℕ) → Medium → Medium → Type 0
IsRefilled fill old new = (n : ℕ) → block new.contents n ≡ refilled old fill n

-- so it is with this many blocks from the first one on
abbrev pub IsRefilledBelow : ℕ → List (ℕ × List ℕ) → Medium → Medium → Type 0
IsRefilledBelow count fill old new = (n : ℕ) → n < count → block new.contents n ≡ refilled old fill n

-- block n has taken these bytes if it is dirty, and the others are as they were
abbrev pub IsRefilledAt : ℕ → List ℕ → Medium → Medium → Type 0
IsRefilledAt n bytes old new = (k : ℕ) → block new.contents k ≡ (if old.dirty k && n == k then bytes else block old.contents k)

-- all but the bytes of its blocks is as it was
pub record ChangesBytesOnly (old new : Platter) : Type 0 where
  pub dirty : new.dirty ≡ old.dirty
  pub sure : new.sure ≡ old.sure
  pub room : new.room ≡ old.room
  pub count : length new.blocks.items ≡ length old.blocks.items

-- what a crash of the old one left, all of it synced, and no call was made of it so far
pub record IsLeft (old new : MemDisk) : Type 0 where
  pub clean : IsClean (memory_state new).now
  pub left : MayLeave (memory_state old).now (memory_state new).now.contents
  pub reads : (memory_state new).reads ≡ 0
  pub failures : (memory_state new).failures ≡ 0
  pub past : (memory_state new).past ≡ []
  pub room : room_of new ≡ room_of old

-- zero blocks were added until there are this many
abbrev pub GetsZeros : ℕ → DiskState → DiskState → Type 0
GetsZeros count old new = new.now.contents ≡ filled_up count (replicate BLOCK_SIZE 0) old.now.contents

-- all is as it was, except that one more call failed
abbrev pub JustFails : DiskState → DiskState → Type 0
JustFails old new = new ≡ record old { failures = old.failures + 1 }

-- as many blocks have room as before
abbrev pub KeepsRoom : MemDisk → MemDisk → Type 0
KeepsRoom old new = room_of new ≡ room_of old

-- what a read, a load, a write or a sync does
pub record NeverFails {T : Type 0} (result : Result T DeviceFault) (old new : MemDisk) : Type 0 where
  pub served : IsOk result
  pub room : KeepsRoom old new

-- what growing to this many blocks does
pub record GrowsInRoom {T : Type 0} (blocks : ℕ) (result : Result T DeviceFault) (old new : MemDisk) : Type 0 where
  pub room : KeepsRoom old new
  -- Within its room it never fails, and the new blocks hold zeros.
  pub within : blocks ≤ room_of old → IsOk result
  pub zero : OnOk result (Between memory_state (GetsZeros blocks) old new)
  -- Beyond it, it fails, and changes nothing except the count of failures.
  pub beyond : room_of old < blocks → IsErr result
  pub refused : OnErr result (Between memory_state JustFails old new)

-- what is promised of each call beside the trait's clauses; of blocks in a row, which are written one by one, no more
abbrev pub memory_does : DiskCall → MemDisk → MemDisk → Type 0
memory_does (Read n bytes result) old new = NeverFails result old new
memory_does (Load n need result) old new = NeverFails result old new
memory_does (Write n bytes result) old new = NeverFails result old new
memory_does (WriteRun n blocks result) old new = ⊤
memory_does (Sync result) old new = NeverFails result old new
memory_does (Extend blocks result) old new = GrowsInRoom blocks result old new
