-- What files in memory hold.
use Rattle.std.specs.Prelude.{◌≡◌, ℕ, Bool, true, not, List, Option, Some, None, if◌then◌else◌, IsSome, IsSomeAnd, is_some, length, option_and_then, option_map}
use Rattle.std.specs.BTreeMap.{get_by_text}
use Rattle.vm_disk.specs.Disk.{Contents, DiskState}
use Rattle.vm_disk.specs.Memory.{memory_state}
use Rattle.vm_disk.specs.Between.{Between}
use Rattle.vm_disk.specs.Past.{noted}
use Rattle.vm_disk.specs.declared.memory.MemDisk.{MemDisk}
use Rattle.vm_cli.specs.program.Places.{PlaceCall, Create, Find, Look, GiveBack, Lack, Link, Remove, PlaceState, IsAsked, StaysHonest, names_in}
use Rattle.vm_cli.specs.declared.program.mem_files.MemFiles.{MemFiles}
use Rattle.vm_cli.specs.declared.program.mem_files.Slot.{Slot}

-- the disk of a file when it was made or came back last
abbrev pub slot_state : Slot → DiskState
slot_state slot = memory_state slot.held.value

-- what a file holds, also while its disk is out
abbrev pub slot_contents : Slot → Contents
slot_contents slot = (slot_state slot).now.contents

-- what the file of a slot holds, if it was not removed
abbrev pub slot_file : Slot → Option Contents
slot_file slot = if slot.is_there then Some (slot_contents slot) else None

-- what is known of files in memory
abbrev pub files_state : MemFiles → PlaceState
files_state place =
    record {
      honest = place.honest;
      files = λ name. option_and_then slot_file (get_by_text place.slots name);
      came = λ name. option_map slot_state (get_by_text place.slots name);
    }

-- the names of which they gave no disk, the newest first
abbrev pub names_denied : MemFiles → List (List ℕ)
names_denied place = names_in place.denied

-- how often they were asked for a disk that may be written
abbrev pub asked_to_write : MemFiles → ℕ
asked_to_write place = length (noted place.to_write)

-- there is a file of this name, and its disk is in: it came back, and was not found since
abbrev pub IsIn : List ℕ → MemFiles → Type 0
IsIn name place = IsSomeAnd (get_by_text place.slots name) (λ slot. IsSome slot.disk)

-- a file of this name was made, or got it, whether its disk is in or out
abbrev pub HasFile : List ℕ → MemFiles → Type 0
HasFile name place = IsSome (get_by_text place.slots name)

-- for how many blocks a disk that is made has room, if it has no more of its own
abbrev pub room_given : MemFiles → ℕ
room_given place = place.room

-- all is as it was
pub record IsSameState (old new : PlaceState) : Type 0 where
  pub honest : new.honest ≡ old.honest
  pub files : (name : List ℕ) → new.files name ≡ old.files name
  pub came : (name : List ℕ) → new.came name ≡ old.came name

-- the file of this name is there, and this is its disk as it was when it came back last
pub record IsLast (name : List ℕ) (s : DiskState) (place : PlaceState) : Type 0 where
  pub held : place.files name ≡ Some s.now.contents
  pub came : place.came name ≡ Some s

-- what each call of files in memory keeps: they were asked about this name
abbrev pub IsAskedFiles : (ℕ → ℕ → Type 0) → List ℕ → Bool → MemFiles → MemFiles → Type 0
IsAskedFiles Writes name gives old new = IsAsked files_state names_denied asked_to_write Writes name gives old new

-- files that were honest are so after it
abbrev pub FilesStay : MemFiles → MemFiles → Type 0
FilesStay old new = Between files_state StaysHonest old new

-- what finding a disk does
pub record FindsThere (name : List ℕ) (found : Option MemDisk) (old new : MemFiles) : Type 0 where
  pub stays : FilesStay old new
  -- If the disk is in, it is found.
  pub there : IsIn name old → IsSome found

-- what taking back a disk does
pub record TakesThere (name : List ℕ) (old new : MemFiles) : Type 0 where
  -- It stays honest if a file of this name was made.
  pub stays : HasFile name old → FilesStay old new
  -- Afterwards the disk is in.
  pub back : (files_state new).honest ≡ true → IsIn name new

-- what telling that there is no such file does
pub record LacksThere (name : List ℕ) (lacks : Bool) (old new : MemFiles) : Type 0 where
  pub stays : FilesStay old new
  -- It is said exactly if there is no such file.
  pub said : lacks ≡ not (is_some ((files_state old).files name))

-- what removing a file does
pub record RemovesThere (name : List ℕ) (old new : MemFiles) : Type 0 where
  pub stays : FilesStay old new
  -- Afterwards there is no such file.
  pub gone : (files_state new).files name ≡ None

-- what is promised of each call beside the trait's clauses
abbrev pub files_does : PlaceCall MemDisk → MemFiles → MemFiles → Type 0
files_does (Create name blocks made) old new = FilesStay old new
files_does (Find name found) old new = FindsThere name found old new
files_does (Look name found) old new = FindsThere name found old new
files_does (GiveBack name disk) old new = TakesThere name old new
files_does (Lack name lacks) old new = LacksThere name lacks old new
files_does (Link from to linked) old new = FilesStay old new
files_does (Remove name) old new = RemovesThere name old new
