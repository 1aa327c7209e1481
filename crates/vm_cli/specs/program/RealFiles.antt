-- What the files of the system hold, by what was done with them.
use Rattle.std.specs.Prelude.{◌≡◌, ℕ, ◌+◌, ◌-◌, ◌/◌, ◌^◌, ◌&&◌, min, Bool, true, false, List, [], ◌∷◌, Option, Some, None, if◌then◌else◌, length, reverse, bytes_eq, option_map}
use Rattle.vm_types.specs.declared.sizes.TheConstants.{BLOCK_SIZE}
use Rattle.std.specs.declared.snapshot.Snapshot.{Snapshot}
use Rattle.vm_disk.specs.Disk.{Contents, DiskState}
use Rattle.vm_disk.specs.File.{file_blocks, file_of, file_state}
use Rattle.vm_disk.specs.Past.{noted}
use Rattle.vm_disk.specs.System.{is_read_alone, name_of, opening_of, system_state}
use Rattle.vm_disk.specs.declared.file.FileDisk.{FileDisk}
use Rattle.vm_disk.specs.declared.history.History.{History}
use Rattle.vm_disk.specs.declared.system.SystemFile.{SystemFile}
use Rattle.vm_sums.specs.Summed.{inner_of, shown_contents, summed_state}
use Rattle.vm_sums.specs.declared.summed.SummedDisk.{SummedDisk}
use Rattle.vm_cli.specs.program.Places.{PlaceCall, Create, Find, Look, GiveBack, Lack, Link, Remove, PlaceState, CreatesIn, FindsIn, IsAsked, StaysHonest, names_in}
use Rattle.vm_cli.specs.program.Progress.{file_below}
use Rattle.vm_cli.specs.declared.program.place.Event.{Event}
use Rattle.vm_cli.specs.declared.program.place.Event.TheVariants.{Found, Made, Missed, Given, Lacking, Linked, Removed}
use Rattle.vm_cli.specs.declared.program.place.RealFiles.{RealFiles}
use Rattle.vm_cli.specs.declared.program.progress.Watched.{Watched}

-- the whole blocks of these bytes, as many as a disk may have
abbrev pub whole_blocks : List ℕ → Contents
whole_blocks bytes = file_blocks (min (length bytes / BLOCK_SIZE) (2 ^ 32 - 1)) bytes

-- two contents are the same, block by block
abbrev pub same_contents : Contents → Contents → Bool
same_contents [] [] = true
same_contents (x ∷ xs) (y ∷ ys) = bytes_eq x y && same_contents xs ys
same_contents [] (y ∷ ys) = false
same_contents (x ∷ xs) [] = false

-- what was found is what was left
abbrev pub is_as_left : Option Contents → Option Contents → Bool
is_as_left (Some found) (Some left) = same_contents found left
is_as_left found left = false

-- there is no such file
abbrev pub is_absent : Option Contents → Bool
is_absent None = true
is_absent (Some contents) = false

-- a file as a disk with checksums
abbrev pub RealDisk : Type 0 → Type 0
RealDisk W = SummedDisk (FileDisk (Watched (SystemFile W)))

-- what the whole blocks of these bytes show
abbrev pub shown_blocks : List ℕ → Contents
shown_blocks bytes = shown_contents (whole_blocks bytes)

-- what the blocks of a file showed when this many had been opened, as the world says
abbrev pub blocks_held : (ℕ → List ℕ → Option (List ℕ)) → ℕ → List ℕ → Option Contents
blocks_held held opened name = option_map shown_blocks (held opened name)

-- how often a writable one was asked for, by what was done: each that was opened for more than reading, and each that was
-- missed
abbrev pub writes_after : {W : Type 0} → List (Event W) → ℕ
writes_after [] = 0
writes_after (Found file ∷ events) = if is_read_alone file.value then writes_after events else writes_after events + 1
writes_after (Made file ∷ events) = if is_read_alone file.value then writes_after events else writes_after events + 1
writes_after (Missed ∷ events) = writes_after events + 1
writes_after (Given given disk ∷ events) = writes_after events
writes_after (Lacking name ∷ events) = writes_after events
writes_after (Linked from to ∷ events) = writes_after events
writes_after (Removed name ∷ events) = writes_after events

-- how often the files of the system were asked for a writable one
abbrev pub asked_to_write : {R W : Type 0} → RealFiles R W → ℕ
asked_to_write place = writes_after (noted place.events)

-- the names of which they gave none, the newest first
abbrev pub names_denied : {R W : Type 0} → RealFiles R W → List (List ℕ)
names_denied place = names_in place.denied

-- a file is the next one that was opened, under this name
pub record IsNext {R W : Type 0} (place : RealFiles R W) (name : List ℕ) (file : SystemFile W) : Type 0 where
  pub named : name_of file ≡ name
  pub opening : opening_of file ≡ length (noted place.opened)

-- all that was done since the files were as they are here, by the events that are noted now, the newest first
module _ {R W : Type 0} (old : RealFiles R W) (events : List (Event W)) where
  -- a writable file of this name was asked for, to be made
  pub data MadeOrMissed (name : List ℕ) : Type 0 where
    -- it was missing
    not_made : events ≡ Missed ∷ noted old.events → MadeOrMissed name
    -- it was made, as the next one
    file_made : (file : Snapshot (SystemFile W)) → events ≡ Made file ∷ noted old.events → IsNext old name file.value → MadeOrMissed name

  -- a writable file of this name was asked for, to be found
  pub data FoundOrMissed (name : List ℕ) : Type 0 where
    -- it was missing
    not_found : events ≡ Missed ∷ noted old.events → FoundOrMissed name
    -- it was found, as the next one
    file_found : (file : Snapshot (SystemFile W)) → events ≡ Found file ∷ noted old.events → IsNext old name file.value → FoundOrMissed name

  -- a file of this name was asked for, to be read
  pub data FoundOrNothing (name : List ℕ) : Type 0 where
    -- nothing was done
    nothing : events ≡ noted old.events → FoundOrNothing name
    -- it was found, as the next one
    found_to_read : (file : Snapshot (SystemFile W)) → events ≡ Found file ∷ noted old.events → IsNext old name file.value → FoundOrNothing name

-- all that was done is that a file of this name was asked for, to be made
abbrev pub NotesMade : {R W : Type 0} → List ℕ → RealFiles R W → RealFiles R W → Type 0
NotesMade name old new = MadeOrMissed old (noted new.events) name

-- the same, to be found
abbrev pub NotesFound : {R W : Type 0} → List ℕ → RealFiles R W → RealFiles R W → Type 0
NotesFound name old new = FoundOrMissed old (noted new.events) name

-- the same, to be read
abbrev pub NotesLooked : {R W : Type 0} → List ℕ → RealFiles R W → RealFiles R W → Type 0
NotesLooked name old new = FoundOrNothing old (noted new.events) name

-- all that was done is that this disk came back under this name
pub record NotesGiven {R W : Type 0} (name : List ℕ) (disk : RealDisk W) (old new : RealFiles R W) : Type 0 where
  pub given : History ℕ
  pub kept : Snapshot (RealDisk W)
  pub last : noted new.events ≡ Given given kept ∷ noted old.events
  pub named : reverse (noted given) ≡ name
  pub is : kept.value ≡ disk

-- all that was done is that a file got another name
pub record NotesLink {R W : Type 0} (from to : List ℕ) (old new : RealFiles R W) : Type 0 where
  pub one : History ℕ
  pub two : History ℕ
  pub last : noted new.events ≡ Linked one two ∷ noted old.events
  pub named_from : reverse (noted one) ≡ from
  pub named_to : reverse (noted two) ≡ to

-- all that was done is that a file lost its name
pub record NotesRemoval {R W : Type 0} (name : List ℕ) (old new : RealFiles R W) : Type 0 where
  pub gone : History ℕ
  pub last : noted new.events ≡ Removed gone ∷ noted old.events
  pub named : reverse (noted gone) ≡ name

-- all that was done is that a file got another name, and lost its first one then
pub record NotesRename {R W : Type 0} (from to : List ℕ) (old new : RealFiles R W) : Type 0 where
  pub one : History ℕ
  pub two : History ℕ
  pub gone : History ℕ
  pub last : noted new.events ≡ Removed gone ∷ (Linked one two ∷ noted old.events)
  pub named_from : reverse (noted one) ≡ from
  pub named_to : reverse (noted two) ≡ to
  pub named_gone : reverse (noted gone) ≡ from

-- all that was done if it was asked whether there is nothing of this name, by the answer
pub data NotesLacking {R W : Type 0} (name : List ℕ) (lacks : Bool) (old new : RealFiles R W) : Type 0 where
  -- no: nothing
  not_lacking : lacks ≡ false → noted new.events ≡ noted old.events → NotesLacking name lacks old new
  -- yes: nothing was found to have it
  lacking : lacks ≡ true → (lacked : History ℕ) → noted new.events ≡ Lacking lacked ∷ noted old.events → reverse (noted lacked) ≡ name
      → NotesLacking name lacks old new

-- all that was done if the file of the first name was to get the second, by the answer
pub data NotesLinked {R W : Type 0} (from to : List ℕ) (linked : Bool) (old new : RealFiles R W) : Type 0 where
  -- no: nothing
  not_linked : linked ≡ false → noted new.events ≡ noted old.events → NotesLinked from to linked old new
  -- yes: it got it, and may have kept the first
  has_both : linked ≡ true → NotesLink from to old new → NotesLinked from to linked old new
  -- yes: it got it, and lost the first
  was_renamed : linked ≡ true → NotesRename from to old new → NotesLinked from to linked old new

-- all that was done if the file of this name was to lose it
pub data NotesRemoved {R W : Type 0} (name : List ℕ) (old new : RealFiles R W) : Type 0 where
  -- nothing
  not_removed : noted new.events ≡ noted old.events → NotesRemoved name old new
  -- it lost it
  was_removed : NotesRemoval name old new → NotesRemoved name old new

-- no file was asked for so far: each holds what the world says, and no disk came back
abbrev pub untouched : (ℕ → List ℕ → Option (List ℕ)) → PlaceState
untouched held = record { honest = true; files = blocks_held held 0; came = λ name. None }

module _ {W : Type 0} (held : ℕ → List ℕ → Option (List ℕ)) (torn : ℕ → List ℕ → ℕ → List ℕ) where
  -- what is known of a file's disk
  abbrev pub real_disk : RealDisk W → DiskState
  real_disk = summed_state (file_state (λ file. system_state held torn (file_below file)))

  -- the name of a disk's file
  abbrev pub disk_name : RealDisk W → List ℕ
  disk_name disk = name_of (file_below (file_of (inner_of disk)))

  -- what the file of a name holds after these events, the newest first: what a disk that came back holds, and else what the world
  -- says. Of a file that is being made the world says it
  abbrev pub files_after : List (Event W) → List ℕ → Option Contents
  files_after [] name = blocks_held held 0 name
  files_after (Found file ∷ events) name = files_after events name
  files_after (Made file ∷ events) name = if bytes_eq name (name_of file.value) then blocks_held held (opening_of file.value + 1) name else files_after events name
  files_after (Missed ∷ events) name = files_after events name
  files_after (Given given disk ∷ events) name = if bytes_eq name (reverse (noted given)) then Some (real_disk disk.value).now.contents else files_after events name
  files_after (Lacking lacked ∷ events) name = files_after events name
  files_after (Linked from to ∷ events) name = if bytes_eq name (reverse (noted to)) then files_after events (reverse (noted from)) else files_after events name
  files_after (Removed gone ∷ events) name = if bytes_eq name (reverse (noted gone)) then None else files_after events name

  -- the disk of a name as it was when it came back last, under this name or before its file got it
  abbrev pub came_after : List (Event W) → List ℕ → Option DiskState
  came_after [] name = None
  came_after (Found file ∷ events) name = came_after events name
  came_after (Made file ∷ events) name = came_after events name
  came_after (Missed ∷ events) name = came_after events name
  came_after (Given given disk ∷ events) name = if bytes_eq name (reverse (noted given)) then Some (real_disk disk.value) else came_after events name
  came_after (Lacking lacked ∷ events) name = came_after events name
  came_after (Linked from to ∷ events) name = if bytes_eq name (reverse (noted to)) then came_after events (reverse (noted from)) else came_after events name
  came_after (Removed gone ∷ events) name = came_after events name

  -- each file was found as it was left, none was made that was there, nor got a name that was taken or was found to be lacking, and each
  -- disk came back honest, under its name
  abbrev pub honest_after : List (Event W) → Bool
  honest_after [] = true
  honest_after (Found file ∷ events) =
      is_as_left (blocks_held held (opening_of file.value) (name_of file.value)) (files_after events (name_of file.value)) && honest_after events
  honest_after (Made file ∷ events) = is_absent (files_after events (name_of file.value)) && honest_after events
  honest_after (Missed ∷ events) = honest_after events
  honest_after (Given given disk ∷ events) =
      (real_disk disk.value).honest && (bytes_eq (disk_name disk.value) (reverse (noted given)) && honest_after events)
  honest_after (Lacking lacked ∷ events) = is_absent (files_after events (reverse (noted lacked))) && honest_after events
  honest_after (Linked from to ∷ events) = is_absent (files_after events (reverse (noted to))) && honest_after events
  honest_after (Removed gone ∷ events) = honest_after events

  -- what is known of the files of the system
  abbrev pub real_state : {R : Type 0} → RealFiles R W → PlaceState
  real_state place =
      let events = noted place.events in
      record { honest = honest_after events; files = files_after events; came = came_after events }

  -- as files of the system that are honest after it create a disk
  abbrev pub CreatesReal : {R : Type 0} → List ℕ → ℕ → Option (RealDisk W) → RealFiles R W → RealFiles R W → Type 0
  CreatesReal name blocks made old new = CreatesIn real_state real_disk name blocks made old new

  -- as files of the system that are honest after it find a disk
  abbrev pub FindsReal : {R : Type 0} → List ℕ → Option (RealDisk W) → RealFiles R W → RealFiles R W → Type 0
  FindsReal name found old new = FindsIn real_state real_disk name found old new

  -- files of the system that were honest are so after a disk came back that kept the disk model, under its own name
  abbrev pub StaysReal : {R : Type 0} → List ℕ → RealDisk W → RealFiles R W → RealFiles R W → Type 0
  StaysReal name disk old new = disk_name disk ≡ name → (real_disk disk).honest ≡ true → StaysHonest (real_state old) (real_state new)

  -- what each call of files of the system keeps: it was asked about this name
  abbrev pub IsAskedReal : {R : Type 0} → (ℕ → ℕ → Type 0) → List ℕ → Bool → RealFiles R W → RealFiles R W → Type 0
  IsAskedReal Writes name gives old new = IsAsked real_state names_denied asked_to_write Writes name gives old new

  -- what taking back a disk does
  pub record TakesReal {R : Type 0} (name : List ℕ) (disk : RealDisk W) (old new : RealFiles R W) : Type 0 where
    pub notes : NotesGiven name disk old new
    pub stays : StaysReal name disk old new

  -- what is promised of each call beside the trait's clauses
  abbrev pub real_does : {R : Type 0} → PlaceCall (RealDisk W) → RealFiles R W → RealFiles R W → Type 0
  real_does (Create name blocks made) old new = NotesMade name old new
  real_does (Find name found) old new = NotesFound name old new
  real_does (Look name found) old new = NotesLooked name old new
  real_does (GiveBack name disk) old new = TakesReal name disk old new
  real_does (Lack name lacks) old new = NotesLacking name lacks old new
  real_does (Link from to linked) old new = NotesLinked from to linked old new
  real_does (Remove name) old new = NotesRemoved name old new
