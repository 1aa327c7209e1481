-- What a file of the system shows, by the calls that were made of it.
use Rattle.std.specs.Prelude.{◌≡◌, ℕ, ◌+◌, ◌==◌, ◌&&◌, Bool, true, List, [], ◌∷◌, Option, Some, None, Result, IfOk, OnOk, if◌then◌else◌, length, reverse, take, drop, replicate, bytes_eq}
use Rattle.std.specs.Fs.{asks_create_new}
use Rattle.std.specs.declared.fs.options.OpenOptions.{OpenOptions}
use Rattle.std.specs.declared.snapshot.Snapshot.{Snapshot}
use Rattle.vm_disk.specs.declared.disk.DeviceFault.{DeviceFault}
use Rattle.vm_disk.specs.declared.system.Call.{Call}
use Rattle.vm_disk.specs.declared.system.Call.TheVariants.{Created, Measured, Read, Rewritten, Written, Blocks, Zeroed, Torn, Withheld, Synced, Failed}
use Rattle.vm_disk.specs.declared.system.SystemFile.{SystemFile}
use Rattle.vm_disk.specs.Calls.{FileCall, Measure, ReadAt, WriteAt, SyncFile}
use Rattle.vm_disk.specs.Past.{noted}
use Rattle.vm_disk.specs.Positional.{FileState, IfHonestFile, overwritten, joined}
use Rattle.vm_disk.specs.Syncs.{counts_as_synced}

-- what stands in a file after these calls, the newest first, if it held these bytes at first, and failed writes left those
abbrev pub bytes_after : List ℕ → (ℕ → List ℕ) → List Call → List ℕ
bytes_after first torn [] = first
bytes_after first torn (Created ∷ calls) = []
bytes_after first torn (Measured count ∷ calls) = bytes_after first torn calls
bytes_after first torn (Read offset bytes ∷ calls) = bytes_after first torn calls
bytes_after first torn (Rewritten offset bytes ∷ calls) = bytes_after first torn calls
bytes_after first torn (Written offset bytes ∷ calls) = overwritten offset bytes.value (bytes_after first torn calls)
bytes_after first torn (Blocks offset blocks ∷ calls) = overwritten offset (joined (reverse (noted blocks))) (bytes_after first torn calls)
bytes_after first torn (Zeroed offset count ∷ calls) = overwritten offset (replicate count 0) (bytes_after first torn calls)
bytes_after first torn (Torn offset count ∷ calls) = overwritten offset (take count (torn (length calls))) (bytes_after first torn calls)
bytes_after first torn (Withheld offset count ∷ calls) = bytes_after first torn calls
bytes_after first torn (Synced answer ∷ calls) = bytes_after first torn calls
bytes_after first torn (Failed ∷ calls) = bytes_after first torn calls

-- each read gave the bytes that stood there, and each count of them was theirs
abbrev pub agrees : List ℕ → (ℕ → List ℕ) → List Call → Bool
agrees first torn [] = true
agrees first torn (Created ∷ calls) = agrees first torn calls
agrees first torn (Measured count ∷ calls) = (count == length (bytes_after first torn calls)) && agrees first torn calls
agrees first torn (Read offset bytes ∷ calls) =
    bytes_eq bytes.value (take (length bytes.value) (drop offset (bytes_after first torn calls))) && agrees first torn calls
agrees first torn (Rewritten offset bytes ∷ calls) =
    bytes_eq bytes.value (take (length bytes.value) (drop offset (bytes_after first torn calls))) && agrees first torn calls
agrees first torn (Written offset bytes ∷ calls) = agrees first torn calls
agrees first torn (Blocks offset blocks ∷ calls) = agrees first torn calls
agrees first torn (Zeroed offset count ∷ calls) = agrees first torn calls
agrees first torn (Torn offset count ∷ calls) = agrees first torn calls
agrees first torn (Withheld offset count ∷ calls) = agrees first torn calls
agrees first torn (Synced answer ∷ calls) = agrees first torn calls
agrees first torn (Failed ∷ calls) = agrees first torn calls

-- the writes since the last sync that made all last, the newest first
abbrev pub waiting_after : Bool → List Call → List (ℕ × ℕ)
waiting_after reads_alone [] = []
waiting_after reads_alone (Created ∷ calls) = waiting_after reads_alone calls
waiting_after reads_alone (Measured count ∷ calls) = waiting_after reads_alone calls
waiting_after reads_alone (Read offset bytes ∷ calls) = waiting_after reads_alone calls
waiting_after reads_alone (Rewritten offset bytes ∷ calls) = waiting_after reads_alone calls
waiting_after reads_alone (Written offset bytes ∷ calls) = (offset, length bytes.value) ∷ waiting_after reads_alone calls
waiting_after reads_alone (Blocks offset blocks ∷ calls) = (offset, length (joined (reverse (noted blocks)))) ∷ waiting_after reads_alone calls
waiting_after reads_alone (Zeroed offset count ∷ calls) = (offset, count) ∷ waiting_after reads_alone calls
waiting_after reads_alone (Torn offset count ∷ calls) = (offset, count) ∷ waiting_after reads_alone calls
waiting_after reads_alone (Withheld offset count ∷ calls) = (offset, count) ∷ waiting_after reads_alone calls
waiting_after reads_alone (Synced answer ∷ calls) = if counts_as_synced reads_alone answer.value then [] else waiting_after reads_alone calls
waiting_after reads_alone (Failed ∷ calls) = waiting_after reads_alone calls

-- how many calls failed
abbrev pub failures_after : Bool → List Call → ℕ
failures_after reads_alone [] = 0
failures_after reads_alone (Created ∷ calls) = failures_after reads_alone calls
failures_after reads_alone (Measured count ∷ calls) = failures_after reads_alone calls
failures_after reads_alone (Read offset bytes ∷ calls) = failures_after reads_alone calls
failures_after reads_alone (Rewritten offset bytes ∷ calls) = failures_after reads_alone calls
failures_after reads_alone (Written offset bytes ∷ calls) = failures_after reads_alone calls
failures_after reads_alone (Blocks offset blocks ∷ calls) = failures_after reads_alone calls
failures_after reads_alone (Zeroed offset count ∷ calls) = failures_after reads_alone calls
failures_after reads_alone (Torn offset count ∷ calls) = failures_after reads_alone calls + 1
failures_after reads_alone (Withheld offset count ∷ calls) = failures_after reads_alone calls + 1
failures_after reads_alone (Synced answer ∷ calls) =
    if counts_as_synced reads_alone answer.value then failures_after reads_alone calls else failures_after reads_alone calls + 1
failures_after reads_alone (Failed ∷ calls) = failures_after reads_alone calls + 1

-- what is noted of an opening in this way: that the file was created, if a new one is asked for
abbrev pub opening_calls : OpenOptions → List Call
opening_calls how = if asks_create_new how then Created ∷ [] else []

-- a file with these bytes, of which no call was made so far
abbrev pub fresh : List ℕ → FileState
fresh bytes = record { honest = true; bytes = bytes; waiting = []; failures = 0 }

-- a file after these calls, which was opened for reading only or not
abbrev pub state_after : Bool → List ℕ → (ℕ → List ℕ) → List Call → FileState
state_after reads_alone first torn calls =
    record {
      honest = agrees first torn calls;
      bytes = bytes_after first torn calls;
      waiting = waiting_after reads_alone calls;
      failures = failures_after reads_alone calls;
    }

-- the bytes that a file held, none if there was none
abbrev pub held_bytes : Option (List ℕ) → List ℕ
held_bytes None = []
held_bytes (Some bytes) = bytes

-- the name of the file
abbrev pub name_of : {W : Type 0} → SystemFile W → List ℕ
name_of file = reverse (noted file.name)

-- how many files had been opened before it
abbrev pub opening_of : {W : Type 0} → SystemFile W → ℕ
opening_of file = length (noted file.opened.value)

-- it was opened for reading only
abbrev pub is_read_alone : {W : Type 0} → SystemFile W → Bool
is_read_alone file = file.reads_alone

-- a file of the system, where the world says what it held at first, and what failed writes left there
abbrev pub system_state : {W : Type 0} → (ℕ → List ℕ → Option (List ℕ)) → (ℕ → List ℕ → ℕ → List ℕ) → SystemFile W → FileState
system_state held torn file =
    let opening = opening_of file in
    let name = name_of file in
    state_after (is_read_alone file) (held_bytes (held opening name)) (torn opening name) (noted file.calls)

-- a count that was answered is that of these bytes
abbrev pub IsCountOf : Result ℕ DeviceFault → List ℕ → Type 0
IsCountOf result bytes = IfOk result (λ count. count ≡ length bytes)

-- what was read from an offset on, if it was, stands there in these bytes
abbrev pub IsReadOf : {T : Type 0} → ℕ → List ℕ → Result T DeviceFault → List ℕ → Type 0
IsReadOf offset read result bytes = OnOk result (read ≡ take (length read) (drop offset bytes))

-- a write was not made: it is answered with a fault, and the file has the bytes that it had
pub record IsWithheld {T : Type 0} (result : Result T DeviceFault) (old new : FileState) : Type 0 where
  pub fault : OnOk result ⊥
  pub same : new.bytes ≡ old.bytes

-- what a file holds and what waits for a sync are as they were
pub record KeepsState (old new : FileState) : Type 0 where
  pub same : new.bytes ≡ old.bytes
  pub same_waiting : new.waiting ≡ old.waiting

-- the block at this offset was read, and written again as it was read, and nothing else was done
pub record IsRewritten (offset : ℕ) (old new : List Call) : Type 0 where
  pub found : Snapshot (List ℕ)
  pub written : Snapshot (List ℕ)
  pub same : written.value ≡ found.value
  pub calls : new ≡ Rewritten offset written ∷ (Read offset found ∷ old)

-- so it was, if there was no fault
abbrev pub Rewrites : {T W : Type 0} → ℕ → Result T DeviceFault → SystemFile W → SystemFile W → Type 0
Rewrites offset result old new = OnOk result (IsRewritten offset (noted old.calls) (noted new.calls))

-- what a file shows that is found under this name after these others were opened, before a call is made of it
abbrev pub found : (ℕ → List ℕ → Option (List ℕ)) → List (Unit {0}) → List ℕ → FileState
found held opened name = fresh (held_bytes (held (length opened) name))

-- and once these calls were made of it, whether it was opened for reading only or not
abbrev pub found_after : (ℕ → List ℕ → Option (List ℕ)) → (ℕ → List ℕ → ℕ → List ℕ) → Bool → List (Unit {0}) → List ℕ → List Call → FileState
found_after held torn reads_alone opened name calls =
    let opening = length opened in state_after reads_alone (held_bytes (held opening name)) (torn opening name) calls

module _ {W : Type 0} (held : ℕ → List ℕ → Option (List ℕ)) (torn : ℕ → List ℕ → ℕ → List ℕ) where
  -- a file that was opened under this name after these others, for reading only or not, and shows this
  pub record IsOpenedAs (reads_alone : Bool) (opened : List (Unit {0})) (called : List ℕ) (shows : FileState) (file : SystemFile W) : Type 0 where
    pub state : system_state held torn file ≡ shows
    pub mode : is_read_alone file ≡ reads_alone
    pub name : name_of file ≡ called
    pub opening : opening_of file ≡ length opened

  -- if the file is honest after it, R holds between what it shows before and after
  abbrev pub IfHonestIn : (FileState → FileState → Type 0) → SystemFile W → SystemFile W → Type 0
  IfHonestIn R old new = IfHonestFile (system_state held torn) R old new

  -- it stays honest: the call tells no lie of it
  abbrev pub StaysHonestIn : SystemFile W → SystemFile W → Type 0
  StaysHonestIn old new = (system_state held torn old).honest ≡ true → (system_state held torn new).honest ≡ true

  -- it stays honest if its bytes are such
  abbrev pub StaysHonestWhere : (List ℕ → Type 0) → SystemFile W → SystemFile W → Type 0
  StaysHonestWhere P old new = P (system_state held torn old).bytes → StaysHonestIn old new

  -- if the file was opened for reading only, the write was not made
  abbrev pub Withholds : {T : Type 0} → Result T DeviceFault → SystemFile W → SystemFile W → Type 0
  Withholds result old new = is_read_alone old ≡ true → IsWithheld result (system_state held torn old) (system_state held torn new)

  -- what a call does that leaves its mode, and leaves it honest in this sense
  pub record KeepsMode (IsHonestStill : SystemFile W → SystemFile W → Type 0) (old new : SystemFile W) : Type 0 where
    pub mode : is_read_alone new ≡ is_read_alone old
    pub stays : IsHonestStill old new

  -- what a write does
  pub record MayWithhold {T : Type 0} (result : Result T DeviceFault) (old new : SystemFile W) : Type 0 where
    pub as_each : KeepsMode StaysHonestIn old new
    pub withheld : Withholds result old new

  -- what is promised of each call beside the trait's clauses
  abbrev pub system_does : FileCall → SystemFile W → SystemFile W → Type 0
  system_does (Measure result) old new = KeepsMode (StaysHonestWhere (IsCountOf result)) old new
  system_does (ReadAt offset bytes result) old new = KeepsMode (StaysHonestWhere (IsReadOf offset bytes result)) old new
  system_does (WriteAt offset bytes result) old new = MayWithhold result old new
  system_does (SyncFile result) old new = KeepsMode StaysHonestIn old new
