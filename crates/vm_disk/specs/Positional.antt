-- What a file holds that is read and written at places, and what its calls do to it.
use Rattle.std.specs.Prelude.{◌≡◌, ℕ, ◌+◌, ◌<◌, ◌≤◌, Bool, true, List, [], ◌∷◌, ◌++◌, length, take, drop, replicate, Result, IfOk, OnOk, OnErr}
use Rattle.std.specs.List.{flat_map}
use Rattle.vm_disk.specs.declared.disk.DeviceFault.{DeviceFault}

-- what is known of a file
pub record FileState : Type 0 where
  -- it has kept the rules of a file in every call so far
  pub honest : Bool
  pub bytes : List ℕ
  -- the writes that no sync has made durable yet, the newest first: where each begins, and how many bytes it has
  pub waiting : List (ℕ × ℕ)
  -- how many calls failed
  pub failures : ℕ

-- if the file is honest after it, R holds between what is known before and what is known after
abbrev pub IfHonestFile : {T : Type 0} → (T → FileState) → (FileState → FileState → Type 0) → T → T → Type 0
IfHonestFile state R old new = (state new).honest ≡ true → R (state old) (state new)

-- the file's bytes, with these written over them from the offset on
abbrev pub overwritten : ℕ → List ℕ → List ℕ → List ℕ
overwritten offset bytes old = take offset old ++ bytes ++ drop (offset + length bytes) old

-- the bytes of blocks, one after another
abbrev pub joined : List (List ℕ) → List ℕ
joined blocks = flat_map (λ bytes. bytes) blocks

-- this many zero bytes
abbrev pub zeros : ℕ → List ℕ
zeros count = replicate count 0

-- a write of some bytes, at most this many, whatever they are
pub record IsTorn (offset count : ℕ) (old new : List ℕ) : Type 0 where
  pub bytes : List ℕ
  pub few : length bytes ≤ count
  pub written : new ≡ overwritten offset bytes old

-- what each call does, on any file: one that is honest after it was so before, and the count of failures rises exactly if it fails
pub record CountsFailures {T E : Type 0} (result : Result T E) (old new : FileState) : Type 0 where
  pub earlier : new.honest ≡ true → old.honest ≡ true
  pub rising : old.failures ≤ new.failures
  pub fault : OnErr result (old.failures < new.failures)
  pub fine : OnOk result (new.failures ≡ old.failures)

-- what a read does, on a file that is honest after it
pub record ReadsAt {T : Type 0} (offset : ℕ) (bytes : List ℕ) (result : Result T DeviceFault) (old new : FileState) : Type 0 where
  pub bytes_are : OnOk result (bytes ≡ take (length bytes) (drop offset old.bytes))
  pub same : new.bytes ≡ old.bytes
  pub same_waiting : new.waiting ≡ old.waiting

-- what a write does, on a file that is honest after it: if it fails, it may have written any bytes there
pub record WritesAt {T : Type 0} (offset : ℕ) (bytes : List ℕ) (result : Result T DeviceFault) (old new : FileState) : Type 0 where
  pub written : OnOk result (new.bytes ≡ overwritten offset bytes old.bytes)
  pub torn : OnErr result (IsTorn offset (length bytes) old.bytes new.bytes)
  pub waiting : new.waiting ≡ (offset, length bytes) ∷ old.waiting

-- the same, from an offset that lies in the file or at its end
abbrev pub WritesIn : {T : Type 0} → ℕ → List ℕ → Result T DeviceFault → FileState → FileState → Type 0
WritesIn offset bytes result old new = offset ≤ length old.bytes → WritesAt offset bytes result old new

-- what a sync does, on a file that is honest after it
pub record SyncsFile {T : Type 0} (result : Result T DeviceFault) (old new : FileState) : Type 0 where
  pub synced : OnOk result (new.waiting ≡ [])
  pub failed : OnErr result (new.waiting ≡ old.waiting)
  pub same : new.bytes ≡ old.bytes

-- what a count of its bytes does, on a file that is honest after it
pub record Measures (result : Result ℕ DeviceFault) (old new : FileState) : Type 0 where
  pub count : IfOk result (λ count. count ≡ length old.bytes)
  pub same : new.bytes ≡ old.bytes
  pub same_waiting : new.waiting ≡ old.waiting
