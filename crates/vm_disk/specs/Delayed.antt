-- What a `DelayedDisk` shows.
use Rattle.std.specs.Prelude.{◌≡◌, ◌++◌, ℕ, true, List, length, map, is_some, Option, None, Result, IsOk, ⊤}
use Rattle.std.proofs.Common.{◌∙◌}
use Rattle.vm_disk.specs.declared.delayed.DelayedDisk.{DelayedDisk}
use Rattle.vm_disk.specs.declared.disk.DeviceFault.{DeviceFault}
use Rattle.vm_disk.specs.Calls.{DiskCall, Read, Load, Write, WriteRun, Sync, Extend}
use Rattle.vm_disk.specs.Disk.{DiskState}
use Rattle.vm_disk.specs.Following.{Follows}
use Rattle.vm_disk.specs.Laid.{laid_length, Rest, TouchesDirty, rests_before}
use Rattle.vm_disk.specs.Waiting.{bytes_for, limit_of}
use Rattle.vm_disk.specs.Layers.{lower_of, waiting_of, layers_hand, medium_of, rest_of}
use Rattle.vm_disk.specs.Past.{noted}

module _ {D : Type 0} {members : _} where
  -- the disk below
  abbrev pub inner_of : DelayedDisk D members → D
  inner_of delayed = lower_of delayed.layers

  -- the bytes that wait for block n, if it waits
  abbrev pub waiting_for : DelayedDisk D members → ℕ → Option (List ℕ)
  waiting_for delayed n = bytes_for (waiting_of delayed.layers) n

  -- it counts its own reads, and its own moments after those of the disk that it was made over; it holds what the disk below does, with the waiting blocks over it
  abbrev pub delayed_state : (D → DiskState) → DelayedDisk D members → DiskState
  delayed_state state delayed =
      let below = state (inner_of delayed) in record {
        blocks = below.blocks;
        honest = below.honest;
        reads = length (noted delayed.reads);
        failures = below.failures;
        now = medium_of state delayed.layers;
        past = map (medium_of state) (noted delayed.past) ++ (state delayed.first.value).past;
      }

  -- the bytes at hand
  abbrev pub delayed_hand : (D → List ℕ) → DelayedDisk D members → List ℕ
  delayed_hand hand delayed = layers_hand hand delayed.layers

  -- it holds as many blocks as the disk below
  pub delayed_whole : (state : D → DiskState) (delayed : DelayedDisk D members) → length (state (inner_of delayed)).now.contents ≡ (state (inner_of delayed)).blocks → length (delayed_state state delayed).now.contents ≡ (delayed_state state delayed).blocks
  delayed_whole state delayed whole = laid_length (waiting_for delayed) (state (inner_of delayed)).now.contents ∙ whole

  -- just made over this disk: no block waits yet, no call was made of it, and it holds and held what the disk does and did
  pub record IsIdleOver (state : D → DiskState) (disk : D) (limit : ℕ) (delayed : DelayedDisk D members) : Type 0 where
    pub inner : inner_of delayed ≡ disk
    pub capacity : limit_of (waiting_of delayed.layers) ≡ limit
    pub waiting : (n : ℕ) → waiting_for delayed n ≡ None
    pub reads : (delayed_state state delayed).reads ≡ 0
    pub now : (delayed_state state delayed).now ≡ (state disk).now
    pub past : (delayed_state state delayed).past ≡ (state disk).past

  -- what it was at each moment before this one, the newest first
  abbrev pub rests_of : (D → DiskState) → DelayedDisk D members → List Rest
  rests_of state delayed = map (rest_of state) (noted delayed.past) ++ rests_before (state delayed.first.value).past

  -- the disk below follows it
  abbrev pub FollowsBelow : (D → DiskState) → DelayedDisk D members → Type 0
  FollowsBelow state delayed = Follows (delayed_state state delayed) (state (inner_of delayed))

  -- as many blocks may wait as before
  abbrev pub KeepsLimit : DelayedDisk D members → DelayedDisk D members → Type 0
  KeepsLimit old new = limit_of (waiting_of new.layers) ≡ limit_of (waiting_of old.layers)

  -- if block n waited, the call succeeds, and the disk below is as it was
  abbrev pub AnswersHere : {T : Type 0} → ℕ → Result T DeviceFault → DelayedDisk D members → DelayedDisk D members → Type 0
  AnswersHere n result old new = is_some (waiting_for old n) ≡ true → (inner_of new ≡ inner_of old) × IsOk result

  -- if the disk below is honest after it: until its last call, it was touched exactly where blocks are dirty here
  abbrev pub TouchesBelow : (D → DiskState) → DelayedDisk D members → DelayedDisk D members → Type 0
  TouchesBelow state old new = (state (inner_of new)).honest ≡ true → TouchesDirty (medium_of state old.layers) (state (inner_of old)) (state (inner_of new))

  -- what each of its calls does
  pub record Delays (state : D → DiskState) (old new : DelayedDisk D members) : Type 0 where
    pub limit : KeepsLimit old new
    pub apart : TouchesBelow state old new

  -- what reading or loading block n does
  pub record DelaysRead {T : Type 0} (state : D → DiskState) (n : ℕ) (result : Result T DeviceFault) (old new : DelayedDisk D members) : Type 0 where
    pub as_each : Delays state old new
    -- If the block waits, the disk below is not asked.
    pub hit : AnswersHere n result old new

  -- what is promised of each call beside the trait's clauses; of blocks in a row, which are written one by one, no more
  abbrev pub delayed_does : (D → DiskState) → DiskCall → DelayedDisk D members → DelayedDisk D members → Type 0
  delayed_does state (Read n bytes result) old new = DelaysRead state n result old new
  delayed_does state (Load n need result) old new = DelaysRead state n result old new
  delayed_does state (Write n bytes result) old new = Delays state old new
  delayed_does state (WriteRun n blocks result) old new = ⊤
  delayed_does state (Sync result) old new = Delays state old new
  delayed_does state (Extend blocks result) old new = Delays state old new
