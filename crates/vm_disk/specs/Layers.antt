-- What a disk with blocks that wait over it shows.
use Rattle.std.specs.Prelude.{◌≡◌, ◌<◌, ℕ, true, false, List, [], ◌∷◌, Option, Some, None, Result, IsOk}
use Rattle.vm_disk.specs.declared.disk.DeviceFault.{DeviceFault}
use Rattle.vm_disk.specs.declared.layers.Hand.{Hand}
use Rattle.vm_disk.specs.declared.layers.Hand.TheVariants.{Waits, Kept, Below}
use Rattle.vm_disk.specs.declared.layers.Layers.{Layers}
use Rattle.vm_disk.specs.Between.{Between}
use Rattle.vm_disk.specs.Disk.{Counts, Medium, DiskState, moment}
use Rattle.vm_disk.specs.Moments.{Throughout, TouchesOnly}
use Rattle.vm_disk.specs.Laid.{laid, TouchesDirty, Rest}
use Rattle.vm_disk.specs.declared.waiting.Waiting.{Waiting}
use Rattle.vm_disk.specs.Kept.{first_in, rooms_in}
use Rattle.vm_disk.specs.Waiting.{bytes_for, written_for, count_of, limit_of, waits}

-- those bytes, or else these
abbrev pub some_or : Option (List ℕ) → List ℕ → List ℕ
some_or None bytes = bytes
some_or (Some other) bytes = other

-- the bytes at hand, if those are at hand below
abbrev pub at_hand : Hand → Waiting → List ℕ → List ℕ
at_hand Waits waiting below = some_or (first_in (rooms_in waiting.rooms)) below
at_hand (Kept n) waiting below = some_or (written_for waiting n) below
at_hand Below waiting below = below

module _ {D : Type 0} {members : _} where
  -- the disk below
  abbrev pub lower_of : Layers D members → D
  lower_of layers = layers.inner

  -- the blocks that wait
  abbrev pub waiting_of : Layers D members → Waiting
  waiting_of layers = layers.waiting

  -- what the disk below holds, with the waiting blocks over it
  abbrev pub medium_of : (D → DiskState) → Layers D members → Medium
  medium_of state layers = laid (bytes_for (waiting_of layers)) (state (lower_of layers)).now

  -- the bytes at hand
  abbrev pub layers_hand : (D → List ℕ) → Layers D members → List ℕ
  layers_hand hand layers = at_hand layers.at (waiting_of layers) (hand (lower_of layers))

  -- what is known of them, except for their past and the reads
  abbrev pub layers_state : (D → DiskState) → Layers D members → DiskState
  layers_state state layers =
      let below = state (lower_of layers) in record {
        blocks = below.blocks;
        honest = below.honest;
        reads = 0;
        failures = below.failures;
        now = medium_of state layers;
        past = [];
      }

  -- the same after one call
  abbrev pub called : (D → DiskState) → Layers D members → Layers D members → DiskState
  called state old new = record (layers_state state new) { past = medium_of state old ∷ [] }

  -- if the disk below is honest after a call, R holds between what is known before it and what is known after it
  abbrev pub IfHonestBelow : (D → DiskState) → (DiskState → DiskState → Type 0) → Layers D members → Layers D members → Type 0
  IfHonestBelow state R old new = (state (lower_of new)).honest ≡ true → R (layers_state state old) (called state old new)

  -- blocks were written out: nothing changes above, and below only blocks that are dirty above were touched
  pub record Sends (state : D → DiskState) (old new : Layers D members) : Type 0 where
    pub same : medium_of state new ≡ medium_of state old
    pub touches : Throughout (state (lower_of old)) (state (lower_of new)) (TouchesOnly (medium_of state old).dirty (state (lower_of old)).now)

  -- if block n waited, fewer blocks wait now
  abbrev pub FewerWait : ℕ → Layers D members → Layers D members → Type 0
  FewerWait n old new = waits (waiting_of old) n ≡ true → count_of (waiting_of new) < count_of (waiting_of old)

  -- a block that did not wait does not wait now
  abbrev pub WaitNoMore : Layers D members → Layers D members → Type 0
  WaitNoMore old new = (n : ℕ) → waits (waiting_of old) n ≡ false → waits (waiting_of new) n ≡ false

  -- as many blocks may wait as before
  abbrev pub KeepsLimit : Layers D members → Layers D members → Type 0
  KeepsLimit old new = limit_of (waiting_of new) ≡ limit_of (waiting_of old)

  -- if block n waited, the call succeeds, and the disk below was not asked
  abbrev pub AnswersHere : {T : Type 0} → ℕ → Result T DeviceFault → Layers D members → Layers D members → Type 0
  AnswersHere n result old new = waits (waiting_of old) n ≡ true → (lower_of new ≡ lower_of old) × IsOk result

  -- except for its last call, the disk below was touched exactly where it is dirty above
  abbrev pub IsApart : (D → DiskState) → Layers D members → Layers D members → Type 0
  IsApart state old new = TouchesDirty (medium_of state old) (state (lower_of old)) (state (lower_of new))

  -- what a call does that writes waiting blocks out, and fails where the disk below does
  pub record MaySend {T : Type 0} (state : D → DiskState) (result : Result T DeviceFault) (old new : Layers D members) : Type 0 where
    pub any : Between (layers_state state) (Counts 0 result) old new
    pub honest : (state (lower_of new)).honest ≡ true → Sends state old new
    pub limit : KeepsLimit old new

  -- what each call of a disk does: R holds on any disk below, and S if that is honest after it
  pub record Acts (state : D → DiskState) (R S : DiskState → DiskState → Type 0) (old new : Layers D members) : Type 0 where
    pub any : Between (layers_state state) R old new
    pub honest : IfHonestBelow state S old new
    pub below : (state (lower_of new)).honest ≡ true → IsApart state old new
    pub limit : KeepsLimit old new

  -- what they show, and the moment of the disk below
  abbrev pub rest_of : (D → DiskState) → Layers D members → Rest
  rest_of state layers = record { time = moment (state (lower_of layers)); medium = medium_of state layers }
