-- What a `FuseDisk` shows, and which calls it fails.
use Rattle.std.specs.Prelude.{◌≡◌, ℕ, ◌+◌, ◌-◌, ◌^◌, ◌==◌, ◌||◌, min, nat_le, Bool, true, false, if◌then◌else◌, List, length, Result, IsErr, ⊤}
use Rattle.vm_disk.specs.declared.fuse.FuseDisk.{FuseDisk}
use Rattle.vm_disk.specs.declared.disk.DeviceFault.{DeviceFault}
use Rattle.vm_disk.specs.Calls.{DiskCall, Read, Load, Write, WriteRun, Sync, Extend}
use Rattle.vm_disk.specs.Disk.{Counts, DiskState, Extends, block}
use Rattle.vm_disk.specs.Past.{noted}

module _ {D : Type 0} where
  -- the disk below
  abbrev pub inner_of : FuseDisk D → D
  inner_of fuse = fuse.inner

  -- how many calls it passes before it fails one
  abbrev pub passes_of : FuseDisk D → ℕ
  passes_of fuse = fuse.passes

  -- it fails each call after those, and not the next one alone
  abbrev pub is_stop : FuseDisk D → Bool
  is_stop fuse = fuse.stops

  -- what a write that it fails leaves in the block
  abbrev pub torn_of : FuseDisk D → List ℕ
  torn_of fuse = fuse.torn

  -- how many device calls were made so far, up to the greatest number of 32 bits
  abbrev pub calls_of : FuseDisk D → ℕ
  calls_of fuse = fuse.calls

  -- it has failed a call
  abbrev pub is_blown : FuseDisk D → Bool
  is_blown fuse = fuse.blown

  -- how many calls it has failed
  abbrev pub failed_of : FuseDisk D → ℕ
  failed_of fuse = length (noted fuse.failed)

  -- the next call is one that it fails
  abbrev pub fails_next : FuseDisk D → Bool
  fails_next fuse = if is_stop fuse then nat_le (passes_of fuse) (calls_of fuse) else calls_of fuse == passes_of fuse

  -- a device call is counted, and the setting stays
  pub record Burns (old new : FuseDisk D) : Type 0 where
    pub calls : calls_of new ≡ min (calls_of old + 1) (2 ^ 32 - 1)
    pub blown : is_blown new ≡ (is_blown old || fails_next old)
    pub passes : passes_of new ≡ passes_of old
    pub stop : is_stop new ≡ is_stop old
    pub torn : torn_of new ≡ torn_of old

  -- its own failures, and the reads among them, come on top of those below
  abbrev pub fuse_state : (D → DiskState) → FuseDisk D → DiskState
  fuse_state state fuse =
      let below = state (inner_of fuse) in record {
        blocks = below.blocks;
        honest = below.honest;
        reads = below.reads + length (noted fuse.missed);
        failures = below.failures + failed_of fuse;
        now = below.now;
        past = below.past;
      }

  -- just set, over this disk, and the same is known of both: no call was made yet
  pub record IsSet (state : D → DiskState) (disk : D) (k : ℕ) (fails_on : Bool) (bytes : List ℕ) (fuse : FuseDisk D) : Type 0 where
    pub inner : inner_of fuse ≡ disk
    pub passes : passes_of fuse ≡ k
    pub stop : is_stop fuse ≡ fails_on
    pub torn : torn_of fuse ≡ bytes
    pub calls : calls_of fuse ≡ 0
    pub blown : is_blown fuse ≡ false
    pub known : fuse_state state fuse ≡ state disk

  -- the block at hand is the one below
  abbrev pub fuse_hand : (D → List ℕ) → FuseDisk D → List ℕ
  fuse_hand hand fuse = hand (inner_of fuse)

  -- a call that it does not fail: R holds between what is known of the disk below before and after
  abbrev pub Passes : (D → DiskState) → (DiskState → DiskState → Type 0) → FuseDisk D → FuseDisk D → Type 0
  Passes state R old new = fails_next old ≡ false → R (state (inner_of old)) (state (inner_of new))

  -- a write that it fails: if the disk below is honest and did not fail it too, block n holds the bytes that such a write leaves
  abbrev pub Tears : (D → DiskState) → ℕ → FuseDisk D → FuseDisk D → Type 0
  Tears state n old new =
      fails_next old ≡ true → (state (inner_of new)).honest ≡ true
      → (state (inner_of new)).failures ≡ (state (inner_of old)).failures
      → block (state (inner_of new)).now.contents n ≡ torn_of old

  -- what a call does that it may fail
  pub record MayFail {T : Type 0} (state : D → DiskState) (R : DiskState → DiskState → Type 0) (result : Result T DeviceFault) (old new : FuseDisk D) : Type 0 where
    pub burns : Burns old new
    pub passed : Passes state R old new
    pub failed : fails_next old ≡ true → IsErr result

  -- what each of these does but a write: if it fails the call, that does not reach the disk below
  pub record MayFailAlone {T : Type 0} (state : D → DiskState) (R : DiskState → DiskState → Type 0) (result : Result T DeviceFault) (old new : FuseDisk D) : Type 0 where
    pub as_each : MayFail state R result old new
    pub kept : fails_next old ≡ true → inner_of new ≡ inner_of old

  -- what writing block n does
  pub record MayTear {T : Type 0} (state : D → DiskState) (n : ℕ) (result : Result T DeviceFault) (old new : FuseDisk D) : Type 0 where
    pub as_each : MayFail state (Counts 0 result) result old new
    -- If the write of those bytes fails below, too, the block holds any bytes.
    pub torn : Tears state n old new

  -- what is promised of each call beside the trait's clauses; of blocks in a row, which are written one by one, no more
  abbrev pub fuse_does : (D → DiskState) → DiskCall → FuseDisk D → FuseDisk D → Type 0
  fuse_does state (Read n bytes result) old new = MayFailAlone state (Counts 1 result) result old new
  fuse_does state (Load n need result) old new = MayFailAlone state (Counts 1 result) result old new
  fuse_does state (Write n bytes result) old new = MayTear state n result old new
  fuse_does state (WriteRun n blocks result) old new = ⊤
  fuse_does state (Sync result) old new = MayFailAlone state (Counts 0 result) result old new
  fuse_does state (Extend blocks result) old new = MayFailAlone state (Extends blocks result) result old new
