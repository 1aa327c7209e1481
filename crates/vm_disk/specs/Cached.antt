-- What a `CachedDisk` shows, and which blocks it keeps.
use Rattle.std.specs.Prelude.{◌≡◌, ℕ, ◌+◌, ◌<◌, true, false, nat_eq, if◌then◌else◌, List, [], length, Some, Result, IsOk, OnOk, OnErr}
use Rattle.std.specs.Map.{lookup, remove_entry}
use Rattle.vm_disk.specs.declared.cached.CachedDisk.{CachedDisk}
use Rattle.vm_disk.specs.declared.disk.DeviceFault.{DeviceFault}
use Rattle.vm_disk.specs.declared.disk.Need.{Need}
use Rattle.vm_disk.specs.declared.disk.Need.TheVariants.{Again, Once}
use Rattle.vm_disk.specs.Calls.{DiskCall, Read, Load, Write, WriteRun, Sync, Extend}
use Rattle.vm_disk.specs.Disk.{Counts, DiskState, Extends}
use Rattle.vm_disk.specs.Kept.{Entries, UsesBlock, UsesBlocks, entries_of, keeps, limit_of, refusals_in, first_or, without_run}
use Rattle.vm_disk.specs.Past.{noted}

module _ {D : Type 0} {members : _} where
  -- the disk below
  abbrev pub inner_of : CachedDisk D members → D
  inner_of cached = cached.inner

  -- the blocks that it keeps, with their bytes, the one that was used last first
  abbrev pub kept_of : CachedDisk D members → Entries
  kept_of cached = entries_of cached.kept

  -- how many blocks it may keep
  abbrev pub capacity_of : CachedDisk D members → ℕ
  capacity_of cached = limit_of cached.kept

  -- how often it did not keep a block since memory was refused
  abbrev pub refusals_of : CachedDisk D members → ℕ
  refusals_of cached = refusals_in cached.kept

  -- it counts its own reads, and all else is as below
  abbrev pub cached_state : (D → DiskState) → CachedDisk D members → DiskState
  cached_state state cached =
      let below = state (inner_of cached) in record {
        blocks = below.blocks;
        honest = below.honest;
        reads = length (noted cached.reads);
        failures = below.failures;
        now = below.now;
        past = below.past;
      }

  -- the bytes on the desk, or those of the kept block that was used last
  abbrev pub cached_hand : CachedDisk D members → List ℕ
  cached_hand cached = if cached.on_desk then cached.desk.value else first_or cached.desk.value (kept_of cached)

  -- R holds between what is known of the disk below before and after
  abbrev pub Below : (D → DiskState) → (DiskState → DiskState → Type 0) → CachedDisk D members → CachedDisk D members → Type 0
  Below state R old new = R (state (inner_of old)) (state (inner_of new))

  -- just made over this disk: it keeps no block yet, and no read was asked of it
  pub record IsEmptyOver (disk : D) (limit : ℕ) (cached : CachedDisk D members) : Type 0 where
    pub inner : inner_of cached ≡ disk
    pub capacity : capacity_of cached ≡ limit
    pub kept : kept_of cached ≡ []
    pub reads : length (noted cached.reads) ≡ 0
    pub refusals : refusals_of cached ≡ 0

  -- block n was used and has these bytes: it is kept, as the first, unless memory for it was refused
  abbrev pub Uses : ℕ → List ℕ → CachedDisk D members → CachedDisk D members → Type 0
  Uses n bytes old new = UsesBlock n bytes old.kept new.kept

  -- the blocks in a row from the first one on were used so with these bytes, one after another
  abbrev pub UsesRun : ℕ → List (List ℕ) → CachedDisk D members → CachedDisk D members → Type 0
  UsesRun first blocks old new = UsesBlocks first blocks (length blocks) old.kept new.kept

  -- it keeps these blocks, and asked for no memory
  pub record KeepsJust (entries : Entries) (old new : CachedDisk D members) : Type 0 where
    pub capacity : capacity_of new ≡ capacity_of old
    pub kept : kept_of new ≡ entries
    pub refusals : refusals_of new ≡ refusals_of old

  -- it keeps block n no longer, all others as before, and asked for no memory
  abbrev pub Loses : ℕ → CachedDisk D members → CachedDisk D members → Type 0
  Loses n old new = KeepsJust (remove_entry (nat_eq n) (kept_of old)) old new

  -- it kept block n, with these bytes: they are read, and the disk below stays as it was
  abbrev pub Recalls : {T : Type 0} → ℕ → List ℕ → Result T DeviceFault → CachedDisk D members → CachedDisk D members → Type 0
  Recalls n bytes result old new = (inner_of new ≡ inner_of old) × IsOk result × (lookup (nat_eq n) (kept_of old) ≡ Some bytes)

  -- it keeps none of this many blocks in a row from the first one on, all others as before, and asked for no memory
  pub record LosesRun (first count : ℕ) (old new : CachedDisk D members) : Type 0 where
    pub rest : KeepsJust (without_run first count (kept_of old)) old new
    pub gone : (i : ℕ) → i < count → keeps (first + i) (kept_of new) ≡ false

  -- what loading block n does, whose bytes these are; reading it is loading it for `Again`
  pub record LoadsBlock {T : Type 0} (state : D → DiskState) (n : ℕ) (need : Need) (bytes : List ℕ) (result : Result T DeviceFault) (old new : CachedDisk D members) : Type 0 where
    -- A kept block is loaded at once, without asking the disk below.
    pub hit : keeps n (kept_of old) ≡ true → Recalls n bytes result old new
    -- For any other block, the disk below is asked once.
    pub miss : keeps n (kept_of old) ≡ false → Below state (Counts 1 result) old new
    pub kept : need ≡ Again → OnOk result (Uses n bytes old new)
    -- A block that is loaded with `Once` stays kept if it was, and otherwise evicts nothing.
    pub stays : keeps n (kept_of old) ≡ true → Uses n bytes old new
    pub once : need ≡ Once → keeps n (kept_of old) ≡ false → KeepsJust (kept_of old) old new
    -- If the disk below fails it, the same blocks stay kept.
    pub failed : OnErr result (KeepsJust (kept_of old) old new)

  -- what writing these bytes to block n does
  pub record WritesThrough {T : Type 0} (state : D → DiskState) (n : ℕ) (bytes : List ℕ) (result : Result T DeviceFault) (old new : CachedDisk D members) : Type 0 where
    pub passed : Below state (Counts 0 result) old new
    pub kept : OnOk result (Uses n bytes old new)
    -- A block whose write failed is not kept.
    pub failed : OnErr result (Loses n old new)
    pub gone : OnErr result (keeps n (kept_of new) ≡ false)

  -- what writing these blocks in a row does, from the first one on
  pub record WritesRunThrough {T : Type 0} (state : D → DiskState) (first : ℕ) (blocks : List (List ℕ)) (result : Result T DeviceFault) (old new : CachedDisk D members) : Type 0 where
    -- This counts no read of the disk below.
    pub passed : Below state (Counts 0 result) old new
    pub kept : OnOk result (UsesRun first blocks old new)
    -- If that failed, none of them is kept.
    pub lost : OnErr result (LosesRun first (length blocks) old new)

  -- what a sync or an extension does: it goes to the disk below, and the same blocks stay kept
  pub record PassesOn (state : D → DiskState) (R : DiskState → DiskState → Type 0) (old new : CachedDisk D members) : Type 0 where
    pub passed : Below state R old new
    pub kept : KeepsJust (kept_of old) old new

  -- what is promised of each call beside the trait's clauses
  abbrev pub cached_does : (D → DiskState) → DiskCall → CachedDisk D members → CachedDisk D members → Type 0
  cached_does state (Read n bytes result) old new = LoadsBlock state n Again bytes result old new
  cached_does state (Load n need result) old new = LoadsBlock state n need (cached_hand new) result old new
  cached_does state (Write n bytes result) old new = WritesThrough state n bytes result old new
  cached_does state (WriteRun n blocks result) old new = WritesRunThrough state n blocks result old new
  cached_does state (Sync result) old new = PassesOn state (Counts 0 result) old new
  cached_does state (Extend blocks result) old new = PassesOn state (Extends blocks result) old new
