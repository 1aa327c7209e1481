-- What the calls on slots and on the selector do, on a disk that is honest after them.
use Rattle.std.specs.Prelude.{◌≡◌, ◌≢◌, ℕ, ◌+◌, ◌<◌, true, min, List, length, take, Option, Result, Err, IfOk, IsSome, OnOk}
use Rattle.vm_disk.specs.Disk.{DiskState, Writes}
use Rattle.vm_disk.specs.Moments.{Leaves, Throughout, TouchesOnly}
use Rattle.vm_disk.specs.declared.disk.DeviceFault.{DeviceFault}
use Rattle.vm_block.specs.Selector.{other_slot, selector_bytes}
use Rattle.vm_block.specs.Slot.{IsHead, SlotFits, used_blocks}
use Rattle.vm_block.specs.declared.selector.SlotName.{SlotName}
use Rattle.vm_block.specs.declared.slot.Entry.{Entry}
use Rattle.vm_block.specs.declared.slot.SlotHead.{SlotHead}
use Rattle.vm_catalog.specs.Place.{blocks_from, region, slot_at}
use Rattle.vm_catalog.specs.Written.{slot_blocks}
use Rattle.vm_catalog.specs.Catalog.{AtRest, SlotAt}
use Rattle.vm_catalog.specs.Publication.{IsPublished, IsSafelyPublishing, PublishLeaves}
use Rattle.vm_catalog.specs.SlotReads.{BeginsSlot, HasEntry, Loads}
use Rattle.vm_catalog.specs.declared.reader.LoadFault.{LoadFault}
use Rattle.vm_catalog.specs.declared.reader.LoadFault.TheVariants.{Damaged}
use Rattle.vm_catalog.specs.declared.reader.Slot.{Slot}

-- # Loading

-- a block that has a head, and after it entries, is found to have them
abbrev pub FindsFront : {T : Type 0} → Option T → List ℕ → Type 0
FindsFront result block = (limit n : ℕ) → IsHead (take 128 block) limit n → ((i : ℕ) → i < min n 31 → HasEntry block (1 + i)) → IsSome result

-- the first block of this slot has this head, with these entries after it
abbrev pub HasFront : DiskState → SlotName → SlotHead → List Entry → Type 0
HasFront disk slot_name head es = disk.honest ≡ true → BeginsSlot (blocks_from disk.now.contents (slot_at slot_name) 1) head.blocks head.entries es

-- the first block of this slot had the head that is given, with these entries after it
abbrev pub ReadsFront : Result SlotHead LoadFault → DiskState → DiskState → SlotName → List Entry → Type 0
ReadsFront result old new slot_name es =
    new.honest ≡ true → IfOk result (λ head. BeginsSlot (blocks_from old.now.contents (slot_at slot_name) 1) head.blocks head.entries es)

-- the used blocks of this slot had this head, with these entries after it
abbrev pub ReadsOthers : {T : Type 0} → Result T LoadFault → DiskState → DiskState → SlotName → SlotHead → List Entry → Type 0
ReadsOthers result old new slot_name head es =
    new.honest ≡ true → OnOk result (BeginsSlot (blocks_from old.now.contents (slot_at slot_name) (used_blocks head.entries)) head.blocks head.entries es)

-- what held entries is not taken for damage
abbrev pub TakesSlot : {T : Type 0} → Result T LoadFault → DiskState → DiskState → SlotName → Type 0
TakesSlot result old new slot_name = new.honest ≡ true → (limit : ℕ) (es : List Entry) → SlotAt old.now.contents slot_name limit es → result ≢ Err Damaged

-- what is loaded, this slot held
abbrev pub LoadsHeld : {E : Type 0} → Result Slot E → DiskState → DiskState → SlotName → Type 0
LoadsHeld result old new slot_name = new.honest ≡ true → IfOk result (λ slot. SlotAt old.now.contents slot_name slot.blocks slot.entries.items)

-- what this slot held is loaded
abbrev pub LoadsAll : Result Slot LoadFault → DiskState → DiskState → SlotName → Type 0
LoadsAll result old new slot_name = new.honest ≡ true → (limit : ℕ) (es : List Entry) → SlotAt old.now.contents slot_name limit es → Loads result limit es

-- on any disk: one read was made for each used block of the slot that is given
abbrev pub ReadsUsed : Result Slot LoadFault → DiskState → DiskState → Type 0
ReadsUsed result old new = IfOk result (λ slot. new.reads ≡ old.reads + used_blocks (length slot.entries.items))

-- # Writing

-- the selector that names this slot was written
abbrev pub WritesSelector : {T : Type 0} → Result T DeviceFault → DiskState → DiskState → SlotName → Type 0
WritesSelector result old new slot_name = new.honest ≡ true → Writes 1 (selector_bytes slot_name) result old new

-- the used blocks of this slot are those of these entries, of a store of this many blocks
abbrev pub WritesSlot : {T : Type 0} → Result T DeviceFault → DiskState → SlotName → ℕ → List Entry → Type 0
WritesSlot result new slot_name blocks es =
    new.honest ≡ true → OnOk result (blocks_from new.now.contents (slot_at slot_name) (used_blocks (length es)) ≡ slot_blocks blocks es)

-- at no moment another block was touched than those that this slot uses for these entries
abbrev pub TouchesSlot : DiskState → DiskState → SlotName → List Entry → Type 0
TouchesSlot old new slot_name es =
    new.honest ≡ true → Throughout old new (TouchesOnly (region (slot_at slot_name) (used_blocks (length es))) old.now)

-- # Publishing, from a disk at rest whose selector names one slot

module _ (old new : DiskState) (in_use : SlotName) (blocks : ℕ) (entries : List Entry) where
  -- P holds of the entries that were in use and the size of their store, if the new entries are such as a slot may have
  abbrev pub FromRest : (ℕ → List Entry → Type 0) → Type 0
  FromRest P = new.honest ≡ true → (limit : ℕ) (es : List Entry) → AtRest in_use old.now limit es → SlotFits blocks entries → P limit es

  -- the new entries alone are named, no block is dirty, and the data blocks are as they were
  abbrev pub Publishes : {T : Type 0} → Result T DeviceFault → Type 0
  Publishes result = FromRest (λ limit es. OnOk result (IsPublished (other_slot in_use) old.now new.now blocks entries))

  -- at each moment what the selector may name is whole and clean, and nothing writes it
  abbrev pub PublishesSafely : Type 0
  PublishesSafely = FromRest (λ limit es. Throughout old new (IsSafelyPublishing in_use old.now limit es blocks entries))

  -- a crash at any moment leaves the old entries or the new, with their data blocks
  abbrev pub CrashLeavesOne : Type 0
  CrashLeavesOne = FromRest (λ limit es. Throughout old new (Leaves (PublishLeaves old.now limit es blocks entries)))
