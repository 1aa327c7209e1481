-- What is read of a slot.
use Rattle.std.specs.Prelude.{◌≡◌, ℕ, ◌+◌, ◌*◌, min, List, ◌++◌, length, take, drop, Result, Ok, Err}
use Rattle.std.specs.List.{AllByRecursion, flat_map}
use Rattle.vm_types.specs.declared.sizes.TheConstants.{BLOCK_SIZE}
use Rattle.vm_block.specs.Slot.{head_bytes, entry_bytes, EntryFits, HeadFits, IsEntry}
use Rattle.vm_block.specs.declared.slot.Entry.{Entry}
use Rattle.vm_catalog.specs.Written.{joined}
use Rattle.vm_catalog.specs.declared.reader.Slot.{Slot}
use Rattle.vm_catalog.specs.declared.reader.LoadFault.{LoadFault}
use Rattle.vm_catalog.specs.declared.reader.LoadFault.TheVariants.{Device, Memory, Damaged}

-- these entries of a slot, of a store of this many blocks, were loaded, or the device or memory failed
abbrev pub Loads : Result Slot LoadFault → ℕ → List Entry → Type 0
Loads (Ok slot) limit es = (slot.blocks ≡ limit) × (slot.entries.items ≡ es)
Loads (Err Device) limit es = Unit {0}
Loads (Err Memory) limit es = Unit {0}
Loads (Err Damaged) limit es = ⊥

-- cell i of a block: 128 bytes
abbrev pub cell_of : List ℕ → ℕ → List ℕ
cell_of bytes i = take 128 (drop (128 * i) bytes)

-- cell i of a block is an entry
pub record HasEntry (bytes : List ℕ) (i : ℕ) : Type 0 where
  pub entry : Entry
  pub here : IsEntry (cell_of bytes i) entry

-- this many entries, from a cell on, were read after the old ones
pub record HasTaken (bytes : List ℕ) (first count : ℕ) (old new : List Entry) : Type 0 where
  pub more : List Entry
  pub items : new ≡ old ++ more
  pub many : length more ≡ count
  pub each : AllByRecursion EntryFits more
  pub spelled : take (128 * count) (drop (128 * first) bytes) ≡ flat_map entry_bytes more

-- a head that fits, and as many of its entries as stand in this many blocks
pub record FitsSoFar (limit n count : ℕ) (es : List Entry) : Type 0 where
  pub head : HeadFits limit n
  pub each : AllByRecursion EntryFits es
  pub many : length es + 1 ≡ min (n + 1) (32 * count)

-- the blocks begin with this head and these entries
pub record BeginsSlot (blocks : List (List ℕ)) (limit n : ℕ) (es : List Entry) : Type 0 where
  pub whole : AllByRecursion (λ block. length block ≡ BLOCK_SIZE) blocks
  pub rest : List ℕ
  pub spelled : joined blocks ≡ (head_bytes limit n ++ flat_map entry_bytes es) ++ rest
