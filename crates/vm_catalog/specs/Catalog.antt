-- The entries that a disk names.
use Rattle.std.specs.Prelude.{◌≡◌, ℕ, true, false, List, length, Option, Some, None}
use Rattle.vm_disk.specs.Disk.{Contents, block, Medium}
use Rattle.vm_block.specs.Header.{IsHeader}
use Rattle.vm_block.specs.Slot.{IsSlot, used_blocks}
use Rattle.vm_block.specs.declared.slot.Entry.{Entry}
use Rattle.vm_block.specs.declared.selector.SlotName.{SlotName}
use Rattle.vm_catalog.specs.Place.{blocks_from, slot_at, selected, is_used}

-- this slot holds these entries, of a store of this many blocks
abbrev pub SlotAt : Contents → SlotName → ℕ → List Entry → Type 0
SlotAt x slot_name limit es = IsSlot (blocks_from x (slot_at slot_name) (used_blocks (length es))) limit es

-- there is a header, and the slot that the selector names holds these entries
pub record Names (x : Contents) (limit : ℕ) (es : List Entry) : Type 0 where
  pub header : IsHeader (block x 0)
  pub slot : SlotAt x (selected x) limit es

-- the selector names these entries in this slot, and each block that names them is clean
pub record AtRest (slot_name : SlotName) (m : Medium) (limit : ℕ) (es : List Entry) : Type 0 where
  pub names : Names m.contents limit es
  pub in_use : selected m.contents ≡ slot_name
  pub clean : (n : ℕ) → is_used slot_name (length es) n ≡ true → m.dirty n ≡ false

-- what is found in use: a slot that the selector names after a header, or no header
abbrev pub Selects : Contents → Option SlotName → Type 0
Selects x None = IsHeader (block x 0) → ⊥
Selects x (Some slot_name) = IsHeader (block x 0) × (selected x ≡ slot_name)
