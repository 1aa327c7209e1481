-- Laws of the catalog, each a sentence about all contents.
use Rattle.std.specs.Prelude.{◌≡◌, ℕ, true, List, length}
use Rattle.vm_disk.specs.Disk.{Contents, block}
use Rattle.vm_block.specs.Slot.{IsSlot, SlotFits}
use Rattle.vm_block.specs.declared.selector.SlotName.{SlotName}
use Rattle.vm_block.specs.declared.slot.Entry.{Entry}
use Rattle.vm_catalog.specs.Place.{is_used, selected}
use Rattle.vm_catalog.specs.Written.{slot_blocks}
use Rattle.vm_catalog.specs.Catalog.{Names, SlotAt}

-- a slot holds one list of entries, of a store of one size
abbrev pub SlotsHoldOne : Type 0
SlotsHoldOne =
    (x : Contents) (slot_name : SlotName) (limit most : ℕ) (es fs : List Entry) → SlotAt x slot_name limit es
    → SlotAt x slot_name most fs → (limit ≡ most) × (es ≡ fs)

-- contents name one list of entries, of a store of one size
abbrev pub ContentsNameOne : Type 0
ContentsNameOne =
    (x : Contents) (limit most : ℕ) (es fs : List Entry) → Names x limit es → Names x most fs
    → (limit ≡ most) × (es ≡ fs)

-- contents with the same used blocks name the same entries
abbrev pub UsedBlocksName : Type 0
UsedBlocksName =
    (x y : Contents) (limit : ℕ) (es : List Entry) → ((n : ℕ) → is_used (selected x) (length es) n ≡ true → block y n ≡ block x n)
    → Names x limit es → Names y limit es

-- the blocks of a slot, as they are written, hold its entries
abbrev pub WrittenSlotsAreSlots : Type 0
WrittenSlotsAreSlots = (limit : ℕ) (es : List Entry) → SlotFits limit es → IsSlot (slot_blocks limit es) limit es
