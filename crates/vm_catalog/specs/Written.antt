-- The blocks of a slot, as they are written, and the selector.
use Rattle.std.specs.Prelude.{◌≡◌, ℕ, zero, suc, true, List, [], ◌∷◌, length, map, take, drop, Result, OnOk}
use Rattle.std.specs.List.{flat_map}
use Rattle.vm_types.specs.declared.sizes.TheConstants.{BLOCK_SIZE}
use Rattle.vm_disk.specs.Disk.{Contents, DiskState, block}
use Rattle.vm_disk.specs.Moments.{Throughout, TouchesOnly}
use Rattle.vm_block.specs.Padding.{padded}
use Rattle.vm_block.specs.Selector.{selector_bytes}
use Rattle.vm_block.specs.Slot.{head_bytes, entry_bytes, used_blocks}
use Rattle.vm_block.specs.declared.selector.SlotName.{SlotName}
use Rattle.vm_block.specs.declared.slot.Entry.{Entry}
use Rattle.vm_catalog.specs.Place.{blocks_from, is_turned, slot_at}

-- pieces, one after the other
abbrev pub joined : List (List ℕ) → List ℕ
joined pieces = flat_map (λ piece. piece) pieces

-- the head of a slot and its entries, each in 128 bytes
abbrev pub cells : ℕ → List Entry → List (List ℕ)
cells limit es = head_bytes limit (length es) ∷ map entry_bytes es

-- this many blocks of 32 cells each, with zero bytes after the last cell
abbrev pub in_blocks : ℕ → List (List ℕ) → List (List ℕ)
in_blocks zero pieces = []
in_blocks (suc k) pieces = padded BLOCK_SIZE (joined (take 32 pieces)) ∷ in_blocks k (drop 32 pieces)

-- the used blocks of a slot with these entries, of a store of this many blocks
unfoldable pub slot_blocks : ℕ → List Entry → List (List ℕ)
slot_blocks limit es = in_blocks (used_blocks (length es)) (cells limit es)

-- byte by byte, the used blocks of this slot are those of these entries, and the selector is the one that names it
pub record IsAsWritten (x : Contents) (slot_name : SlotName) (limit : ℕ) (es : List Entry) : Type 0 where
  pub slot : blocks_from x (slot_at slot_name) (used_blocks (length es)) ≡ slot_blocks limit es
  pub selector : block x 1 ≡ selector_bytes slot_name

-- if it was done, this slot and the selector that names it are as they are written, byte by byte
abbrev pub WritesBoth : {T E : Type 0} → Result T E → DiskState → SlotName → ℕ → List Entry → Type 0
WritesBoth result new slot_name blocks es = new.honest ≡ true → OnOk result (IsAsWritten new.now.contents slot_name blocks es)

-- at no moment another block was touched than the selector and those that this slot uses for these entries
abbrev pub TouchesBoth : DiskState → DiskState → SlotName → List Entry → Type 0
TouchesBoth old new slot_name es = new.honest ≡ true → Throughout old new (TouchesOnly (is_turned slot_name (length es)) old.now)
