-- Block 1, which names one of the two slots.
use Rattle.std.specs.Prelude.{ℕ, ◌%◌, ◌==◌, List, [], ◌∷◌, slice_index, if◌then◌else◌}
use Rattle.vm_types.specs.declared.sizes.TheConstants.{BLOCK_SIZE}
use Rattle.vm_block.specs.Padding.{padded}
use Rattle.vm_block.specs.declared.selector.SlotName.{SlotName}
use Rattle.vm_block.specs.declared.selector.SlotName.TheVariants.{A, B}

-- the slot that it names: only the lowest bit of its first byte counts
abbrev pub named_slot : List ℕ → SlotName
named_slot bytes = if slice_index bytes 0 % 2 == 1 then B else A

-- the slot that is not this one
abbrev pub other_slot : SlotName → SlotName
other_slot A = B
other_slot B = A

-- its first byte
abbrev pub selector_byte : SlotName → ℕ
selector_byte A = 0
selector_byte B = 1

-- as it is written
unfoldable pub selector_bytes : SlotName → List ℕ
selector_bytes slot_name = padded BLOCK_SIZE (selector_byte slot_name ∷ [])
