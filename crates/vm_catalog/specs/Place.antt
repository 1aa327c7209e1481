-- Where the header, the selector and the two slots stand on a disk.
use Rattle.std.specs.Prelude.{ℕ, zero, suc, ◌+◌, ◌&&◌, ◌||◌, ◌==◌, nat_lt, nat_le, Bool, List, [], ◌∷◌}
use Rattle.vm_disk.specs.Disk.{Contents, block}
use Rattle.vm_block.specs.Selector.{named_slot}
use Rattle.vm_block.specs.Slot.{used_blocks}
use Rattle.vm_block.specs.declared.selector.SlotName.{SlotName}
use Rattle.vm_block.specs.declared.selector.SlotName.TheVariants.{A, B}

-- this many blocks, from block `at` on
abbrev pub blocks_from : Contents → ℕ → ℕ → List (List ℕ)
blocks_from x at zero = []
blocks_from x at (suc k) = block x at ∷ blocks_from x (at + 1) k

-- whether block n is one of this many, from block `at` on
abbrev pub region : ℕ → ℕ → ℕ → Bool
region at count n = nat_le at n && nat_lt n (at + count)

-- the first block of a slot
abbrev pub slot_at : SlotName → ℕ
slot_at A = 2
slot_at B = 18

-- the slot that the selector names
abbrev pub selected : Contents → SlotName
selected x = named_slot (block x 1)

-- whether block n is the header, the selector, or a used block of this slot, which has this many entries
abbrev pub is_used : SlotName → ℕ → ℕ → Bool
is_used slot_name count n = nat_lt n 2 || region (slot_at slot_name) (used_blocks count) n

-- whether block n is the selector, or a used block of this slot, which has this many entries
abbrev pub is_turned : SlotName → ℕ → ℕ → Bool
is_turned slot_name count n = n == 1 || region (slot_at slot_name) (used_blocks count) n
