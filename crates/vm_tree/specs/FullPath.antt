-- By how many blocks a tree grows, and full paths: where it has no room for a record.
use Rattle.std.specs.Prelude.{◌≡◌, ℕ, zero, suc, ◌+◌, ◌<◌, ◌≤◌, nat_lt, if◌then◌else◌, List, length, map, slice_index}
use Rattle.vm_types.specs.Places.{place, with_record}
use Rattle.vm_disk.specs.Disk.{Contents, block}
use Rattle.vm_block.specs.declared.sizes.TheConstants.{LEAF_ROOM}
use Rattle.vm_block.specs.Leaf.{HasRecords, Record, size_of}
use Rattle.vm_block.specs.Node.{IsNode, lows}
use Rattle.vm_block.specs.Split.{larger}
use Rattle.vm_block.specs.Way.{IsChosen}
use Rattle.vm_block.specs.declared.node.Child.{Child}
use Rattle.vm_tree.specs.Tree.{Sizes}

-- the blocks of children
abbrev pub blocks_of : List Child → List ℕ
blocks_of cs = map (λ c. c.block) cs

-- this many more leaves are needed for these records: none if they have room in one, one if a cut makes two, else two
abbrev pub NeedsMore : List Record → ℕ → Type 0
NeedsMore rs zero = size_of rs ≤ LEAF_ROOM
NeedsMore rs (suc zero) = (LEAF_ROOM < size_of rs) × (h : ℕ) × (0 < h) × (h < length rs) × (larger h rs ≤ LEAF_ROOM)
NeedsMore rs (suc (suc zero)) = (LEAF_ROOM < size_of rs) × ((h : ℕ) → 0 < h → h < length rs → LEAF_ROOM < larger h rs)
NeedsMore rs (suc (suc (suc n))) = ⊥

-- with this record, block b, l levels above the leaves, becomes this many more blocks
unfoldable pub GrowsBy : Sizes → Contents → Record → ℕ → ℕ → ℕ → Type 0
GrowsBy sizes x r zero b more = (rs : List Record) × HasRecords (block x b) rs × NeedsMore (with_record r rs) more
GrowsBy sizes x r (suc l) b more =
    (cs : List Child) × (i : ℕ) × (below : ℕ) × IsNode (block x b) (suc l) cs × IsChosen (lows cs) (place r.0) i
    × GrowsBy sizes x r l (slice_index (blocks_of cs) i) below × (more ≡ (if nat_lt sizes.fan (length cs + below) then 1 else 0))

-- the tree under root b has its greatest number of levels, and with this record its root would become more than one block
abbrev pub FullPath : Sizes → Contents → Record → ℕ → Type 0
FullPath sizes x r b = (l : ℕ) × (more : ℕ) × (l + 1 ≡ sizes.levels) × (0 < more) × GrowsBy sizes x r l b more
