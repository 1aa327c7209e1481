-- Laws of the forms, each a sentence about all bytes.
use Rattle.std.specs.Prelude.{◌≡◌, ℕ, ◌<◌, ◌≤◌, List, length}
use Rattle.std.specs.List.{AllByRecursion}
use Rattle.vm_types.specs.Places.{RisesFrom, places}
use Rattle.vm_block.specs.declared.sizes.TheConstants.{LEAF_ROOM, MAX_CHILDREN}
use Rattle.vm_block.specs.Leaf.{HasRecords, Record, RecordFits, leaf_bytes, size_of}
use Rattle.vm_block.specs.Node.{ChildFits, IsNode, lows, node_bytes}
use Rattle.vm_block.specs.Slot.{EntryFits, HeadFits, IsEntry, IsHead, IsSlot, entry_bytes, head_bytes}
use Rattle.vm_block.specs.declared.node.Child.{Child}
use Rattle.vm_block.specs.declared.slot.Entry.{Entry}

-- the same bytes are one leaf
abbrev pub RecordsAreOne : Type 0
RecordsAreOne = (c : List ℕ) (rs qs : List Record) → HasRecords c rs → HasRecords c qs → rs ≡ qs

-- the same bytes are one inner block
abbrev pub NodesAreOne : Type 0
NodesAreOne = (c : List ℕ) (l m : ℕ) (cs ds : List Child) → IsNode c l cs → IsNode c m ds → (l ≡ m) × (cs ≡ ds)

-- no bytes are a leaf and an inner block
abbrev pub NoLeafIsANode : Type 0
NoLeafIsANode = (c : List ℕ) (rs : List Record) (l : ℕ) (cs : List Child) → HasRecords c rs → IsNode c l cs → ⊥

-- the same bytes are one head of a slot
abbrev pub HeadsAreOne : Type 0
HeadsAreOne =
    (c : List ℕ) (limit n most m : ℕ) → IsHead c limit n → IsHead c most m → (limit ≡ most) × (n ≡ m)

-- the same bytes are one entry
abbrev pub EntriesAreOne : Type 0
EntriesAreOne = (c : List ℕ) (e f : Entry) → IsEntry c e → IsEntry c f → e ≡ f

-- the same blocks are one slot
abbrev pub SlotsAreOne : Type 0
SlotsAreOne =
    (blocks : List (List ℕ)) (limit most : ℕ) (es fs : List Entry) → IsSlot blocks limit es → IsSlot blocks most fs → (limit ≡ most) × (es ≡ fs)

-- the leaf of records that rise, each within its limits, and for which it has room, is a leaf of these
abbrev pub WrittenRecordsAreRecords : Type 0
WrittenRecordsAreRecords =
    (rs : List Record) → 0 < length rs → size_of rs ≤ LEAF_ROOM → AllByRecursion RecordFits rs → RisesFrom 0 (places rs) → HasRecords (leaf_bytes rs) rs

-- the inner block of a level from 1 to 7 and of children that rise, each of its size and 256 at most, is one of these
abbrev pub WrittenNodesAreNodes : Type 0
WrittenNodesAreNodes =
    (l : ℕ) (cs : List Child) → 0 < l → l ≤ 7 → 0 < length cs → length cs ≤ MAX_CHILDREN → AllByRecursion ChildFits cs → RisesFrom 0 (lows cs)
    → IsNode (node_bytes l cs) l cs

-- the head of a slot with counts that it may have is one with these
abbrev pub WrittenHeadsAreHeads : Type 0
WrittenHeadsAreHeads = (limit n : ℕ) → HeadFits limit n → IsHead (head_bytes limit n) limit n

-- an entry that is written is that entry, if its names are names
abbrev pub WrittenEntriesAreEntries : Type 0
WrittenEntriesAreEntries = (e : Entry) → EntryFits e → IsEntry (entry_bytes e) e
