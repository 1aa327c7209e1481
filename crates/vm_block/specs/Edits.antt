-- What a change of one record leaves of the bytes of a leaf.
use Rattle.std.specs.Prelude.{◌≡◌, ◌≢◌, ℕ, ◌+◌, ◌<◌, ◌≤◌, Bool, true, false, List, [], ◌++◌, length, take, drop, None}
use Rattle.vm_types.specs.declared.key.Key.{Key}
use Rattle.vm_types.specs.Places.{KeyFits, place, value_at, with_record}
use Rattle.vm_block.specs.declared.sizes.TheConstants.{LEAF_ROOM}
use Rattle.vm_block.specs.declared.changes.Placed.{Placed}
use Rattle.vm_block.specs.declared.changes.Placed.TheVariants.{Put, TooBig}
use Rattle.vm_block.specs.declared.changes.Taken.{Taken}
use Rattle.vm_block.specs.declared.changes.Taken.TheVariants.{Out, Last, Absent}
use Rattle.vm_block.specs.declared.look.Look.{Look}
use Rattle.vm_block.specs.declared.look.Look.TheVariants.{Found, Missing}
use Rattle.vm_block.specs.declared.parts.Part.{Part}
use Rattle.vm_block.specs.Changed.{without_place}
use Rattle.vm_block.specs.Leaf.{Record}
use Rattle.vm_block.specs.Leaf.{HasRecords, size_of}
use Rattle.vm_block.specs.Look.{IfRecords, IsLook}
use Rattle.vm_block.specs.Parts.{IsPart, IsWritten}

-- which records of a leaf give way to one of the key: from this index to before that one
abbrev pub span_of : Look → ℕ × ℕ
span_of (Found i) = (i, i + 1)
span_of (Missing i) = (i, i)

-- the records of a leaf up to an index, those of a part, and those of the leaf from another index on
abbrev pub WritesChanged : Bool → List ℕ → ℕ → Part → ℕ → List ℕ → Type 0
WritesChanged result old index middle next new =
    IfRecords old (λ rs. (ms : List Record) → IsPart middle ms → next ≤ length rs → IsWritten result (take index rs ++ (ms ++ drop next rs)) new)

-- what putting a record into a leaf of these records makes of its bytes
abbrev pub IsAfterPut : Placed → Record → List Record → List ℕ → Type 0
IsAfterPut Put r rs new = HasRecords new (with_record r rs)
IsAfterPut TooBig r rs new = LEAF_ROOM < size_of (with_record r rs)

-- what taking a record out of it makes of them
abbrev pub IsAfterTake : Taken → ℕ → List Record → List ℕ → Type 0
IsAfterTake Out p rs new = (value_at p rs ≢ None) × HasRecords new (without_place p rs)
IsAfterTake Last p rs new = (value_at p rs ≢ None) × (without_place p rs ≡ [])
IsAfterTake Absent p rs new = value_at p rs ≡ None

-- a value is written over the one of the record that was found: of a leaf that has it, the leaf with the other value is made
abbrev pub PutsOver : Bool → Look → List ℕ → List ℕ → List ℕ → Type 0
PutsOver false look value old new = Unit {0}
PutsOver true look value old new = (key : Key) → KeyFits key → IfRecords old (λ rs. IsLook (place key) look rs → HasRecords new (with_record (key, value) rs))
