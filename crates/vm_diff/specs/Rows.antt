-- What stands in the bytes of a block.
use Rattle.std.specs.Prelude.{◌≡◌, ℕ, zero, suc, ◌+◌, ◌-◌, ◌*◌, ◌<◌, ◌≤◌, List, [], ◌∷◌, length, take, drop, slice_index_or}
use Rattle.vm_block.specs.Bounds.{bound_of}
use Rattle.vm_block.specs.Leaf.{HasRecords, Record}
use Rattle.vm_block.specs.Row.{child_of, node_row}
use Rattle.vm_tree.specs.BlockReads.{IsLeafSize}
use Rattle.vm_block.specs.declared.node.Child.{Child}

-- this many records, by their entries and by their values, which stand after `from` bytes of values
abbrev pub records_with : ℕ → ℕ → List ℕ → List ℕ → List Record
records_with zero from entries values = []
records_with (suc n) from entries values =
    ((bound_of entries).key, take ((bound_of entries).end - from) values)
    ∷ records_with n (bound_of entries).end (drop 12 entries) (drop ((bound_of entries).end - from) values)

-- this many records in the bytes of a leaf, whatever the bytes are
unfoldable pub records_of : ℕ → List ℕ → List Record
records_of len bytes = records_with len 0 (drop 16 bytes) (drop (16 + 12 * len) bytes)

-- this many of them, from the one at i on
abbrev pub records_from : ℕ → List ℕ → ℕ → ℕ → List Record
records_from len bytes i n = take n (drop i (records_of len bytes))

-- `count` is no more than the number of records of a leaf, and if it is not 0, the bytes are that leaf
abbrev pub IsLeafTo : ℕ → List ℕ → ℕ → Type 0
IsLeafTo len bytes count = (count ≤ len) × (0 < count → IsLeafSize bytes len)

-- two leaves have the same record at these indices
abbrev pub IsSameRecord : List ℕ → ℕ → List ℕ → ℕ → Type 0
IsSameRecord one i other j =
    (rs qs : List Record) (d : Record) → HasRecords one rs → HasRecords other qs → i < length rs → j < length qs → slice_index_or rs i d ≡ slice_index_or qs j d

-- they have this many same records, from these indices on
abbrev pub AreSameRecords : List ℕ → ℕ → List ℕ → ℕ → ℕ → Type 0
AreSameRecords one i other j n = (k : ℕ) → k < n → IsSameRecord one (i + k) other (j + k)

-- what stands in this many rows, from row i on
abbrev pub rows_from : {X : Type 0} → (ℕ → X) → ℕ → ℕ → List X
rows_from row i zero = []
rows_from row i (suc n) = row i ∷ rows_from row (suc i) n

-- the children in this many rows of an inner block, from row i on
unfoldable pub children_from : List ℕ → ℕ → ℕ → List Child
children_from bytes i n = rows_from (λ k. child_of (node_row bytes k)) i n

-- this many rows from these on are equal
abbrev pub AreSameRows : (ℕ → List ℕ) → ℕ → (ℕ → List ℕ) → ℕ → ℕ → Type 0
AreSameRows row at other other_at n = (k : ℕ) → k < n → row (at + k) ≡ other (other_at + k)
