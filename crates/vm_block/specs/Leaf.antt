-- A leaf: the block of a tree that holds records. It has an entry of one size for each record, and after the entries the values, one after another.
use Rattle.std.specs.Prelude.{◌≡◌, ℕ, ◌+◌, ◌*◌, ◌<◌, ◌≤◌, List, [], ◌∷◌, ◌++◌, length, take, codes}
use Rattle.std.specs.List.{AllByRecursion, flat_map}
use Rattle.byteorder.specs.Endian.{little_bytes}
use Rattle.vm_types.specs.Bytes.{longest}
use Rattle.vm_types.specs.Places.{KeyFits, RisesFrom, places}
use Rattle.vm_types.specs.declared.sizes.TheConstants.{BLOCK_SIZE}
use Rattle.vm_block.specs.declared.sizes.TheConstants.{LEAF_ROOM, MAX_RECORDS}
use Rattle.vm_block.specs.declared.bounds.Bound.{Bound}
use Rattle.vm_block.specs.Padding.{padded}
use Rattle.vm_types.specs.declared.key.Key.{Key}

-- a record: a key and the bytes of its value
abbrev pub Record : Type 0
Record = Key × List ℕ

-- the records begin with this key
abbrev pub BeginsWith : Key → List Record → Type 0
BeginsWith low [] = ⊥
BeginsWith low (r ∷ rs) = r.0 ≡ low

-- a key in its 10 bytes
abbrev pub key_bytes : Key → List ℕ
key_bytes key = little_bytes 2 key.table ++ little_bytes 8 key.number

-- an entry in its 12 bytes: a key, and where the value ends among the values
unfoldable pub bound_bytes : Bound → List ℕ
bound_bytes b = key_bytes b.key ++ little_bytes 2 b.end

-- the entries of records whose values stand after this many bytes of values
abbrev pub bounds_from : ℕ → List Record → List Bound
bounds_from from [] = []
bounds_from from (r ∷ rs) = record { key = r.0; end = from + length r.1 } ∷ bounds_from (from + length r.1) rs

-- the values, one after the other
abbrev pub values_of : List Record → List ℕ
values_of rs = flat_map (λ r. r.1) rs

-- the letters LEF3, zero, how many records, and zero
unfoldable pub leaf_head : ℕ → List ℕ
leaf_head count = codes "LEF3" ++ (little_bytes 4 0 ++ (little_bytes 4 count ++ little_bytes 4 0))

-- the leaf of these records, as it is written
unfoldable pub leaf_bytes : List Record → List ℕ
leaf_bytes rs = padded BLOCK_SIZE (leaf_head (length rs) ++ (flat_map bound_bytes (bounds_from 0 rs) ++ values_of rs))

-- how many bytes of a leaf records take
abbrev pub size_of : List Record → ℕ
size_of rs = 12 * length rs + length (values_of rs)

-- a record within the limits of keys and values
abbrev pub RecordFits : Record → Type 0
RecordFits r = KeyFits r.0 × (length r.1 ≤ longest)

-- these bytes are the leaf of these records
pub record HasRecords (bytes : List ℕ) (rs : List Record) : Type 0 where
  pub spelled : bytes ≡ leaf_bytes rs
  pub some : 0 < length rs
  pub room : size_of rs ≤ LEAF_ROOM
  pub fit : AllByRecursion RecordFits rs
  pub rising : RisesFrom 0 (places rs)

-- the bytes begin with the head of a leaf of this many records, from one to 340
pub record IsLeafHead (bytes : List ℕ) (n : ℕ) : Type 0 where
  pub begins : take 16 bytes ≡ leaf_head n
  pub some : 0 < n
  pub few : n ≤ MAX_RECORDS
