-- What is found in a leaf by a key.
use Rattle.std.specs.Prelude.{◌≡◌, ℕ, ◌+◌, ◌*◌, ◌<◌, ◌≤◌, List, ◌∷◌, ◌++◌, length, take, drop, None, Some, slice_index, slice_index_or}
use Rattle.vm_types.specs.Places.{place, places, value_at, with_record}
use Rattle.vm_block.specs.declared.sizes.TheConstants.{MAX_RECORDS}
use Rattle.vm_block.specs.declared.look.Look.{Look}
use Rattle.vm_block.specs.declared.look.Look.TheVariants.{Found, Missing}
use Rattle.vm_block.specs.Changed.{without_place}
use Rattle.vm_block.specs.Leaf.{Record}
use Rattle.vm_block.specs.Leaf.{HasRecords, values_of}

-- P holds of the records, if the bytes are a leaf
abbrev pub IfRecords : List ℕ → (List Record → Type 0) → Type 0
IfRecords bytes P = (rs : List Record) → HasRecords bytes rs → P rs

-- the record at i has the key of place p
pub record FoundAt (p i : ℕ) (rs : List Record) : Type 0 where
  pub within : i < length rs
  pub here : slice_index (places rs) i ≡ p
  pub value : (d : Record) → value_at p rs ≡ Some (slice_index_or rs i d).1
  pub replaced : (r : Record) → place r.0 ≡ p → with_record r rs ≡ take i rs ++ r ∷ drop (i + 1) rs
  pub removed : without_place p rs ≡ take i rs ++ drop (i + 1) rs

-- no record has it, and one that had would stand before the one at i
pub record MissingAt (p i : ℕ) (rs : List Record) : Type 0 where
  pub within : i ≤ length rs
  pub below : (k : ℕ) → k < i → slice_index (places rs) k < p
  pub above : i < length rs → p < slice_index (places rs) i
  pub value : value_at p rs ≡ None
  pub inserted : (r : Record) → place r.0 ≡ p → with_record r rs ≡ take i rs ++ r ∷ drop i rs

-- this was found
abbrev pub IsLook : ℕ → Look → List Record → Type 0
IsLook p (Found i) rs = FoundAt p i rs
IsLook p (Missing i) rs = MissingAt p i rs

-- an index that a leaf may have
abbrev pub IsWithin : Look → Type 0
IsWithin (Found i) = i < MAX_RECORDS
IsWithin (Missing i) = i ≤ MAX_RECORDS

-- where the values of the records up to i end in the block
abbrev pub end_in : List Record → ℕ → ℕ
end_in rs i = 16 + 12 * length rs + length (values_of (take i rs))
