-- The records of a leaf with one more, in two leaves or in three.
use Rattle.std.specs.Prelude.{◌≡◌, ℕ, ◌+◌, ◌-◌, ◌<◌, ◌≤◌, max, Bool, true, false, List, [], ◌∷◌, ◌++◌, length, take, drop, slice_index}
use Rattle.vm_types.specs.Bytes.{longest}
use Rattle.vm_types.specs.Places.{place, places}
use Rattle.vm_block.specs.declared.sizes.TheConstants.{LEAF_ROOM, MAX_RECORDS}
use Rattle.vm_block.specs.declared.parts.Part.{Part}
use Rattle.vm_block.specs.declared.split.Coming.{Coming}
use Rattle.vm_block.specs.declared.split.Split.{Split}
use Rattle.vm_block.specs.declared.split.Split.TheVariants.{Two, Three}
use Rattle.vm_block.specs.Leaf.{Record}
use Rattle.vm_block.specs.Leaf.{HasRecords, leaf_bytes, size_of}
use Rattle.vm_block.specs.Parts.{IsPart, IsWritten}

-- a record about to enter a leaf, in place of one or before one
abbrev pub IsComing : Coming → Type 0
IsComing c = (c.index ≤ c.next) × (c.next ≤ c.index + 1) × (c.next ≤ c.count) × (c.count ≤ MAX_RECORDS) × (c.len ≤ longest)

-- how many records there are then
abbrev pub coming_count : Coming → ℕ
coming_count c = c.index + 1 + (c.count - c.next)

-- the records then
abbrev pub with_coming : Coming → Record → List Record → List Record
with_coming c r rs = take c.index rs ++ (r ∷ [] ++ drop c.next rs)

-- P holds of the records then, if the bytes are a leaf of as many records, and the one that comes is as long as it says
abbrev pub IfComing : List ℕ → Coming → (List Record → Type 0) → Type 0
IfComing bytes c P = (rs : List Record) (r : Record) → HasRecords bytes rs → c.count ≡ length rs → length r.1 ≡ c.len → P (with_coming c r rs)

-- how many bytes the larger of two leaves takes, of which the first has this many of the records
abbrev pub larger : ℕ → List Record → ℕ
larger h all = max (size_of (take h all)) (size_of (drop h all))

-- no other cut makes two leaves that are more even
abbrev pub IsBestCut : ℕ → List Record → Type 0
IsBestCut cut all = (h : ℕ) → 0 < h → h < length all → larger cut all ≤ larger h all

-- the records on both sides of a cut are written, or do not fit
abbrev pub IsCutInto : Bool → ℕ → List Record → List ℕ → List ℕ → Type 0
IsCutInto true cut all left right = IsWritten true (take cut all) left × IsWritten true (drop cut all) right
IsCutInto false cut all left right = LEAF_ROOM < larger cut all

abbrev pub WritesCut : Bool → List ℕ → Coming → Part → ℕ → List ℕ → List ℕ → Type 0
WritesCut result bytes c part cut left right =
    (rs : List Record) (r : Record) → HasRecords bytes rs → c.count ≡ length rs → IsPart part (r ∷ []) → IsCutInto result cut (with_coming c r rs) left right

-- the records before the one that comes, that one, and those after it are written
abbrev pub WritesThree : List ℕ → Coming → Part → List ℕ → List ℕ → List ℕ → Type 0
WritesThree bytes c part left middle right =
    (rs : List Record) (r : Record) → HasRecords bytes rs → c.count ≡ length rs → IsPart part (r ∷ []) → length r.1 ≤ longest
    → (left ≡ leaf_bytes (take c.index rs)) × (middle ≡ leaf_bytes (r ∷ [])) × (right ≡ leaf_bytes (drop c.next rs))

-- the records are in two leaves: those before a cut and those after it. If the one that came is after all others, it is alone
-- in the right leaf; else no cut is more even
pub record InTwo (r : Record) (rs all : List Record) (left right : List ℕ) : Type 0 where
  pub cut : ℕ
  pub before : HasRecords left (take cut all)
  pub behind : HasRecords right (drop cut all)
  pub alone : ((k : ℕ) → k < length rs → slice_index (places rs) k < place r.0) → cut ≡ length rs
  pub even : (k : ℕ) → k < length rs → place r.0 ≤ slice_index (places rs) k → IsBestCut cut all

-- the records are in three leaves, the one that came in the middle one: no cut makes two
pub record InThree (r : Record) (all : List Record) (left middle right : List ℕ) : Type 0 where
  pub lower : List Record
  pub higher : List Record
  pub is : all ≡ lower ++ (r ∷ [] ++ higher)
  pub before : HasRecords left lower
  pub one : HasRecords middle (r ∷ [])
  pub behind : HasRecords right higher
  pub needed : (h : ℕ) → 0 < h → h < length all → LEAF_ROOM < larger h all

abbrev pub IsSplit : Split → Record → List Record → List Record → List ℕ → List ℕ → List ℕ → Type 0
IsSplit Two r rs all left middle right = InTwo r rs all left right
IsSplit Three r rs all left middle right = InThree r all left middle right
