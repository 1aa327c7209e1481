-- Lists whose values lie in one run of bytes.
use Rattle.std.specs.Prelude.{◌≡◌, ℕ, List, [], ◌∷◌, map, Option, None, Some, option_copied, slice_index_or, unwrap_or}
use Rattle.std.specs.List.{AllByRecursion}
use Rattle.std.specs.Borrow.{Bor}
use Rattle.vm_types.specs.declared.change.Change.{Change}
use Rattle.vm_types.specs.declared.change.Conflict.{Conflict}
use Rattle.vm_types.specs.declared.key.Key.{Key}
use Rattle.vm_types.specs.declared.values.Piece.{Piece}
use Rattle.vm_types.specs.Pieces.{AllLieIn, values_in}

-- the value at this place, if there is one
abbrev pub value_at : ℕ → List (Option (List ℕ)) → Option (List ℕ)
value_at i values = slice_index_or values i None

-- the record of a key and its value
abbrev pub record_of : Key → List (Option (List ℕ)) → Key × List ℕ
record_of key values = (key, unwrap_or (value_at 0 values) [])

-- the change of a key and its values before and after
abbrev pub change_of : Key → List (Option (List ℕ)) → Change
change_of key values = record { key = key; before = value_at 0 values; after = value_at 1 values }

-- the conflict of a key and its values in the base, in the parent and in the alternative
abbrev pub conflict_of : Key → List (Option (List ℕ)) → Conflict
conflict_of key values = record { key = key; base = value_at 0 values; parent = value_at 1 values; mine = value_at 2 values }

-- the record, the change or the conflict that is lent in these parts
abbrev pub lent_record : Key × Bor (List ℕ) → Key × List ℕ
lent_record parts = (parts.0, parts.1.now)

abbrev pub lent_change : Key × Option (Bor (List ℕ)) × Option (Bor (List ℕ)) → Change
lent_change parts = record { key = parts.0; before = option_copied parts.1; after = option_copied parts.2 }

abbrev pub lent_conflict : Key × Option (Bor (List ℕ)) × Option (Bor (List ℕ)) × Option (Bor (List ℕ)) → Conflict
lent_conflict parts = record { key = parts.0; base = option_copied parts.1; parent = option_copied parts.2; mine = option_copied parts.3 }

module _ {Item : Type 0} (item : Key → List (Option (List ℕ)) → Item) where
  -- the items of these rows, each a key and the pieces of its values
  abbrev pub items_in : List ℕ → List (Key × List Piece) → List Item
  items_in bytes rows = map (λ row. item row.0 (values_in bytes row.1)) rows

  -- the item of a row that is lent: its key, the pieces of its values, and the bytes in which they lie
  abbrev pub item_lent : Key × Bor (List Piece) × Bor (List ℕ) → Item
  item_lent row = item row.0 (values_in row.2.now row.1.now)

-- the pieces of each row lie in this many bytes
abbrev pub RowsLieIn : ℕ → List (Key × List Piece) → Type 0
RowsLieIn count rows = AllByRecursion (λ row. AllLieIn count row.1) rows

-- the first of the items that were left is given in its parts, or none was left
abbrev pub Takes : {Parts Item : Type 0} → (Parts → Item) → List Item → Option Parts → List Item → Type 0
Takes whole old None new = (old ≡ []) × (new ≡ [])
Takes whole old (Some parts) new = old ≡ whole parts ∷ new
