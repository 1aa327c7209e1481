-- Values that lie one after another in one run of bytes.
use Rattle.std.specs.Prelude.{◌≡◌, ℕ, ◌+◌, ◌≤◌, List, ◌++◌, length, map, take, drop, Option, None, Some, if◌then◌else◌}
use Rattle.std.specs.List.{AllByRecursion}
use Rattle.vm_types.specs.Bytes.{longest}
use Rattle.vm_types.specs.declared.values.Piece.{Piece}

-- the value that a piece of the bytes is, if it is one
abbrev pub value_in : List ℕ → Piece → Option (List ℕ)
value_in bytes piece = if piece.there then Some (take piece.len (drop piece.start bytes)) else None

-- the values of these pieces
abbrev pub values_in : List ℕ → List Piece → List (Option (List ℕ))
values_in bytes pieces = map (value_in bytes) pieces

-- the piece lies within this many bytes, and is no longer than a value may be
pub record LiesIn (count : ℕ) (piece : Piece) : Type 0 where
  pub within : piece.start + piece.len ≤ count
  pub short : piece.len ≤ longest

-- each piece does
abbrev pub AllLieIn : ℕ → List Piece → Type 0
AllLieIn count pieces = AllByRecursion (LiesIn count) pieces

-- the bytes are the old ones, and perhaps more after them
pub record Extends (old new : List ℕ) : Type 0 where
  pub more : List ℕ
  pub is : new ≡ old ++ more

-- the value, which may be absent, is this piece of the bytes
pub record IsPiece (bytes : List ℕ) (value : Option (List ℕ)) (piece : Piece) : Type 0 where
  pub lies : LiesIn (length bytes) piece
  pub is : value_in bytes piece ≡ value

-- the values are these pieces
pub record ArePieces (bytes : List ℕ) (values : List (Option (List ℕ))) (pieces : List Piece) : Type 0 where
  pub lie : AllLieIn (length bytes) pieces
  pub are : values_in bytes pieces ≡ values
