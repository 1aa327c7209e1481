-- Packed lists, when a row is added, and when they are taken one item after another.
use Rattle.std.proofs.Common.{◌≡◌, ℕ, ◌+◌, ◌<◌, ◌≤◌, List, [], ◌∷◌, ◌++◌, length, take, drop, map, get_or, set, Option, slice_get, Some, None, if◌then◌else◌, inl, inr, refl, ap, ap₂, sym, ◌∙◌, add-one, arith, length-drop, length-append, append_assoc, append-nil, drop-cons, subst, Result, Ok, Err, OnErr}
use Rattle.std.proofs.lemmas.List.{drop-append-le, get_or-map, length-map, map-append, map_more, take-append-le, take_more_set}
use Rattle.std.proofs.lemmas.Option.{get_or_from_slice_get, slice_get_cases, slice_get_within}
use Rattle.std.proofs.Math.Seq.{take-suc}
use Rattle.std.specs.List.{AllByRecursion}
use Rattle.vm_types.specs.declared.key.Key.{Key}
use Rattle.vm_types.specs.declared.values.Piece.{Piece}
use Rattle.vm_types.specs.Packed.{RowsLieIn, items_in}
use Rattle.vm_types.specs.Pieces.{AllLieIn, ArePieces, Extends, IsPiece, LiesIn, value_in, values_in}

-- ---- pieces, where more bytes follow

-- nothing follows, or something does twice
pub extends_none : (bytes : List ℕ) → Extends bytes bytes
extends_none bytes = record { more = []; is = sym (append-nil bytes) }

pub extends_twice : (one two three : List ℕ) → Extends one two → Extends two three → Extends one three
extends_twice one two three first second = record {
  more = first.more ++ second.more;
  is = second.is ∙ ap (λ bytes. bytes ++ second.more) first.is ∙ append_assoc one first.more second.more;
}

-- a piece lies in more bytes, too, and is the same value there
piece_stays : (bytes more : List ℕ) (piece : Piece) → LiesIn (length bytes) piece → IsPiece (bytes ++ more) (value_in bytes piece) piece
piece_stays bytes more piece lies =
    let here : take piece.len (drop piece.start (bytes ++ more)) ≡ take piece.len (drop piece.start bytes) =
    ap (take piece.len) (drop-append-le piece.start bytes more (omega (arith, lies.within)))
    ∙ take-append-le piece.len (drop piece.start bytes) more (omega (arith, length-drop piece.start bytes, lies.within)) in
    record {
      lies = record { within = omega (arith, lies.within, length-append bytes more); short = lies.short };
      is = ap (λ bs. if piece.there then Some bs else None) here;
    }

pieces_stay : (bytes more : List ℕ) (pieces : List Piece) → AllLieIn (length bytes) pieces → ArePieces (bytes ++ more) (values_in bytes pieces) pieces
pieces_stay bytes more [] lie = record { lie = tt; are = refl }
pieces_stay bytes more (piece ∷ pieces) lie =
    let first = piece_stays bytes more piece lie.0 in
    let rest = pieces_stay bytes more pieces lie.1 in
    record { lie = (first.lies, rest.lie); are = ap₂ (λ x xs. x ∷ xs) first.is rest.are }

all_with : {X : Type 0} (P : X → Type 0) (xs : List X) (x : X) → AllByRecursion P xs → P x → AllByRecursion P (xs ++ x ∷ [])
all_with P [] x all here = (here, tt)
all_with P (y ∷ xs) x all here = (all.0, all_with P xs x all.1 here)

piece_added : (bytes new : List ℕ) (values : List (Option (List ℕ))) (pieces : List Piece) (value : Option (List ℕ)) (piece : Piece)
    → Extends bytes new → ArePieces bytes values pieces → IsPiece new value piece → ArePieces new (values ++ value ∷ []) (pieces ++ piece ∷ [])
piece_added bytes new values pieces value piece extends are last =
    let stay = subst (λ bs. ArePieces bs (values_in bytes pieces) pieces) (sym extends.is) (pieces_stay bytes extends.more pieces are.lie) in
    record {
      lie = all_with (LiesIn (length new)) pieces piece stay.lie last.lies;
      are = map-append (value_in new) pieces (piece ∷ []) ∙ ap₂ (λ vs v. vs ++ v ∷ []) (stay.are ∙ are.are) last.is;
    }

-- the value at i is put after the first i
pub next_added : {X : Type 0} (value : X → Option (List ℕ)) (bytes new : List ℕ) (xs : List X) (pieces : List Piece) (i : ℕ) (x : X) (piece : Piece) → i < length xs → i < length pieces
    → Extends bytes new → ArePieces bytes (map value (take i xs)) (take i pieces) → IsPiece new (value (get_or xs i x)) piece
    → ArePieces new (map value (take (i + 1) xs)) (take (i + 1) (set pieces i piece))
next_added value bytes new xs pieces i x piece inside there extends are last =
    rw (map_more value xs i x inside, take_more_set pieces i piece there)
    (piece_added bytes new (map value (take i xs)) (take i pieces) (value (get_or xs i x)) piece extends are last)

-- ---- rows

module _ {Item : Type 0} (item : Key → List (Option (List ℕ)) → Item) where
  -- these are the items of the rows, in these bytes
  pub record Tells (bytes : List ℕ) (rows : List (Key × List Piece)) (items : List Item) : Type 0 where
    pub lie : RowsLieIn (length bytes) rows
    pub are : items_in item bytes rows ≡ items

  rows_stay : (bytes more : List ℕ) (rows : List (Key × List Piece)) → RowsLieIn (length bytes) rows → Tells (bytes ++ more) rows (items_in item bytes rows)
  rows_stay bytes more [] lie = record { lie = tt; are = refl }
  rows_stay bytes more (row ∷ rows) lie =
      let first = pieces_stay bytes more row.1 lie.0 in
      let rest = rows_stay bytes more rows lie.1 in
      record { lie = (first.lie, rest.lie); are = ap₂ (λ x xs. x ∷ xs) (ap (item row.0) first.are) rest.are }

  -- where more bytes follow, the items stay
  pub tells_more : (bytes new : List ℕ) (rows : List (Key × List Piece)) (items : List Item) → Extends bytes new → Tells bytes rows items → Tells new rows items
  tells_more bytes new rows items extends tells =
      let stay = rows_stay bytes extends.more rows tells.lie in
      subst (λ bs. Tells bs rows items) (sym extends.is) record { lie = stay.lie; are = stay.are ∙ tells.are }

  -- a row whose values were put after the bytes has its item after the others
  pub tells_pushed : (bytes new : List ℕ) (rows pushed : List (Key × List Piece)) (items : List Item) (key : Key) (values : List (Option (List ℕ))) (pieces : List Piece)
      → Tells bytes rows items → Extends bytes new → ArePieces new values pieces → pushed ≡ rows ++ (key, pieces) ∷ [] → Tells new pushed (items ++ item key values ∷ [])
  tells_pushed bytes new rows pushed items key values pieces tells extends are is =
      let stay = tells_more bytes new rows items extends tells in
      subst (λ rs. Tells new rs (items ++ item key values ∷ [])) (sym is)
      record {
        lie = all_with (λ row. AllLieIn (length new) row.1) rows (key, pieces) stay.lie are.lie;
        are = map-append (λ row. item row.0 (values_in new row.1)) rows ((key, pieces) ∷ [])
            ∙ ap₂ (λ front last. front ++ last ∷ []) stay.are (ap (item key) are.are);
      }

-- what holds where a call fails
pub on_err : {T E : Type 0} (P : Type 0) (r : Result T E) → P → OnErr r P
on_err P (Ok x) p = tt
on_err P (Err e) p = p

-- ---- one item after another

-- the item of the row at i comes after the first i
pub next_left : {Row Item : Type 0} (f : Row → Item) (rows : List Row) (items : List Item) (i : ℕ) (row : Row) (x : Item) → map f rows ≡ items → i < length items → row ≡ get_or rows i row → x ≡ f row
    → drop i items ≡ x ∷ drop (i + 1) items
next_left f rows items i row x are inside is gives =
    let within : i < length rows = omega (arith, inside, sym (ap length are) ∙ length-map rows f) in
    let here : get_or items i x ≡ x = ap (λ xs. get_or xs i x) (sym are) ∙ get_or-map f rows i row x within ∙ ap f (sym is) ∙ sym gives in
    drop-cons items i x inside ∙ ap₂ (λ first (k : ℕ). first ∷ drop k items) here (sym (add-one i))

-- the element at i comes after the first i
pub next_taken : {X : Type 0} (xs : List X) (i : ℕ) (x : X) → slice_get xs i ≡ Some x → take i xs ++ x ∷ [] ≡ take (i + 1) xs
next_taken xs i x is =
    ap (λ y. take i xs ++ y ∷ []) (sym (get_or_from_slice_get xs i x x is))
    ∙ sym (take-suc xs i x (slice_get_within xs i x is))
    ∙ ap (λ k. take k xs) (sym (add-one i))

-- where there is none at i, the list has no more
pub ended : {X : Type 0} (xs : List X) (i : ℕ) → slice_get xs i ≡ None → length xs ≤ i
ended xs i none = elim (slice_get_cases xs i).1 as (λ _. length xs ≤ i) [ inl there ↦ absurd (let e = sym there.2 ∙ none in cc) | inr past ↦ past.0 ]
