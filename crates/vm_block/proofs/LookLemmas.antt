-- Records found in a leaf, and their values.
use Rattle.std.proofs.Common.{◌≡◌, ℕ, zero, suc, ◌+◌, ◌-◌, ◌*◌, ◌<◌, ◌≤◌, List, [], ◌∷◌, ◌++◌, length, take, drop, get_or, refl, sym, ap, ◌∙◌, subst, arith, ⊎_elim, length-append, length-drop, append_assoc, take-append-drop}
use Rattle.std.specs.Prelude.{slice_index}
use Rattle.std.proofs.lemmas.List.{take_at, drop_at, drop-drop, take_all, append-nil, length-map, get_or-map, take-take}
use Rattle.std.proofs.lemmas.Bool.{cases_order}
use Rattle.std.proofs.Math.Seq.{take-add}
use Rattle.byteorder.specs.Endian.{little_number}
use Rattle.vm_types.specs.declared.key.Key.{Key}
use Rattle.vm_types.specs.Places.{KeyFits, RisesFrom, place, places}
use Rattle.vm_block.specs.Bounds.{bound_of}
use Rattle.vm_block.specs.Leaf.{BeginsWith, HasRecords, Record, bounds_from, key_bytes, size_of, values_of}
use Rattle.vm_block.specs.Look.{FoundAt, MissingAt, end_in}
use Rattle.vm_block.specs.Padding.{zeros}
use Rattle.vm_block.specs.Way.{ChoosesAmong, IsChosen, KeysStand}
use Rattle.vm_block.specs.declared.bounds.Bound.{Bound}
use Rattle.vm_block.proofs.BoundLemmas.{get_or-bounds_of, values_join}
use Rattle.vm_block.proofs.LeafLemmas.{leaf_bounds, values_there}
use Rattle.vm_block.proofs.RowLemmas.{row_key}
use Rattle.vm_block.proofs.WayLemmas.{chosen_before, chosen_behind, chosen_none, chosen_value, chosen_with, chosen_without, rises_order}

-- # The entry of the record at i

pub get_or-bounds_from : (from i : ℕ) (rs : List Record) (d : Bound) (e : Record) → i < length rs → get_or (bounds_from from rs) i d ≡ record { key = (get_or rs i e).0; end = from + length (values_of (take (suc i) rs)) }
get_or-bounds_from from i [] d e lt = absurd (omega arith)
get_or-bounds_from from zero (r ∷ rs) d e lt = ap (λ n. record { key = r.0; end = from + length n }) (sym (append-nil r.1))
get_or-bounds_from from (suc i) (r ∷ rs) d e lt =
    let far : from + length r.1 + length (values_of (take (suc i) rs)) ≡ from + length (r.1 ++ values_of (take (suc i) rs)) = omega (arith, length-append r.1 (values_of (take (suc i) rs))) in
    get_or-bounds_from (from + length r.1) i rs d e (omega arith) ∙ ap (λ n. record { key = (get_or rs i e).0; end = n }) far

pub bound_at : (bytes : List ℕ) (rs : List Record) (i : ℕ) (e : Record) → HasRecords bytes rs → i < length rs → bound_of (drop (16 + 12 * i) bytes) ≡ record { key = (get_or rs i e).0; end = 0 + length (values_of (take (suc i) rs)) }
bound_at bytes rs i e leaf lt =
    let d : Bound = record { key = record { table = 0; number = 0 }; end = 0 } in
    let far : 12 * i + 16 ≡ 16 + 12 * i = omega arith in
    ap bound_of (sym (drop-drop (12 * i) 16 bytes))
    ∙ sym (get_or-bounds_of (length rs) i (drop 16 bytes) d lt)
    ∙ ap (λ bs. get_or bs i d) (leaf_bounds bytes rs leaf)
    ∙ get_or-bounds_from 0 i rs d e lt

-- a key that was read where that of the record at i stands is that one
pub key_at : (bytes : List ℕ) (rs : List Record) (i : ℕ) (e : Record) (key : Key) → HasRecords bytes rs → i < length rs → KeyFits key → take 10 (drop (16 + 12 * i) bytes) ≡ key_bytes key → (get_or rs i e).0 ≡ key
key_at bytes rs i e key leaf lt fits is =
    sym (ap (λ (b : Bound). b.key) (bound_at bytes rs i e leaf lt)) ∙ row_key (drop (16 + 12 * i) bytes) key fits is

-- and the key behind the head is that of the first
pub begin_read : (bytes : List ℕ) (rs : List Record) (key : Key) (k : ℕ) → HasRecords bytes rs → KeyFits key → 10 ≤ k → take 10 (take k (drop 16 bytes)) ≡ key_bytes key → BeginsWith key rs
begin_read bytes [] key k leaf fits enough is = absurd (omega (arith, leaf.some))
begin_read bytes (r ∷ rs) key k leaf fits enough is =
    key_at bytes (r ∷ rs) 0 r key leaf leaf.some fits (sym (take-take 10 k (drop 16 bytes) enough) ∙ is)

pub leaf_keys : (bytes : List ℕ) (rs : List Record) → HasRecords bytes rs → KeysStand bytes 12 (places rs)
leaf_keys bytes rs leaf i key lt fits is =
    let e : Record = (key, []) in
    let within : i < length rs = omega (arith, lt, length-map rs (λ (r : Record). place r.0)) in
    let same : key ≡ (get_or rs i e).0 = sym (key_at bytes rs i e key leaf within fits is) in
    get_or-map (λ (r : Record). place r.0) rs i e 0 within ∙ ap place (sym same)

-- # What is found

-- records that rise, and the one that a descent takes
pub record HasChoice (rs : List Record) (p i : ℕ) : Type 0 where
  pub rises : RisesFrom 0 (places rs)
  pub chosen : IsChosen (places rs) p i

pub found_at : (rs : List Record) (p i : ℕ) → HasChoice rs p i → slice_index (places rs) i ≡ p → FoundAt p i rs
found_at rs p i choice e = record {
  within = omega (arith, choice.chosen.within, length-map rs (λ (r : Record). place r.0));
  here = e;
  value = λ d. chosen_value rs p i choice.rises choice.chosen d e;
  replaced = λ r is. chosen_with rs r i choice.rises (subst (λ q. IsChosen (places rs) q i) (sym is) choice.chosen) (e ∙ sym is);
  removed = chosen_without rs p i choice.rises choice.chosen e;
}

pub missing_behind : (rs : List Record) (p i : ℕ) → HasChoice rs p i → slice_index (places rs) i < p → MissingAt p (i + 1) rs
missing_behind rs p i choice low = record {
  within = omega (arith, choice.chosen.within, length-map rs (λ (r : Record). place r.0));
  below = λ k lt.
      ⊎_elim
      (λ (same : k ≡ i). omega (arith, low, ap (slice_index (places rs)) same))
      (⊎_elim
      (λ (before : k < i). omega (arith, low, rises_order 0 (places rs) k i before choice.chosen.within choice.rises))
      (λ (behind : i < k). absurd (omega arith)))
      (cases_order k i);
  above = λ lt. choice.chosen.last (omega (arith, lt, length-map rs (λ (r : Record). place r.0)));
  value = chosen_none rs p i choice.rises choice.chosen (λ e. omega (arith, low, e));
  inserted = λ r is. chosen_behind rs r i choice.rises (subst (λ q. IsChosen (places rs) q i) (sym is) choice.chosen) (omega (arith, low, is));
}

pub missing_before : (rs : List Record) (p i : ℕ) → HasChoice rs p i → p < slice_index (places rs) i → MissingAt p i rs
missing_before rs p i choice high = record {
  within = omega (arith, choice.chosen.within, length-map rs (λ (r : Record). place r.0));
  below = λ k lt. absurd (omega (arith, high, choice.chosen.reached (omega arith)));
  above = λ lt. high;
  value = chosen_none rs p i choice.rises choice.chosen (λ e. omega (arith, high, e));
  inserted = λ r is. chosen_before rs r i choice.rises (subst (λ q. IsChosen (places rs) q i) (sym is) choice.chosen) (omega (arith, high, is));
}

-- # Values

-- the records from one index to another, between the others
pub record Cut (rs : List Record) (a b : ℕ) : Type 0 where
  pub is : rs ≡ take a rs ++ (take (b - a) (drop a rs) ++ drop b rs)
  pub front : take b rs ≡ take a rs ++ take (b - a) (drop a rs)

pub cut : (rs : List Record) (a b : ℕ) → a ≤ b → Cut rs a b
cut rs a b le =
    let middle = take (b - a) (drop a rs) in
    let turn : a + (b - a) ≡ b = omega arith in
    let back : drop (b - a) (drop a rs) ≡ drop b rs = drop-drop (b - a) a rs ∙ ap (λ n. drop n rs) turn in
    record {
      is = sym (take-append-drop a rs) ∙ ap (λ z. take a rs ++ z) (sym (take-append-drop (b - a) (drop a rs)) ∙ ap (λ z. middle ++ z) back);
      front = ap (λ n. take n rs) (sym turn) ∙ take-add a (b - a) rs;
    }

pub length-values_cut : (rs : List Record) (a b : ℕ) → a ≤ b → length (values_of (take b rs)) ≡ length (values_of (take a rs)) + length (values_of (take (b - a) (drop a rs)))
length-values_cut rs a b le =
    let middle = take (b - a) (drop a rs) in
    ap (λ z. length (values_of z)) (cut rs a b le).front ∙ ap length (values_join (take a rs) middle) ∙ length-append (values_of (take a rs)) (values_of middle)

-- the values from one index to another stand in the block
pub values_part : (bytes : List ℕ) (rs : List Record) (a b n : ℕ) → HasRecords bytes rs → a ≤ b → n ≡ end_in rs b - end_in rs a → take n (drop (end_in rs a) bytes) ≡ values_of (take (b - a) (drop a rs))
values_part bytes rs a b n leaf le many =
    let front = values_of (take a rs) in
    let middle = values_of (take (b - a) (drop a rs)) in
    let back = values_of (drop b rs) in
    let rest = zeros (4080 - size_of rs) in
    let all : values_of rs ≡ front ++ (middle ++ back) = ap values_of (cut rs a b le).is ∙ values_join (take a rs) (take (b - a) (drop a rs) ++ drop b rs) ∙ ap (λ z. front ++ z) (values_join (take (b - a) (drop a rs)) (drop b rs)) in
    let there : drop (end_in rs a) bytes ≡ (middle ++ back) ++ rest =
    ap (λ m. drop m bytes) (omega arith) ∙ sym (drop-drop (length front) (16 + 12 * length rs) bytes) ∙ ap (drop (length front)) (values_there bytes rs leaf ∙ ap (λ z. z ++ rest) all ∙ append_assoc front (middle ++ back) rest) ∙ drop_at front ((middle ++ back) ++ rest) (length front) refl in
    ap (take n) (there ∙ append_assoc middle back rest) ∙ take_at middle (back ++ rest) n (omega (arith, many, length-values_cut rs a b le))

-- one record between the others
pub one_there : (rs : List Record) (i : ℕ) (d : Record) → i < length rs → take (i + 1 - i) (drop i rs) ≡ get_or rs i d ∷ []
one_there [] i d lt = absurd (omega arith)
one_there (r ∷ rs) zero d lt = refl
one_there (r ∷ rs) (suc i) d lt =
    let one : suc i + 1 - suc i ≡ i + 1 - i = omega arith in
    ap (λ n. take n (drop i rs)) one ∙ one_there rs i d (omega arith)

-- and its value
pub one_value : (rs : List Record) (i : ℕ) (d : Record) → i < length rs → values_of (take (i + 1 - i) (drop i rs)) ≡ (get_or rs i d).1
one_value rs i d lt = ap values_of (one_there rs i d lt) ∙ append-nil (get_or rs i d).1

-- where the value before the record at i ends, as its entry says
pub end_read : (bytes : List ℕ) (rs : List Record) (i k n : ℕ) → HasRecords bytes rs → 0 < i → i ≤ length rs → length bytes ≤ k + (14 + 12 * i) → n ≡ little_number 2 (take k (drop (14 + 12 * i) bytes)) → n ≡ length (values_of (take i rs))
end_read bytes rs zero k n leaf some le enough is = absurd (omega arith)
end_read bytes rs (suc j) k n leaf some le enough is =
    let e : Record = (record { table = 0; number = 0 }, []) in
    let far : 16 + 12 * j + 10 ≡ 14 + 12 * suc j = omega arith in
    is
    ∙ ap (little_number 2) (take_all k (drop (14 + 12 * suc j) bytes) (omega (arith, enough, length-drop (14 + 12 * suc j) bytes)) ∙ sym (drop-drop 10 (16 + 12 * j) bytes ∙ ap (λ m. drop m bytes) far))
    ∙ ap (λ (b : Bound). b.end) (bound_at bytes rs j e leaf (omega arith))
    ∙ omega arith

-- where values end rises, and not past the block
pub ends_order : (rs : List Record) (a b : ℕ) → a ≤ b → end_in rs a ≤ end_in rs b
ends_order rs a b le = omega (arith, length-values_cut rs a b le)

pub end_most : (rs : List Record) (i : ℕ) → size_of rs ≤ 4080 → end_in rs i ≤ 4096
end_most rs i room =
    let all = ap length (ap values_of (sym (take-append-drop i rs)) ∙ values_join (take i rs) (drop i rs)) ∙ length-append (values_of (take i rs)) (values_of (drop i rs)) in
    omega (arith, all, room)

-- the record that was chosen by the bytes, and the key that was read there
pub leaf_choice : (bytes : List ℕ) (rs : List Record) (n i k p q : ℕ) (key : Key) → HasRecords bytes rs → n ≡ length rs → p ≡ q → ChoosesAmong bytes 12 n p i → KeyFits key → 10 ≤ k → take 10 (take k (drop (16 + 12 * i) bytes)) ≡ key_bytes key
    → HasChoice rs q i × (slice_index (places rs) i ≡ place key)
leaf_choice bytes rs n i k p q key leaf many same choose fits enough is =
    let keys = leaf_keys bytes rs leaf in
    let chosen = subst (λ z. IsChosen (places rs) z i) same (choose (places rs) (length-map rs (λ (r : Record). place r.0) ∙ sym many) keys) in
    (record { rises = leaf.rising; chosen = chosen }, keys i key chosen.within fits (sym (take-take 10 k (drop (16 + 12 * i) bytes) enough) ∙ is))
