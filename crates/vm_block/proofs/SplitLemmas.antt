-- The records of a leaf with one more, cut in two.
use Rattle.std.proofs.Common.{◌≡◌, ℕ, suc, ◌+◌, ◌-◌, ◌*◌, ◌<◌, ◌≤◌, max, Bool, true, false, inl, inr, List, [], ◌∷◌, ◌++◌, length, take, drop, sym, ap, ap₂, ◌∙◌, subst, arith, length-append, length-drop, length-take-le, take-append-drop}
use Rattle.std.proofs.lemmas.List.{append-nil, drop-append-le, drop-drop, take-append-le, take-take, drop-take, take_all, take_rest}
use Rattle.std.proofs.lemmas.Bool.{cases_lt}
use Rattle.std.proofs.Math.Seq.{drop-append-add, take-append-add}
use Rattle.vm_block.specs.Leaf.{Record}
use Rattle.vm_block.specs.Leaf.{size_of, values_of}
use Rattle.vm_block.specs.Parts.{IsWritten}
use Rattle.vm_block.specs.Split.{IsCutInto, larger}
use Rattle.vm_block.proofs.BoundLemmas.{values_join}
use Rattle.vm_block.proofs.LookLemmas.{length-values_cut}

-- # Sizes

pub size_join : (xs ys : List Record) → size_of (xs ++ ys) ≡ size_of xs + size_of ys
size_join xs ys = omega (arith, length-append xs ys, ap length (values_join xs ys) ∙ length-append (values_of xs) (values_of ys))

-- what is before a cut and what is behind it
pub size_cut : (all : List Record) (h : ℕ) → size_of all ≡ size_of (take h all) + size_of (drop h all)
size_cut all h = ap size_of (sym (take-append-drop h all)) ∙ size_join (take h all) (drop h all)

pub larger_is : (all : List Record) (h total front : ℕ) → total ≡ size_of all → front ≡ size_of (take h all) → max front (total - front) ≡ larger h all
larger_is all h total front is at = ap₂ max at (omega (arith, is, at, size_cut all h))

-- # The records on both sides of a cut

-- a cut before the one that comes
pub take_before : (rs ms : List Record) (h i j : ℕ) → h ≤ i → i ≤ length rs → take h (take i rs ++ (ms ++ drop j rs)) ≡ take h rs
take_before rs ms h i j le within = take-append-le h (take i rs) (ms ++ drop j rs) (omega (arith, length-take-le i rs within, le)) ∙ take-take h i rs le

pub drop_before : (rs ms : List Record) (h i j : ℕ) → h ≤ i → i ≤ length rs → drop h (take i rs ++ (ms ++ drop j rs)) ≡ take (i - h) (drop h rs) ++ (ms ++ drop j rs)
drop_before rs ms h i j le within =
    let turn : i ≡ h + (i - h) = omega (arith, le) in
    drop-append-le h (take i rs) (ms ++ drop j rs) (omega (arith, length-take-le i rs within, le))
    ∙ ap (λ z. z ++ (ms ++ drop j rs)) (ap (λ n. drop h (take n rs)) turn ∙ drop-take h (i - h) rs)

-- a cut behind it, after so many more
pub take_behind : (rs : List Record) (r : Record) (i j k : ℕ) → i ≤ length rs → take (i + 1 + k) (take i rs ++ (r ∷ [] ++ drop j rs)) ≡ take i rs ++ (r ∷ [] ++ take k (drop j rs))
take_behind rs r i j k within =
    let far : i + 1 + k ≡ length (take i rs) + suc k = omega (arith, length-take-le i rs within) in
    ap (λ n. take n (take i rs ++ (r ∷ [] ++ drop j rs))) far ∙ take-append-add (take i rs) (r ∷ drop j rs) (suc k)

pub drop_behind : (rs : List Record) (r : Record) (i j k : ℕ) → i ≤ length rs → drop (i + 1 + k) (take i rs ++ (r ∷ [] ++ drop j rs)) ≡ drop (j + k) rs
drop_behind rs r i j k within =
    let far : i + 1 + k ≡ length (take i rs) + suc k = omega (arith, length-take-le i rs within) in
    ap (λ n. drop n (take i rs ++ (r ∷ [] ++ drop j rs))) far ∙ drop-append-add (take i rs) (r ∷ drop j rs) (suc k) ∙ drop-drop k j rs

-- # As they are written

pub front_alone : (rs ms : List Record) (h i j : ℕ) → h ≤ i → i ≤ length rs → take (h - 0) (drop 0 rs) ++ ([] ++ []) ≡ take h (take i rs ++ (ms ++ drop j rs))
front_alone rs ms h i j le within =
    let none : h - 0 ≡ h = omega arith in
    append-nil (take (h - 0) rs) ∙ ap (λ n. take n rs) none ∙ sym (take_before rs ms h i j le within)

pub back_with : (rs ms : List Record) (h i j n : ℕ) → h ≤ i → i ≤ length rs → n ≡ length rs → take (i - h) (drop h rs) ++ (ms ++ take (n - j) (drop j rs)) ≡ drop h (take i rs ++ (ms ++ drop j rs))
back_with rs ms h i j n le within many =
    ap (λ m. take (i - h) (drop h rs) ++ (ms ++ take (m - j) (drop j rs))) many
    ∙ ap (λ z. take (i - h) (drop h rs) ++ (ms ++ z)) (take_rest rs j)
    ∙ sym (drop_before rs ms h i j le within)

pub front_with : (rs : List Record) (r : Record) (i j k : ℕ) → i ≤ length rs → take (i - 0) (drop 0 rs) ++ (r ∷ [] ++ take (j + k - j) (drop j rs)) ≡ take (i + 1 + k) (take i rs ++ (r ∷ [] ++ drop j rs))
front_with rs r i j k within =
    let none : i - 0 ≡ i = omega arith in
    let turn : j + k - j ≡ k = omega arith in
    ap₂ (λ m n. take m rs ++ (r ∷ [] ++ take n (drop j rs))) none turn ∙ sym (take_behind rs r i j k within)

pub back_alone : (rs : List Record) (r : Record) (i j k n : ℕ) → i ≤ length rs → n ≡ length rs → take (n - (j + k)) (drop (j + k) rs) ++ ([] ++ []) ≡ drop (i + 1 + k) (take i rs ++ (r ∷ [] ++ drop j rs))
back_alone rs r i j k n within many =
    append-nil (take (n - (j + k)) (drop (j + k) rs)) ∙ ap (λ m. take (m - (j + k)) (drop (j + k) rs)) many ∙ take_rest rs (j + k) ∙ sym (drop_behind rs r i j k within)

-- # How much they take

pub front_before : (rs ms : List Record) (h i j end : ℕ) → h ≤ i → i ≤ length rs → end ≡ length (values_of (take h rs)) → 12 * h + end ≡ size_of (take h (take i rs ++ (ms ++ drop j rs)))
front_before rs ms h i j end le within is =
    omega (arith, ap size_of (take_before rs ms h i j le within), length-take-le h rs (omega (arith, le, within)), is)

pub front_behind : (rs : List Record) (r : Record) (h i j k before start end len : ℕ) → h ≡ i + 1 + k → i ≤ length rs → j + k ≤ length rs → before ≡ length (values_of (take i rs)) → start ≡ length (values_of (take j rs)) → end ≡ length (values_of (take (j + k) rs)) → length r.1 ≡ len
    → 12 * h + before + len + (end - start) ≡ size_of (take h (take i rs ++ (r ∷ [] ++ drop j rs)))
front_behind rs r h i j k before start end len at within room is_before is_start is_end long =
    let turn : j + k - j ≡ k = omega arith in
    let more : length (values_of (take (j + k) rs)) ≡ length (values_of (take j rs)) + length (values_of (take k (drop j rs))) = length-values_cut rs j (j + k) (omega arith) ∙ ap (λ n. length (values_of (take j rs)) + length (values_of (take n (drop j rs)))) turn in
    let behind = take k (drop j rs) in
    let many : length behind ≡ k = length-take-le k (drop j rs) (omega (arith, length-drop j rs, room)) in
    let sizes = size_join (take i rs) (r ∷ [] ++ behind) in
    let one = length-append r.1 (values_of behind) in
    let is = ap size_of (ap (λ n. take n (take i rs ++ (r ∷ [] ++ drop j rs))) at ∙ take_behind rs r i j k within) in
    omega (arith, is, sizes, one, many, more, at, is_before, is_start, is_end, long, length-take-le i rs within)

-- # What is written

pub cut_into : (b : Bool) (h : ℕ) (all xs ys : List Record) (left right : List ℕ) → xs ≡ take h all → ys ≡ drop h all → IsWritten true xs left → IsWritten b ys right → IsCutInto b h all left right
cut_into true h all xs ys left right front back wrote also = (subst (λ ws. IsWritten true ws left) front wrote, subst (λ ws. IsWritten true ws right) back also)
cut_into false h all xs ys left right front back wrote more = omega (arith, ap size_of back, more)

pub cut_out : (h : ℕ) (all xs : List Record) → xs ≡ take h all → 4080 < size_of xs → 4080 < larger h all
cut_out h all xs front more = omega (arith, ap size_of front, more)

-- # The best cut

pub length_coming : (rs : List Record) (r : Record) (i j n : ℕ) → i ≤ length rs → n ≡ i + 1 + (length rs - j) → length (take i rs ++ (r ∷ [] ++ drop j rs)) ≡ n
length_coming rs r i j n within is = omega (arith, length-append (take i rs) (r ∷ drop j rs), length-take-le i rs within, length-drop j rs, is)

-- how much all of them take
pub total_is : (rs : List Record) (r : Record) (i j n total : ℕ) → i ≤ length rs → n ≡ i + 1 + (length rs - j) → total ≡ size_of (take n (take i rs ++ (r ∷ [] ++ drop j rs))) → total ≡ size_of (take i rs ++ (r ∷ [] ++ drop j rs))
total_is rs r i j n total within is sum = sum ∙ ap size_of (take_all n (take i rs ++ (r ∷ [] ++ drop j rs)) (omega (arith, length_coming rs r i j n within is)))

-- one cut more was looked at
pub best_more : (all : List Record) (least new size n : ℕ) → new ≤ least → new ≤ size → size ≡ larger n all → ((h : ℕ) → 0 < h → h < n → h < length all → least ≤ larger h all) → (h : ℕ) → 0 < h → h < n + 1 → h < length all → new ≤ larger h all
best_more all least new size n le also here so_far h some lt within =
    elim (cases_lt h n) [
      | inl before ↦ omega (arith, le, so_far h some before within)
      | inr last ↦ let same : n ≡ h = omega (arith, last, lt) in omega (arith, also, here, ap (λ m. larger m all) same)
    ]
