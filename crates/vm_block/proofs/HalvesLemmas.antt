-- The leaves into which a leaf with one record more is split.
use Rattle.std.proofs.Common.{◌≡◌, ℕ, ◌+◌, ◌-◌, ◌<◌, ◌≤◌, Bool, true, false, List, [], ◌∷◌, ◌++◌, length, take, drop, refl, sym, ap, ap₂, ◌∙◌, subst, arith, inl, inr, length-append, length-drop, take-append-drop}
use Rattle.std.specs.Prelude.{slice_index}
use Rattle.std.specs.List.{AllByRecursion}
use Rattle.std.proofs.lemmas.Bool.{cases_lt}
use Rattle.std.proofs.lemmas.List.{length-take}
use Rattle.vm_types.specs.Places.{RisesFrom, place, places, with_record}
use Rattle.vm_block.specs.declared.look.Look.{Look}
use Rattle.vm_block.specs.declared.look.Look.TheVariants.{Found, Missing}
use Rattle.vm_block.specs.Edits.{span_of}
use Rattle.vm_block.specs.Leaf.{Record}
use Rattle.vm_block.specs.Leaf.{HasRecords, RecordFits, leaf_bytes, size_of}
use Rattle.vm_block.specs.Look.{IsLook}
use Rattle.vm_block.specs.Parts.{IsWritten}
use Rattle.vm_block.specs.Split.{InThree, InTwo, IsBestCut, IsCutInto, larger}
use Rattle.vm_block.proofs.EachLemmas.{each_back, each_front}
use Rattle.vm_block.proofs.EditLemmas.{back_rises, changed_fit, front_rises, span_with, with_rises}
use Rattle.vm_block.proofs.SplitLemmas.{drop_behind, length_coming, size_cut, take_before, drop_before, take_behind}

-- what fits is written
pub written_fits : (b : Bool) (xs : List Record) (new : List ℕ) → size_of xs ≤ 4080 → IsWritten b xs new → new ≡ leaf_bytes xs
written_fits true xs new room wrote = wrote.1
written_fits false xs new room more = absurd (omega (arith, room, more))

pub no_size : (xs : List Record) → length xs ≡ 0 → size_of xs ≡ 0
no_size [] e = refl
no_size (x ∷ xs) e = absurd (omega (arith, e))

-- # Where the record comes

-- where it is behind all others, it comes behind them
pub behind_all : (p : ℕ) (look : Look) (rs : List Record) → IsLook p look rs → ((k : ℕ) → k < length rs → slice_index (places rs) k < p) → (span_of look).0 ≡ length rs
behind_all p (Found i) rs is all = absurd (omega (arith, is.here, all i is.within))
behind_all p (Missing i) rs is all =
    elim (cases_lt i (length rs)) [
      | inl lt ↦ absurd (omega (arith, is.above lt, all i lt))
      | inr le ↦ omega (arith, le, is.within)
    ]

-- and else before one of them, or in its place
pub before_one : (p : ℕ) (look : Look) (rs : List Record) (k : ℕ) → IsLook p look rs → k < length rs → p ≤ slice_index (places rs) k → (span_of look).0 < length rs
before_one p (Found i) rs k is lt le = is.within
before_one p (Missing i) rs k is lt le =
    elim (cases_lt i (length rs)) [
      | inl before ↦ before
      | inr behind ↦ absurd (omega (arith, is.below k (omega (arith, behind, lt)), le))
    ]

-- # Parts of a leaf are leaves

pub front_leaf : (bytes new : List ℕ) (rs : List Record) (i : ℕ) → HasRecords bytes rs → 0 < i → new ≡ leaf_bytes (take i rs) → HasRecords new (take i rs)
front_leaf bytes new rs i leaf some wrote = record {
  spelled = wrote;
  some = omega (arith, length-take i rs, some, leaf.some);
  room = omega (arith, size_cut rs i, leaf.room);
  fit = each_front RecordFits (take i rs) (drop i rs) (subst (AllByRecursion RecordFits) (sym (take-append-drop i rs)) leaf.fit);
  rising = front_rises (take i rs) (drop i rs) (subst (λ ws. RisesFrom 0 (places ws)) (sym (take-append-drop i rs)) leaf.rising);
}

pub back_leaf : (bytes new : List ℕ) (rs : List Record) (j : ℕ) → HasRecords bytes rs → j < length rs → new ≡ leaf_bytes (drop j rs) → HasRecords new (drop j rs)
back_leaf bytes new rs j leaf lt wrote = record {
  spelled = wrote;
  some = omega (arith, length-drop j rs, lt);
  room = omega (arith, size_cut rs j, leaf.room);
  fit = each_back RecordFits (take j rs) (drop j rs) (subst (AllByRecursion RecordFits) (sym (take-append-drop j rs)) leaf.fit);
  rising = back_rises (take j rs) (drop j rs) (subst (λ ws. RisesFrom 0 (places ws)) (sym (take-append-drop j rs)) leaf.rising);
}

pub one_leaf : (new : List ℕ) (r : Record) → RecordFits r → new ≡ leaf_bytes (r ∷ []) → HasRecords new (r ∷ [])
one_leaf new r fits wrote = record {
  spelled = wrote;
  some = omega arith;
  room = omega (arith, fits.1, length-append r.1 []);
  fit = (fits, tt);
  rising = (omega arith, tt);
}

-- # Two leaves

-- records within their limits, in their order, and more than a leaf has room for
pub record AreMany (all : List Record) : Type 0 where
  pub fit : AllByRecursion RecordFits all
  pub rising : RisesFrom 0 (places all)
  pub many : 4080 < size_of all

pub two_front : (all : List Record) (h : ℕ) (left right : List ℕ) → AreMany all → 0 < h → IsCutInto true h all left right → HasRecords left (take h all)
two_front all h left right are some wrote =
    let there : length all ≡ 0 → ⊥ = λ none. omega (arith, no_size all none, are.many) in
    record {
      spelled = wrote.0.1;
      some = omega (arith, length-take h all, some, there);
      room = wrote.0.0;
      fit = each_front RecordFits (take h all) (drop h all) (subst (AllByRecursion RecordFits) (sym (take-append-drop h all)) are.fit);
      rising = front_rises (take h all) (drop h all) (subst (λ ws. RisesFrom 0 (places ws)) (sym (take-append-drop h all)) are.rising);
    }

pub two_back : (all : List Record) (h : ℕ) (left right : List ℕ) → AreMany all → IsCutInto true h all left right → HasRecords right (drop h all)
two_back all h left right are wrote =
    let there : length (drop h all) ≡ 0 → ⊥ = λ none. omega (arith, no_size (drop h all) none, size_cut all h, wrote.0.0, are.many) in
    record {
      spelled = wrote.1.1;
      some = omega (arith, there);
      room = wrote.1.0;
      fit = each_back RecordFits (take h all) (drop h all) (subst (AllByRecursion RecordFits) (sym (take-append-drop h all)) are.fit);
      rising = back_rises (take h all) (drop h all) (subst (λ ws. RisesFrom 0 (places ws)) (sym (take-append-drop h all)) are.rising);
    }

-- # Three leaves

-- with one record alone behind a cut, or before it, two leaves are enough
one_size : (r : Record) → RecordFits r → size_of (r ∷ []) ≤ 4080
one_size r fits = omega (arith, fits.1, length-append r.1 [])

pub first_alone : (rs : List Record) (r : Record) (i j : ℕ) → RecordFits r → size_of rs ≤ 4080 → i ≡ 0 → larger (i + 1 + 0) (take i rs ++ (r ∷ [] ++ drop j rs)) ≤ 4080
first_alone rs r i j fits room none =
    let front = ap size_of (take_behind rs r i j 0 (omega (arith, none)) ∙ ap (λ n. take n rs ++ (r ∷ [] ++ take 0 (drop j rs))) none) in
    let back = ap size_of (drop_behind rs r i j 0 (omega (arith, none))) in
    let same : j + 0 ≡ j = omega arith in
    omega (arith, front, back, ap (λ n. size_of (drop n rs)) same, one_size r fits, size_cut rs j, room)

pub last_alone : (rs : List Record) (r : Record) (i j : ℕ) → RecordFits r → size_of rs ≤ 4080 → i ≤ length rs → length (drop j rs) ≡ 0 → larger i (take i rs ++ (r ∷ [] ++ drop j rs)) ≤ 4080
last_alone rs r i j fits room within none =
    let front = ap size_of (take_before rs (r ∷ []) i i j (omega arith) within) in
    let same : i - i ≡ 0 = omega arith in
    let back = ap size_of (drop_before rs (r ∷ []) i i j (omega arith) within ∙ ap (λ n. take n (drop i rs) ++ (r ∷ [] ++ drop j rs)) same ∙ ap (λ ws. r ∷ ws) (none_is (drop j rs) none)) in
    omega (arith, front, back, one_size r fits, size_cut rs i, room)
  where
    none_is : (xs : List Record) → length xs ≡ 0 → xs ≡ []
    none_is [] e = refl
    none_is (x ∷ xs) e = absurd (omega (arith, e))

-- # A leaf that is split

are_many : (bytes : List ℕ) (rs all : List Record) (r : Record) (i j : ℕ) → HasRecords bytes rs → RecordFits r → with_record r rs ≡ all → all ≡ take i rs ++ (r ∷ [] ++ drop j rs) → 4080 < size_of (with_record r rs) → AreMany (with_record r rs)
are_many bytes rs all r i j leaf fits is parts more = record {
  fit = subst (AllByRecursion RecordFits) (sym (is ∙ parts)) (changed_fit rs (r ∷ []) i j leaf.fit (fits, tt));
  rising = with_rises 0 r rs (omega arith) leaf.rising;
  many = more;
}

pub split_two : (bytes left right : List ℕ) (rs : List Record) (r : Record) (look : Look) (i j h : ℕ) → HasRecords bytes rs → RecordFits r → IsLook (place r.0) look rs → i ≡ (span_of look).0 → j ≡ (span_of look).1 → 4080 < size_of (with_record r rs)
    → 0 < h → (i ≡ length rs → h ≡ i) → (i < length rs → IsBestCut h (take i rs ++ (r ∷ [] ++ drop j rs))) → IsCutInto true h (take i rs ++ (r ∷ [] ++ drop j rs)) left right → InTwo r rs (with_record r rs) left right
split_two bytes left right rs r look i j h leaf fits there ei ej more some behind best wrote =
    let parts = take i rs ++ (r ∷ [] ++ drop j rs) in
    let is : with_record r rs ≡ parts = span_with (place r.0) look rs r refl there ∙ ap₂ (λ a b. take a rs ++ (r ∷ [] ++ drop b rs)) (sym ei) (sym ej) in
    let are = are_many bytes rs parts r i j leaf fits is refl more in
    let written = subst (λ ws. IsCutInto true h ws left right) (sym is) wrote in
    record {
      cut = h;
      before = two_front (with_record r rs) h left right are some written;
      behind = two_back (with_record r rs) h left right are written;
      alone = λ all. let at : i ≡ length rs = ei ∙ behind_all (place r.0) look rs there all in behind at ∙ at;
      even = λ k lt le. subst (IsBestCut h) (sym is) (best (omega (arith, ei, before_one (place r.0) look rs k there lt le)));
    }

-- where no cut made two
module _ (rs : List Record) (r : Record) (i j h : ℕ) (fits : RecordFits r) (room : size_of rs ≤ 4080) (within : i ≤ length rs) (order : i ≤ j) (many : 4080 < size_of (take i rs ++ (r ∷ [] ++ drop j rs))) (behind : i ≡ length rs → h ≡ i)
    (best : i < length rs → IsBestCut h (take i rs ++ (r ∷ [] ++ drop j rs))) (more : 4080 < larger h (take i rs ++ (r ∷ [] ++ drop j rs))) where
  before_some : i < length rs
  before_some =
      elim (cases_lt i (length rs)) [
        | inl lt ↦ lt
        | inr le ↦
            let at : i ≡ length rs = omega (arith, le, within) in
            let far : length (drop j rs) ≡ 0 = omega (arith, length-drop j rs, order, at) in
            absurd (omega (arith, last_alone rs r i j fits room within far, ap (λ n. larger n (take i rs ++ (r ∷ [] ++ drop j rs))) (behind at), more))
      ]

  pub none_fits : (k : ℕ) → 0 < k → k < length (take i rs ++ (r ∷ [] ++ drop j rs)) → 4080 < larger k (take i rs ++ (r ∷ [] ++ drop j rs))
  none_fits k some lt = omega (arith, best before_some k some lt, more)

  pub some_behind : j < length rs
  some_behind =
      elim (cases_lt j (length rs)) [
        | inl lt ↦ lt
        | inr le ↦
            let far : length (drop j rs) ≡ 0 = omega (arith, length-drop j rs, le) in
            let all = take i rs ++ (r ∷ [] ++ drop j rs) in
            let small = last_alone rs r i j fits room within far in
            elim (cases_lt 0 i) [
              | inl above ↦ absurd (omega (arith, small, none_fits i above (omega (arith, length_coming rs r i j (i + 1 + (length rs - j)) within refl))))
              | inr none ↦ absurd (omega (arith, small, size_cut all i, no_size (take i all) (omega (arith, length-take i all, none)), many))
            ]
      ]

  pub some_before : 0 < i
  some_before =
      elim (cases_lt 0 i) [
        | inl above ↦ above
        | inr none ↦ absurd (omega (arith, first_alone rs r i j fits room (omega (arith, none)), none_fits (i + 1 + 0) (omega arith) (omega (arith, length_coming rs r i j (i + 1 + (length rs - j)) within refl, some_behind))))
      ]

pub split_three : (bytes left middle right : List ℕ) (rs : List Record) (r : Record) (look : Look) (i j h : ℕ) → HasRecords bytes rs → RecordFits r → IsLook (place r.0) look rs → i ≡ (span_of look).0 → j ≡ (span_of look).1 → 4080 < size_of (with_record r rs)
    → i ≤ length rs → i ≤ j → (i ≡ length rs → h ≡ i) → (i < length rs → IsBestCut h (take i rs ++ (r ∷ [] ++ drop j rs))) → 4080 < larger h (take i rs ++ (r ∷ [] ++ drop j rs))
    → left ≡ leaf_bytes (take i rs) → middle ≡ leaf_bytes (r ∷ []) → right ≡ leaf_bytes (drop j rs) → InThree r (with_record r rs) left middle right
split_three bytes left middle right rs r look i j h leaf fits there ei ej big within order behind best more wl wm wr =
    let parts = take i rs ++ (r ∷ [] ++ drop j rs) in
    let is : with_record r rs ≡ parts = span_with (place r.0) look rs r refl there ∙ ap₂ (λ a b. take a rs ++ (r ∷ [] ++ drop b rs)) (sym ei) (sym ej) in
    let many = subst (λ ws. 4080 < size_of ws) is big in
    record {
      lower = take i rs;
      higher = drop j rs;
      is = is;
      before = front_leaf bytes left rs i leaf (some_before rs r i j h fits leaf.room within order many behind best more) wl;
      one = one_leaf middle r fits wm;
      behind = back_leaf bytes right rs j leaf (some_behind rs r i j h fits leaf.room within order many behind best more) wr;
      needed = λ k some lt. subst (λ ws. 4080 < larger k ws) (sym is) (none_fits rs r i j h fits leaf.room within order many behind best more k some (omega (arith, lt, ap length is)));
    }
