-- Records with one of them put in, taken out, or cut in two.
use Rattle.std.proofs.Common.{◌≡◌, ◌≢◌, ℕ, ◌+◌, ◌-◌, ◌<◌, ◌≤◌, ◌==◌, cond, List, [], ◌∷◌, ◌++◌, length, take, drop, refl, sym, ap, ap₂, ◌∙◌, subst, arith, ⊎_elim, length-append, length-drop, length-take-le, take-append-drop}
use Rattle.std.specs.List.{AllByRecursion}
use Rattle.std.proofs.lemmas.Bool.{cases_order, eq-eqb, ne_eqb, lt-ltb, le-ltb}
use Rattle.std.proofs.lemmas.List.{map-append, drop-drop}
use Rattle.vm_types.specs.Places.{RisesFrom, place, places, with_record}
use Rattle.vm_block.specs.declared.look.Look.{Look}
use Rattle.vm_block.specs.declared.look.Look.TheVariants.{Found, Missing}
use Rattle.vm_block.specs.Changed.{without_place}
use Rattle.vm_block.specs.Edits.{span_of}
use Rattle.vm_block.specs.Leaf.{Record}
use Rattle.vm_block.specs.Leaf.{HasRecords, RecordFits, leaf_bytes, size_of, values_of}
use Rattle.vm_block.specs.Look.{FoundAt, IsLook}
use Rattle.vm_block.proofs.BoundLemmas.{values_join}
use Rattle.vm_block.proofs.EachLemmas.{each_back, each_front, each_join}

-- # That they rise

lower : (low least : ℕ) (ps : List ℕ) → least ≤ low → RisesFrom low ps → RisesFrom least ps
lower low least [] le rises = tt
lower low least (p ∷ ps) le rises = (omega (arith, le, rises.0), rises.1)

rises_front : (low : ℕ) (ps qs : List ℕ) → RisesFrom low (ps ++ qs) → RisesFrom low ps
rises_front low [] qs rises = tt
rises_front low (p ∷ ps) qs rises = (rises.0, rises_front (p + 1) ps qs rises.1)

rises_back : (low : ℕ) (ps qs : List ℕ) → RisesFrom low (ps ++ qs) → RisesFrom 0 qs
rises_back low [] qs rises = lower low 0 qs (omega arith) rises
rises_back low (p ∷ ps) qs rises = rises_back (p + 1) ps qs rises.1

pub front_rises : (xs ys : List Record) → RisesFrom 0 (places (xs ++ ys)) → RisesFrom 0 (places xs)
front_rises xs ys rises = rises_front 0 (places xs) (places ys) (subst (RisesFrom 0) (map-append (λ (r : Record). place r.0) xs ys) rises)

pub back_rises : (xs ys : List Record) → RisesFrom 0 (places (xs ++ ys)) → RisesFrom 0 (places ys)
back_rises xs ys rises = rises_back 0 (places xs) (places ys) (subst (RisesFrom 0) (map-append (λ (r : Record). place r.0) xs ys) rises)

pub with_rises : (low : ℕ) (r : Record) (rs : List Record) → low ≤ place r.0 → RisesFrom low (places rs) → RisesFrom low (places (with_record r rs))
with_rises low r [] le rises = (le, tt)
with_rises low r (x ∷ rs) le rises =
    let P : List Record → Type 0 = λ ws. RisesFrom low (places ws) in
    ⊎_elim
    (λ (same : place r.0 ≡ place x.0).
    let is : with_record r (x ∷ rs) ≡ r ∷ rs = ap₂ (λ s t. cond s (r ∷ x ∷ rs) (cond t (r ∷ rs) (x ∷ with_record r rs))) (le-ltb (place r.0) (place x.0) (omega (arith, same))) (eq-eqb (place r.0) (place x.0) same) in
    subst P (sym is) (le, subst (λ p. RisesFrom (p + 1) (places rs)) (sym same) rises.1))
    (⊎_elim
    (λ (before : place r.0 < place x.0).
    let is : with_record r (x ∷ rs) ≡ r ∷ x ∷ rs = ap (λ s. cond s (r ∷ x ∷ rs) (cond (place r.0 == place x.0) (r ∷ rs) (x ∷ with_record r rs))) (lt-ltb (place r.0) (place x.0) before) in
    subst P (sym is) (le, (omega (arith, before), rises.1)))
    (λ (behind : place x.0 < place r.0).
    let is : with_record r (x ∷ rs) ≡ x ∷ with_record r rs = ap₂ (λ s t. cond s (r ∷ x ∷ rs) (cond t (r ∷ rs) (x ∷ with_record r rs))) (le-ltb (place r.0) (place x.0) (omega (arith, behind))) (ne_eqb (place r.0) (place x.0) (λ same. omega (arith, behind, same))) in
    subst P (sym is) (rises.0, with_rises (place x.0 + 1) r rs (omega (arith, behind)) rises.1)))
    (cases_order (place r.0) (place x.0))

pub without_rises : (low p : ℕ) (rs : List Record) → RisesFrom low (places rs) → RisesFrom low (places (without_place p rs))
without_rises low p [] rises = tt
without_rises low p (x ∷ rs) rises =
    let P : List Record → Type 0 = λ ws. RisesFrom low (places ws) in
    ⊎_elim
    (λ (same : place x.0 ≡ p). subst P (sym (ap (λ t. cond t rs (x ∷ without_place p rs)) (eq-eqb (place x.0) p same))) (lower (place x.0 + 1) low (places rs) (omega (arith, rises.0)) rises.1))
    (λ other.
    let apart : place x.0 ≡ p → ⊥ = λ same. ⊎_elim (λ (lt : place x.0 < p). omega (arith, lt, same)) (λ (lt : p < place x.0). omega (arith, lt, same)) other in
    subst P (sym (ap (λ t. cond t rs (x ∷ without_place p rs)) (ne_eqb (place x.0) p apart))) (rises.0, without_rises (place x.0 + 1) p rs rises.1))
    (cases_order (place x.0) p)

-- # That they are within their limits

pub changed_fit : (rs ms : List Record) (i j : ℕ) → AllByRecursion RecordFits rs → AllByRecursion RecordFits ms → AllByRecursion RecordFits (take i rs ++ (ms ++ drop j rs))
changed_fit rs ms i j all middle =
    let split = λ (n : ℕ). subst (AllByRecursion RecordFits) (sym (take-append-drop n rs)) all in
    each_join RecordFits (take i rs) (ms ++ drop j rs) (each_front RecordFits (take i rs) (drop i rs) (split i)) (each_join RecordFits ms (drop j rs) middle (each_back RecordFits (take j rs) (drop j rs) (split j)))

-- # Where a record was looked for

-- the records that give way
pub span_within : (p : ℕ) (look : Look) (rs : List Record) → IsLook p look rs → (span_of look).1 ≤ length rs
span_within p (Found i) rs is = omega (arith, is.within)
span_within p (Missing i) rs is = is.within

pub span_with : (p : ℕ) (look : Look) (rs : List Record) (r : Record) → place r.0 ≡ p → IsLook p look rs → with_record r rs ≡ take (span_of look).0 rs ++ (r ∷ [] ++ drop (span_of look).1 rs)
span_with p (Found i) rs r e is = is.replaced r e
span_with p (Missing i) rs r e is = is.inserted r e

-- without some of them, records take fewer bytes
pub size_without : (rs : List Record) (i j : ℕ) → i ≤ j → j ≤ length rs → size_of (take i rs ++ ([] ++ drop j rs)) ≤ size_of rs
size_without rs i j le within =
    let front = take i rs in
    let back = drop j rs in
    let gap = take (j - i) (drop i rs) in
    let turn : i + (j - i) ≡ j = omega (arith, le) in
    let whole : rs ≡ front ++ (gap ++ back) = sym (take-append-drop i rs) ∙ ap (λ z. front ++ z) (sym (take-append-drop (j - i) (drop i rs)) ∙ ap (λ z. gap ++ z) (drop-drop (j - i) i rs ∙ ap (λ n. drop n rs) turn)) in
    let v1 = ap length (ap values_of whole ∙ values_join front (gap ++ back) ∙ ap (λ z. values_of front ++ z) (values_join gap back)) ∙ length-append (values_of front) (values_of gap ++ values_of back) in
    let v2 = ap length (values_join front back) ∙ length-append (values_of front) (values_of back) in
    omega (arith, v1, v2, length-append (values_of gap) (values_of back), length-append front back, ap length whole, length-append front (gap ++ back), length-append gap back)

-- a record put into a leaf, where it has room
pub put_written : (bytes new : List ℕ) (rs : List Record) (r : Record) (look : Look) (i j : ℕ) → HasRecords bytes rs → RecordFits r → IsLook (place r.0) look rs → i ≡ (span_of look).0 → j ≡ (span_of look).1
    → (size_of (take i rs ++ (r ∷ [] ++ drop j rs)) ≤ 4080) × (new ≡ leaf_bytes (take i rs ++ (r ∷ [] ++ drop j rs))) → HasRecords new (with_record r rs)
put_written bytes new rs r look i j leaf fits there ei ej wrote =
    let is : with_record r rs ≡ take i rs ++ (r ∷ [] ++ drop j rs) = span_with (place r.0) look rs r refl there ∙ ap₂ (λ a b. take a rs ++ (r ∷ [] ++ drop b rs)) (sym ei) (sym ej) in
    record {
      spelled = wrote.1 ∙ ap leaf_bytes (sym is);
      some = omega (arith, ap length is, length-append (take i rs) (r ∷ [] ++ drop j rs));
      room = subst (λ ws. size_of ws ≤ 4080) (sym is) wrote.0;
      fit = subst (AllByRecursion RecordFits) (sym is) (changed_fit rs (r ∷ []) i j leaf.fit (fits, tt));
      rising = with_rises 0 r rs (omega arith) leaf.rising;
    }

pub put_refused : (rs : List Record) (r : Record) (look : Look) (i j : ℕ) → IsLook (place r.0) look rs → i ≡ (span_of look).0 → j ≡ (span_of look).1 → 4080 < size_of (take i rs ++ (r ∷ [] ++ drop j rs)) → 4080 < size_of (with_record r rs)
put_refused rs r look i j there ei ej more =
    subst (λ ws. 4080 < size_of ws) (sym (span_with (place r.0) look rs r refl there ∙ ap₂ (λ a b. take a rs ++ (r ∷ [] ++ drop b rs)) (sym ei) (sym ej))) more

-- a record taken out of a leaf that has another
pub take_written : (bytes new : List ℕ) (rs : List Record) (p i : ℕ) → HasRecords bytes rs → FoundAt p i rs → length rs ≢ 1 → new ≡ leaf_bytes (take i rs ++ ([] ++ drop (i + 1) rs)) → HasRecords new (without_place p rs)
take_written bytes new rs p i leaf found more wrote =
    let lt = found.within in
    record {
      spelled = wrote ∙ ap leaf_bytes (sym found.removed);
      some = omega (arith, more, ap length found.removed, length-append (take i rs) (drop (i + 1) rs), length-take-le i rs (omega (arith, lt)), length-drop (i + 1) rs);
      room = omega (arith, ap size_of found.removed, size_without rs i (i + 1) (omega arith) (omega (arith, lt)), leaf.room);
      fit = subst (AllByRecursion RecordFits) (sym found.removed) (changed_fit rs [] i (i + 1) leaf.fit tt);
      rising = without_rises 0 p rs leaf.rising;
    }
