-- A value written over one of its length.
use Rattle.std.proofs.Common.{◌≡◌, ℕ, ◌+◌, ◌-◌, ◌≤◌, List, [], ◌∷◌, ◌++◌, length, take, drop, get_or, refl, sym, ap, ap₂, ◌∙◌, subst, arith, length-append, append_assoc, take-append-drop}
use Rattle.std.specs.List.{AllByRecursion, flat_map}
use Rattle.std.proofs.lemmas.List.{append-nil, drop_at, drop_more, get_or-map, take_at, take_more}
use Rattle.vm_types.specs.declared.key.Key.{Key}
use Rattle.vm_types.specs.Places.{KeyFits, place, with_record}
use Rattle.vm_block.specs.Leaf.{Record}
use Rattle.vm_block.specs.Leaf.{HasRecords, RecordFits, bound_bytes, bounds_from, leaf_bytes, leaf_head, size_of, values_of}
use Rattle.vm_block.specs.Look.{FoundAt, end_in}
use Rattle.vm_block.specs.Padding.{zeros}
use Rattle.vm_block.proofs.BoundLemmas.{bounds_join, values_join}
use Rattle.vm_block.proofs.EachLemmas.{each_at}
use Rattle.vm_block.proofs.EditLemmas.{changed_fit, with_rises}
use Rattle.vm_block.proofs.LeafLemmas.{leaf_whole, length-body, length-entries_from, length-leaf_head}
use Rattle.vm_block.proofs.Pieces.{then_inside}
use Rattle.vm_block.proofs.RecordLemmas.{key_is}
use Rattle.vm_block.proofs.SplitLemmas.{size_join}
use borrow.Rule.Slice.PartMut.{put_mid}

-- keys of one place are one
place_one : (a b : Key) → KeyFits a → KeyFits b → place a ≡ place b → a ≡ b
place_one a b fa fb e = key_is a b (omega (arith, fa.1, fb.1, e)) (omega (arith, fa.1, fb.1, e))

-- a record of the same key and length has the same entries
same_bounds : (from : ℕ) (r e : Record) (rs : List Record) → r.0 ≡ e.0 → length r.1 ≡ length e.1 → bounds_from from (r ∷ rs) ≡ bounds_from from (e ∷ rs)
same_bounds from r e rs key long = ap₂ (λ k n. record { key = k; end = from + n } ∷ bounds_from (from + n) rs) key long

-- what stands before the values from an index on, and what stands there
front_there : (bytes : List ℕ) (rs : List Record) (a : ℕ) → HasRecords bytes rs → (take (end_in rs a) bytes ≡ leaf_head (length rs) ++ (flat_map bound_bytes (bounds_from 0 rs) ++ values_of (take a rs))) × (drop (end_in rs a) bytes ≡ values_of (drop a rs) ++ zeros (4080 - size_of rs))
front_there bytes rs a leaf =
    let head = leaf_head (length rs) in
    let entries = flat_map bound_bytes (bounds_from 0 rs) in
    let v = values_of (take a rs) in
    let w = values_of (drop a rs) in
    let rest = zeros (4080 - size_of rs) in
    let all : values_of rs ≡ v ++ w = ap values_of (sym (take-append-drop a rs)) ∙ values_join (take a rs) (drop a rs) in
    let whole : bytes ≡ (head ++ (entries ++ v)) ++ (w ++ rest) = leaf_whole bytes rs leaf ∙ ap (λ z. head ++ (entries ++ (z ++ rest))) all ∙ regroup head entries v w rest in
    let far : length (head ++ (entries ++ v)) ≡ end_in rs a = omega (arith, length-append head (entries ++ v), length-append entries v, length-leaf_head (length rs), length-entries_from 0 rs) in
    (ap (take (end_in rs a)) whole ∙ take_at (head ++ (entries ++ v)) (w ++ rest) (end_in rs a) far, ap (drop (end_in rs a)) whole ∙ drop_at (head ++ (entries ++ v)) (w ++ rest) (end_in rs a) far)
  where
    regroup : (a b c d e : List ℕ) → a ++ (b ++ ((c ++ d) ++ e)) ≡ (a ++ (b ++ c)) ++ (d ++ e)
    regroup a b c d e = simp append_assoc

pub over_leaf : (bytes new : List ℕ) (rs : List Record) (key : Key) (value : List ℕ) (i low k : ℕ) → HasRecords bytes rs → KeyFits key → length value ≤ 4000 → FoundAt (place key) i rs → low ≡ end_in rs i → low + length value ≡ end_in rs (i + 1) → k ≡ length value → new ≡ value
    → HasRecords (put_mid low k bytes new) (with_record (key, value) rs)
unfolding leaf_bytes
over_leaf bytes new rs key value i low k leaf small short found at ends many wrote =
    let r : Record = (key, value) in
    let lt = found.within in
    let e = get_or rs i r in
    let xs = take i rs in
    let ys = drop (i + 1) rs in
    let now = xs ++ r ∷ ys in
    let was : rs ≡ xs ++ e ∷ ys = sym (take-append-drop i rs) ∙ ap (λ z. xs ++ z) (drop_more rs i r lt) in
    let fits : RecordFits e = each_at RecordFits rs i r leaf.fit lt in
    let same_key : key ≡ e.0 = place_one key e.0 small fits.0 (sym found.here ∙ get_or-map (λ (q : Record). place q.0) rs i r 0 lt) in
    let more = ap length (ap values_of (take_more rs i r lt) ∙ values_join xs (e ∷ []) ∙ ap (λ z. values_of xs ++ z) (append-nil e.1)) ∙ length-append (values_of xs) e.1 in
    let long : length value ≡ length e.1 = omega (arith, at, ends, more) in
    let bounds : bounds_from 0 now ≡ bounds_from 0 rs =
    bounds_join 0 xs (r ∷ ys) ∙ ap (λ bs. bounds_from 0 xs ++ bs) (same_bounds (0 + length (values_of xs)) r e ys same_key long) ∙ sym (bounds_join 0 xs (e ∷ ys)) ∙ ap (bounds_from 0) (sym was) in
    let count : length now ≡ length rs = omega (arith, length-append xs (r ∷ ys), ap length was, length-append xs (e ∷ ys)) in
    let size : size_of now ≡ size_of rs = omega (arith, size_join xs (r ∷ ys), ap size_of was, size_join xs (e ∷ ys), length-append value (values_of ys), length-append e.1 (values_of ys), long) in
    let head = leaf_head (length rs) in
    let entries = flat_map bound_bytes (bounds_from 0 rs) in
    let rest = zeros (4080 - size_of rs) in
    let there = front_there bytes rs i leaf in
    let front = head ++ (entries ++ values_of xs) in
    let parts : bytes ≡ front ++ drop low bytes = sym (take-append-drop low bytes) ∙ ap (λ z. z ++ drop low bytes) (ap (λ n. take n bytes) at ∙ there.0) in
    let far : length front ≡ low = omega (arith, at, length-append head (entries ++ values_of xs), length-append entries (values_of xs), length-leaf_head (length rs), length-entries_from 0 rs) in
    let past : drop (end_in rs (i + 1)) bytes ≡ values_of ys ++ rest = (front_there bytes rs (i + 1) leaf).1 in
    let cleared : 4080 - size_of rs ≡ 4096 - length (leaf_head (length now) ++ (flat_map bound_bytes (bounds_from 0 now) ++ values_of now)) = omega (arith, size, length-append (leaf_head (length now)) (flat_map bound_bytes (bounds_from 0 now) ++ values_of now), length-leaf_head (length now), length-body now) in
    let laid : put_mid low k bytes new ≡ leaf_bytes now =
    then_inside front value bytes bytes new low k (low + k) parts far wrote refl
    ∙ ap (λ n. (front ++ value) ++ drop n bytes) (omega (arith, many, ends))
    ∙ ap (λ z. (front ++ value) ++ z) past
    ∙ regroup head entries (values_of xs) value (values_of ys) rest
    ∙ ap (λ v. (head ++ (entries ++ v)) ++ rest) (sym (values_join xs (r ∷ ys)))
    ∙ ap₂ (λ n bs. (leaf_head n ++ (flat_map bound_bytes bs ++ values_of now)) ++ rest) (sym count) (sym bounds)
    ∙ ap (λ n. (leaf_head (length now) ++ (flat_map bound_bytes (bounds_from 0 now) ++ values_of now)) ++ zeros n) cleared in
    let is = found.replaced r refl in
    record {
      spelled = laid ∙ ap leaf_bytes (sym is);
      some = omega (arith, ap length is, count, leaf.some);
      room = omega (arith, ap size_of is, size, leaf.room);
      fit = subst (AllByRecursion RecordFits) (sym is) (changed_fit rs (r ∷ []) i (i + 1) leaf.fit ((small, short), tt));
      rising = with_rises 0 r rs (omega arith) leaf.rising;
    }
  where
    regroup : (a b c d e f : List ℕ) → ((a ++ (b ++ c)) ++ d) ++ (e ++ f) ≡ (a ++ (b ++ (c ++ (d ++ e)))) ++ f
    regroup a b c d e f = simp append_assoc
