-- A leaf whose values have any length: its parts, and that bytes are one.
use Rattle.std.proofs.Common.{◌≡◌, ℕ, ◌+◌, ◌-◌, ◌*◌, ◌<◌, ◌≤◌, List, [], ◌∷◌, ◌++◌, length, take, drop, get_or, refl, sym, ap, ap₂, ◌∙◌, subst, arith, length-append, length-drop, length-take-le, append_assoc, take-append-drop}
use Rattle.std.specs.List.{flat_map}
use Rattle.std.proofs.lemmas.List.{take_at, drop_at, drop-drop, take_all}
use Rattle.std.proofs.Math.Seq.{take-add}
use Rattle.byteorder.specs.Endian.{little_bytes, little_number}
use Rattle.byteorder.specs.Numbers.{little_number-reads_back}
use Rattle.vm_block.specs.Bounds.{IsSound, bounds_of, last_end}
use Rattle.vm_block.specs.Leaf.{Record}
use Rattle.vm_block.specs.Leaf.{HasRecords, IsLeafHead, bound_bytes, bounds_from, leaf_bytes, leaf_head, size_of, values_of}
use Rattle.vm_block.specs.Padding.{zeros}
use Rattle.vm_block.specs.declared.bounds.Bound.{Bound}
use Rattle.vm_block.proofs.BoundLemmas.{bounds_fit, bounds_from_fit, bounds_read, bounds_spelled, last_of, length-bound, length-bounds_from, length-bounds_of, read_bounds, read_count, read_fit, read_rising, read_values, records_from, small_drop, sound_of}
use Rattle.vm_block.proofs.Pieces.{laid, length-padded}

-- # Lengths

pub length-leaf_head : (n : ℕ) → length (leaf_head n) ≡ 16
unfolding leaf_head
length-leaf_head n = refl

pub length-entries : (bs : List Bound) → length (flat_map bound_bytes bs) ≡ 12 * length bs
length-entries [] = omega arith
length-entries (b ∷ bs) = omega (arith, length-append (bound_bytes b) (flat_map bound_bytes bs), length-bound b, length-entries bs)

pub length-entries_from : (from : ℕ) (rs : List Record) → length (flat_map bound_bytes (bounds_from from rs)) ≡ 12 * length rs
length-entries_from from rs = length-entries (bounds_from from rs) ∙ ap (λ n. 12 * n) (length-bounds_from from rs)

-- # The parts of a leaf

-- the entries and the values
abbrev pub body_of : List Record → List ℕ
body_of rs = flat_map bound_bytes (bounds_from 0 rs) ++ values_of rs

pub length-body : (rs : List Record) → length (body_of rs) ≡ size_of rs
length-body rs = omega (arith, length-append (flat_map bound_bytes (bounds_from 0 rs)) (values_of rs), length-entries_from 0 rs)

pub length-leaf : (bytes : List ℕ) (rs : List Record) → HasRecords bytes rs → length bytes ≡ 4096
unfolding leaf_bytes
length-leaf bytes rs leaf =
    let front = leaf_head (length rs) ++ body_of rs in
    ap length leaf.spelled ∙ length-padded 4096 front (omega (arith, length-append (leaf_head (length rs)) (body_of rs), length-leaf_head (length rs), length-body rs, leaf.room))

pub leaf_whole : (bytes : List ℕ) (rs : List Record) → HasRecords bytes rs → bytes ≡ leaf_head (length rs) ++ (flat_map bound_bytes (bounds_from 0 rs) ++ (values_of rs ++ zeros (4080 - size_of rs)))
unfolding leaf_bytes
leaf_whole bytes rs leaf =
    let head = leaf_head (length rs) in
    let entries = flat_map bound_bytes (bounds_from 0 rs) in
    let far : 4096 - length (head ++ body_of rs) ≡ 4080 - size_of rs = omega (arith, length-append head (body_of rs), length-leaf_head (length rs), length-body rs) in
    leaf.spelled
    ∙ ap (λ n. (head ++ body_of rs) ++ zeros n) far
    ∙ append_assoc head (body_of rs) (zeros (4080 - size_of rs))
    ∙ ap (λ z. head ++ z) (append_assoc entries (values_of rs) (zeros (4080 - size_of rs)))

-- what stands behind the head, behind the entries, and behind the values
pub entries_there : (bytes : List ℕ) (rs : List Record) → HasRecords bytes rs → drop 16 bytes ≡ flat_map bound_bytes (bounds_from 0 rs) ++ (values_of rs ++ zeros (4080 - size_of rs))
entries_there bytes rs leaf = ap (drop 16) (leaf_whole bytes rs leaf) ∙ drop_at (leaf_head (length rs)) _ 16 (length-leaf_head (length rs))

pub values_there : (bytes : List ℕ) (rs : List Record) → HasRecords bytes rs → drop (16 + 12 * length rs) bytes ≡ values_of rs ++ zeros (4080 - size_of rs)
values_there bytes rs leaf =
    let n = 12 * length rs in
    let far : 16 + n ≡ n + 16 = omega arith in
    sym (drop-drop n 16 bytes) ∙ ap (drop n) (entries_there bytes rs leaf) ∙ drop_at (flat_map bound_bytes (bounds_from 0 rs)) _ n (length-entries_from 0 rs)

pub zeros_there : (bytes : List ℕ) (rs : List Record) → HasRecords bytes rs → drop (16 + 12 * length rs + length (values_of rs)) bytes ≡ zeros (4080 - size_of rs)
zeros_there bytes rs leaf =
    let m = length (values_of rs) in
    sym (drop-drop m (16 + 12 * length rs) bytes) ∙ ap (drop m) (values_there bytes rs leaf) ∙ drop_at (values_of rs) (zeros (4080 - size_of rs)) m refl

pub leaf_headed : (bytes : List ℕ) (rs : List Record) → HasRecords bytes rs → IsLeafHead bytes (length rs)
leaf_headed bytes rs leaf = record {
  begins = ap (take 16) (leaf_whole bytes rs leaf) ∙ take_at (leaf_head (length rs)) _ 16 (length-leaf_head (length rs));
  some = leaf.some;
  few = omega (arith, leaf.room);
}

-- the entries that are read in a leaf
pub leaf_bounds : (bytes : List ℕ) (rs : List Record) → HasRecords bytes rs → bounds_of (length rs) (drop 16 bytes) ≡ bounds_from 0 rs
leaf_bounds bytes rs leaf =
    ap (bounds_of (length rs)) (entries_there bytes rs leaf)
    ∙ ap (λ n. bounds_of n (flat_map bound_bytes (bounds_from 0 rs) ++ (values_of rs ++ zeros (4080 - size_of rs)))) (sym (length-bounds_from 0 rs))
    ∙ bounds_read (bounds_from 0 rs) (values_of rs ++ zeros (4080 - size_of rs)) (bounds_from_fit 0 rs leaf.fit (omega (arith, leaf.room)))

-- # Its head

-- the count that a head has at byte 8
pub head_counted : (bytes : List ℕ) (n m k : ℕ) → length bytes ≤ 8 + k → IsLeafHead bytes n → m ≡ little_number 4 (take k (drop 8 bytes)) → m ≡ n
unfolding leaf_head
head_counted bytes n m k enough head is =
    let whole : bytes ≡ leaf_head n ++ drop 16 bytes = sym (take-append-drop 16 bytes) ∙ ap (λ z. z ++ drop 16 bytes) head.begins in
    let there : drop 8 bytes ≡ little_bytes 4 n ++ (little_bytes 4 0 ++ drop 16 bytes) = ap (drop 8) whole in
    is ∙ ap (little_number 4) (take_all k (drop 8 bytes) (omega (arith, length-drop 8 bytes)) ∙ there)
    ∙ little_number-reads_back 4 n (little_bytes 4 0 ++ drop 16 bytes) (omega (arith, head.few))

-- # That bytes are a leaf

pub leaf_told : (bytes : List ℕ) (n end : ℕ) → length bytes ≡ 4096 → ((j : ℕ) → get_or bytes j 0 < 256) → IsLeafHead bytes n → IsSound 0 0 (bounds_of n (drop 16 bytes)) → end ≡ last_end 0 (bounds_of n (drop 16 bytes)) → 16 + 12 * n + end ≤ 4096
    → drop (16 + 12 * n + end) bytes ≡ zeros (length bytes - (16 + 12 * n + end)) → HasRecords bytes (records_from 0 (bounds_of n (drop 16 bytes)) (drop (16 + 12 * n) bytes))
unfolding leaf_bytes
leaf_told bytes n end whole small head sound last room back =
    let bs = bounds_of n (drop 16 bytes) in
    let vs = drop (16 + 12 * n) bytes in
    let rs = records_from 0 bs vs in
    let many : length rs ≡ n = read_count 0 bs vs ∙ length-bounds_of n (drop 16 bytes) in
    let fits : last_end 0 bs ≤ 0 + length vs = omega (arith, last, room, whole, length-drop (16 + 12 * n) bytes) in
    let entries : flat_map bound_bytes bs ≡ flat_map bound_bytes (bounds_from 0 rs) = ap (flat_map bound_bytes) (sym (read_bounds 0 0 bs vs sound fits)) in
    let none : last_end 0 bs - 0 ≡ end = omega (arith, last) in
    let values : take end vs ≡ values_of rs = ap (λ m. take m vs) (sym none) ∙ sym (read_values 0 0 bs vs sound fits) in
    let spelled : take (12 * n) (drop 16 bytes) ≡ flat_map bound_bytes bs = bounds_spelled n (drop 16 bytes) (small_drop 16 bytes small) (omega (arith, length-drop 16 bytes, whole, room)) in
    let body : take (12 * n + end) (drop 16 bytes) ≡ body_of rs =
    take-add (12 * n) end (drop 16 bytes) ∙ ap₂ (λ x y. x ++ y) (spelled ∙ entries) (ap (take end) (drop-drop (12 * n) 16 bytes) ∙ values) in
    let long : length (values_of rs) ≡ end = ap length (sym values) ∙ length-take-le end vs (omega (arith, fits, last)) in
    let size : size_of rs ≡ 12 * n + end = omega (arith, many, long) in
    let cleared : drop (16 + (12 * n + end)) bytes ≡ zeros (length (drop (16 + (12 * n + end)) bytes)) = ap (λ m. drop m bytes) (omega arith) ∙ back ∙ ap zeros (omega (arith, length-drop (16 + (12 * n + end)) bytes)) in
    record {
      spelled = laid bytes (leaf_head (length rs)) (body_of rs) 4096 16 (12 * n + end) whole (head.begins ∙ ap leaf_head (sym many)) (length-leaf_head (length rs)) body (length-body rs ∙ size) cleared;
      some = omega (arith, head.some, many);
      room = omega (arith, size, room);
      fit = read_fit 0 0 bs vs (bounds_fit n (drop 16 bytes) (small_drop 16 bytes small)) sound;
      rising = read_rising 0 0 bs vs sound;
    }

-- its entries are sound, and its last value ends where the values end
pub leaf_sound : (bytes : List ℕ) (rs : List Record) (n : ℕ) → HasRecords bytes rs → n ≡ length rs → IsSound 0 0 (bounds_of n (drop 16 bytes)) × (last_end 0 (bounds_of n (drop 16 bytes)) ≡ length (values_of rs))
leaf_sound bytes rs n leaf many =
    let is : bounds_of n (drop 16 bytes) ≡ bounds_from 0 rs = ap (λ m. bounds_of m (drop 16 bytes)) many ∙ leaf_bounds bytes rs leaf in
    (subst (IsSound 0 0) (sym is) (sound_of 0 0 rs leaf.fit leaf.rising), ap (last_end 0) is ∙ last_of 0 rs ∙ omega arith)
