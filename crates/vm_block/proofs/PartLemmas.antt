-- Records as a part of a leaf has them, and a leaf written from such parts.
use Rattle.std.proofs.Common.{◌≡◌, ℕ, ◌+◌, ◌-◌, ◌*◌, ◌<◌, ◌≤◌, List, [], ◌++◌, length, take, drop, map, refl, sym, ap, ap₂, ◌∙◌, subst, arith, length-append, length-drop, length-take-le, append_assoc}
use Rattle.std.specs.List.{AllByRecursion, flat_map}
use Rattle.std.proofs.lemmas.List.{take_at, drop_at, drop-drop, append-nil, length-map}
use Rattle.std.proofs.lemmas.Grind.{flat_map-append}
use Rattle.vm_block.specs.Bounds.{bounds_of, moved}
use Rattle.vm_block.specs.Leaf.{Record}
use Rattle.vm_block.specs.Leaf.{HasRecords, RecordFits, bound_bytes, bounds_from, leaf_bytes, leaf_head, size_of, values_of}
use Rattle.vm_block.specs.Padding.{zeros, padded}
use Rattle.vm_block.specs.Parts.{IsPart, part_size}
use Rattle.vm_block.specs.declared.parts.Part.{Part}
use Rattle.vm_block.proofs.BoundLemmas.{bounds_from_fit, bounds_join, bounds_moved, bounds_read, length-bounds_from, length-bounds_of, values_join}
use Rattle.vm_block.proofs.EachLemmas.{each_back, each_front}
use Rattle.vm_block.proofs.LeafLemmas.{entries_there, length-entries, length-entries_from}
use Rattle.vm_block.proofs.LookLemmas.{cut}
use Rattle.vm_block.proofs.Pieces.{then_writes, then_zeros}
use borrow.Rule.Slice.PartMut.{put_mid, mid_of}

-- # A part of a leaf

-- the entries from one index to another
pub bounds_part : (bytes : List ℕ) (rs : List Record) (a b n : ℕ) → HasRecords bytes rs → a ≤ b → b ≤ length rs → n ≡ 12 * (b - a) → bounds_of (b - a) (take n (drop (16 + 12 * a) bytes)) ≡ bounds_from (length (values_of (take a rs))) (take (b - a) (drop a rs))
bounds_part bytes rs a b n leaf le within is =
    let xs = take a rs in
    let ys = take (b - a) (drop a rs) in
    let zs = drop b rs in
    let from = length (values_of xs) in
    let rest = values_of rs ++ zeros (4080 - size_of rs) in
    let e = λ (m : ℕ) (ws : List Record). flat_map bound_bytes (bounds_from m ws) in
    let parts = cut rs a b le in
    let far : 0 + from ≡ from = omega arith in
    let all : e 0 rs ≡ e 0 xs ++ (e from ys ++ e (from + length (values_of ys)) zs) =
    ap (e 0) parts.is
    ∙ ap (flat_map bound_bytes) (bounds_join 0 xs (ys ++ zs) ∙ ap (λ m. bounds_from 0 xs ++ bounds_from m (ys ++ zs)) far ∙ ap (λ bs. bounds_from 0 xs ++ bs) (bounds_join from ys zs))
    ∙ flat_map-append bound_bytes (bounds_from 0 xs) (bounds_from from ys ++ bounds_from (from + length (values_of ys)) zs)
    ∙ ap (λ z. e 0 xs ++ z) (flat_map-append bound_bytes (bounds_from from ys) (bounds_from (from + length (values_of ys)) zs)) in
    let back = e (from + length (values_of ys)) zs ++ rest in
    let there : drop (16 + 12 * a) bytes ≡ e from ys ++ back =
    sym (drop-drop (12 * a) 16 bytes)
    ∙ ap (drop (12 * a)) (entries_there bytes rs leaf ∙ ap (λ z. z ++ rest) all ∙ append_assoc (e 0 xs) (e from ys ++ e (from + length (values_of ys)) zs) rest)
    ∙ drop_at (e 0 xs) ((e from ys ++ e (from + length (values_of ys)) zs) ++ rest) (12 * a) (length-entries_from 0 xs ∙ ap (λ m. 12 * m) (length-take-le a rs (omega (arith, le, within))))
    ∙ append_assoc (e from ys) (e (from + length (values_of ys)) zs) rest in
    let many : length ys ≡ b - a = length-take-le (b - a) (drop a rs) (omega (arith, length-drop a rs, within)) in
    let fit = each_front RecordFits ys zs (each_back RecordFits xs (ys ++ zs) (subst (AllByRecursion RecordFits) parts.is leaf.fit)) in
    let sum = ap length (ap values_of parts.is ∙ values_join xs (ys ++ zs) ∙ ap (λ z. values_of xs ++ z) (values_join ys zs)) ∙ length-append (values_of xs) (values_of ys ++ values_of zs) in
    let small : from + length (values_of ys) < 65536 = omega (arith, leaf.room, sum, length-append (values_of ys) (values_of zs)) in
    ap (bounds_of (b - a)) (ap (take n) there ∙ take_at (e from ys) back n (length-entries_from from ys ∙ omega (arith, many, is)) ∙ sym (append-nil (e from ys)))
    ∙ ap (λ m. bounds_of m (e from ys ++ [])) (sym many ∙ sym (length-bounds_from from ys))
    ∙ bounds_read (bounds_from from ys) [] (bounds_from_fit from ys fit small)

-- # A leaf of three parts

-- the entries of a part, behind so many bytes of values
part_moved : (part : Part) (rs : List Record) (to : ℕ) → IsPart part rs → to + length (values_of rs) < 65536 → map (moved part.before to) (bounds_of part.count part.bounds.now) ≡ bounds_from to rs
part_moved part rs to is small = ap (map (moved part.before to)) is.bounds ∙ bounds_moved part.before to rs small

pub length-moved : (part : Part) (to : ℕ) → length (flat_map bound_bytes (map (moved part.before to) (bounds_of part.count part.bounds.now))) ≡ 12 * part.count
length-moved part to =
    let bs = bounds_of part.count part.bounds.now in
    length-entries (map (moved part.before to) bs) ∙ ap (λ n. 12 * n) (length-map bs (moved part.before to) ∙ length-bounds_of part.count part.bounds.now)

pub entries_joined : (front middle back : Part) (xs ys zs : List Record) (next last : ℕ) → IsPart front xs → IsPart middle ys → IsPart back zs → next ≡ length front.values.now → last ≡ next + length middle.values.now → last + length back.values.now < 65536
    → (flat_map bound_bytes (map (moved front.before 0) (bounds_of front.count front.bounds.now)) ++ flat_map bound_bytes (map (moved middle.before next) (bounds_of middle.count middle.bounds.now))) ++ flat_map bound_bytes (map (moved back.before last) (bounds_of back.count back.bounds.now)) ≡ flat_map bound_bytes (bounds_from 0 (xs ++ (ys ++ zs)))
entries_joined front middle back xs ys zs next last fx fy fz en el small =
    let vx = ap length fx.values in
    let vy = ap length fy.values in
    let vz = ap length fz.values in
    let one : next ≡ 0 + length (values_of xs) = omega (arith, en, vx) in
    let two : last ≡ next + length (values_of ys) = omega (arith, el, vy) in
    let e = flat_map bound_bytes in
    let bx = bounds_from 0 xs in
    let by = bounds_from next ys in
    let bz = bounds_from last zs in
    let all : bounds_from 0 (xs ++ (ys ++ zs)) ≡ bx ++ (by ++ bz) =
    bounds_join 0 xs (ys ++ zs) ∙ ap (λ m. bx ++ bounds_from m (ys ++ zs)) (sym one) ∙ ap (λ bs. bx ++ bs) (bounds_join next ys zs ∙ ap (λ m. by ++ bounds_from m zs) (sym two)) in
    ap₂ (λ a b. (e a ++ e b) ++ e (map (moved back.before last) (bounds_of back.count back.bounds.now))) (part_moved front xs 0 fx (omega (arith, vx, en, el, small))) (part_moved middle ys next fy (omega (arith, vy, en, el, small)))
    ∙ ap (λ c. (e bx ++ e by) ++ e c) (part_moved back zs last fz (omega (arith, vz, en, el, small)))
    ∙ append_assoc (e bx) (e by) (e bz)
    ∙ ap (λ z. e bx ++ z) (sym (flat_map-append bound_bytes by bz))
    ∙ sym (flat_map-append bound_bytes bx (by ++ bz))
    ∙ ap e (sym all)

pub values_joined : (front middle back : Part) (xs ys zs : List Record) → IsPart front xs → IsPart middle ys → IsPart back zs → (front.values.now ++ middle.values.now) ++ back.values.now ≡ values_of (xs ++ (ys ++ zs))
values_joined front middle back xs ys zs fx fy fz =
    append_assoc front.values.now middle.values.now back.values.now
    ∙ ap₂ (λ a b. a ++ (b ++ back.values.now)) fx.values fy.values
    ∙ ap (λ c. values_of xs ++ (values_of ys ++ c)) fz.values
    ∙ sym (values_join xs (ys ++ zs) ∙ ap (λ z. values_of xs ++ z) (values_join ys zs))

pub count_joined : (front middle back : Part) (xs ys zs : List Record) → IsPart front xs → IsPart middle ys → IsPart back zs → length (xs ++ (ys ++ zs)) ≡ front.count + middle.count + back.count
count_joined front middle back xs ys zs fx fy fz = omega (arith, length-append xs (ys ++ zs), length-append ys zs, fx.many, fy.many, fz.many)

-- a head, two pieces behind it, and zero bytes behind them
pub three_written : (head body more old m1 w1 w2 w3 : List ℕ) (h n m : ℕ) → length old ≡ 4096 → length head ≡ h → length body ≡ n → length more ≡ m → h + n + m ≤ 4096
    → m1 ≡ head ++ drop h old
    → w1 ≡ body ++ drop n (mid_of h (4096 - h) m1)
    → w2 ≡ more ++ drop m (mid_of (h + n) (4096 - (h + n)) (put_mid h (4096 - h) m1 w1))
    → w3 ≡ zeros (length (mid_of (h + n + m) (4096 - (h + n + m)) (put_mid (h + n) (4096 - (h + n)) (put_mid h (4096 - h) m1 w1) w2)))
    → put_mid (h + n + m) (4096 - (h + n + m)) (put_mid (h + n) (4096 - (h + n)) (put_mid h (4096 - h) m1 w1) w2) w3 ≡ padded 4096 ((head ++ body) ++ more)
three_written head body more old m1 w1 w2 w3 h n m whole lh lb lm room front wrote1 wrote2 cleared =
    let whole1 : length m1 ≡ 4096 = omega (arith, ap length front, length-append head (drop h old), length-drop h old, whole, lh, room) in
    let one : put_mid h (4096 - h) m1 w1 ≡ (head ++ body) ++ drop (h + n) old = then_writes head body old m1 w1 h (4096 - h) n (h + n) front lh (omega (arith, whole1)) wrote1 refl in
    let lhb : length (head ++ body) ≡ h + n = omega (arith, length-append head body, lh, lb) in
    let whole2 : length (put_mid h (4096 - h) m1 w1) ≡ 4096 = omega (arith, ap length one, length-append (head ++ body) (drop (h + n) old), length-drop (h + n) old, whole, lhb, room) in
    let two : put_mid (h + n) (4096 - (h + n)) (put_mid h (4096 - h) m1 w1) w2 ≡ ((head ++ body) ++ more) ++ drop (h + n + m) old = then_writes (head ++ body) more old (put_mid h (4096 - h) m1 w1) w2 (h + n) (4096 - (h + n)) m (h + n + m) one lhb (omega (arith, whole2)) wrote2 refl in
    let lhbm : length ((head ++ body) ++ more) ≡ h + n + m = omega (arith, length-append (head ++ body) more, lhb, lm) in
    let whole3 : length (put_mid (h + n) (4096 - (h + n)) (put_mid h (4096 - h) m1 w1) w2) ≡ 4096 = omega (arith, ap length two, length-append ((head ++ body) ++ more) (drop (h + n + m) old), length-drop (h + n + m) old, whole, lhbm, room) in
    then_zeros ((head ++ body) ++ more) old (put_mid (h + n) (4096 - (h + n)) (put_mid h (4096 - h) m1 w1) w2) w3 (h + n + m) (4096 - (h + n + m)) 4096 two lhbm whole room (omega (arith, whole3)) cleared

-- the head, the entries and the values of records are their leaf
pub leaf_joined : (n : ℕ) (rs : List Record) (vs : List ℕ) → length rs ≡ n → vs ≡ values_of rs → padded 4096 ((leaf_head n ++ flat_map bound_bytes (bounds_from 0 rs)) ++ vs) ≡ leaf_bytes rs
unfolding leaf_bytes
leaf_joined n rs vs many is =
    let e = flat_map bound_bytes (bounds_from 0 rs) in
    ap (λ z. padded 4096 z) (append_assoc (leaf_head n) e vs ∙ ap₂ (λ m v. leaf_head m ++ (e ++ v)) (sym many) is)
