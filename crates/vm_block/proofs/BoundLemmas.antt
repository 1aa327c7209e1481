-- The entries of a leaf, as they are written and as they are read.
use Rattle.std.proofs.Common.{◌≡◌, ℕ, zero, suc, ◌+◌, ◌-◌, ◌*◌, ◌<◌, ◌≤◌, List, [], ◌∷◌, ◌++◌, length, take, drop, get_or, map, min, ◌↔◌, refl, sym, ap, ap₂, ◌∙◌, subst, arith, length-append, length-drop, length-take-le, append_assoc}
use Rattle.std.specs.List.{AllByRecursion, flat_map}
use Rattle.std.proofs.lemmas.List.{drop_at, drop-drop, get_or-drop, length-take, take_all}
use Rattle.std.proofs.lemmas.Grind.{flat_map-append}
use Rattle.std.proofs.Math.Seq.{take-add}
use Rattle.byteorder.specs.Endian.{little_bytes, little_number}
use Rattle.byteorder.specs.Numbers.{little_number-reads_back, little_from-lt}
use Rattle.vm_types.specs.Places.{RisesFrom, place, places}
use Rattle.vm_block.specs.Bounds.{BoundFits, IsNext, IsSound, bound_of, bounds_of, last_end, moved}
use Rattle.vm_block.specs.Leaf.{Record, key_bytes}
use Rattle.vm_block.specs.Leaf.{RecordFits, bound_bytes, bounds_from, values_of}
use Rattle.vm_block.specs.Row.{key_of}
use Rattle.vm_block.specs.declared.bounds.Bound.{Bound}
use Rattle.vm_block.proofs.Pieces.{spelled_number}
use Rattle.vm_block.proofs.RowLemmas.{key_read}

-- # Their bytes

pub length-bound : (b : Bound) → length (bound_bytes b) ≡ 12
unfolding bound_bytes
length-bound b = refl

-- what is written is read
pub bound_read : (b : Bound) (rest : List ℕ) → BoundFits b → bound_of (bound_bytes b ++ rest) ≡ b
unfolding bound_bytes
bound_read b rest fits =
    let key : key_of (bound_bytes b ++ rest) ≡ b.key = key_read b.key (little_bytes 2 b.end ++ rest) fits.0 in
    let end : little_number 2 (drop 10 (bound_bytes b ++ rest)) ≡ b.end = little_number-reads_back 2 b.end rest fits.1 in
    λ i. record { key = key i; end = end i }

pub bounds_read : (bs : List Bound) (rest : List ℕ) → AllByRecursion BoundFits bs → bounds_of (length bs) (flat_map bound_bytes bs ++ rest) ≡ bs
bounds_read [] rest fit = refl
bounds_read (b ∷ bs) rest fit =
    let whole : flat_map bound_bytes (b ∷ bs) ++ rest ≡ bound_bytes b ++ (flat_map bound_bytes bs ++ rest) = append_assoc (bound_bytes b) (flat_map bound_bytes bs) rest in
    ap (λ z. bound_of z ∷ bounds_of (length bs) (drop 12 z)) whole
    ∙ ap (λ x. x ∷ bounds_of (length bs) (drop 12 (bound_bytes b ++ (flat_map bound_bytes bs ++ rest)))) (bound_read b (flat_map bound_bytes bs ++ rest) fit.0)
    ∙ ap (λ z. b ∷ bounds_of (length bs) z) (drop_at (bound_bytes b) (flat_map bound_bytes bs ++ rest) 12 (length-bound b))
    ∙ ap (λ xs. b ∷ xs) (bounds_read bs rest fit.1)

pub small_drop : (i : ℕ) (xs : List ℕ) → ((j : ℕ) → get_or xs j 0 < 256) → (j : ℕ) → get_or (drop i xs) j 0 < 256
small_drop i xs small j = omega (arith, get_or-drop i xs j 0, small (i + j))

-- what is read is spelled there
bound_spelled : (row : List ℕ) → ((j : ℕ) → get_or row j 0 < 256) → 12 ≤ length row → take 12 row ≡ bound_bytes (bound_of row)
unfolding bound_bytes
bound_spelled row small room =
    let table : take 2 row ≡ little_bytes 2 (little_number 2 row) = spelled_number 2 row small (omega arith) in
    let number : take 8 (drop 2 row) ≡ little_bytes 8 (little_number 8 (drop 2 row)) = spelled_number 8 (drop 2 row) (small_drop 2 row small) (omega (arith, length-drop 2 row)) in
    let end : take 2 (drop 10 row) ≡ little_bytes 2 (little_number 2 (drop 10 row)) = spelled_number 2 (drop 10 row) (small_drop 10 row small) (omega (arith, length-drop 10 row)) in
    take-add 10 2 row
    ∙ ap (λ z. z ++ take 2 (drop 10 row)) (take-add 2 8 row ∙ ap₂ (λ x y. x ++ y) table number)
    ∙ ap (λ z. key_bytes (key_of row) ++ z) end

pub bounds_spelled : (n : ℕ) (bytes : List ℕ) → ((j : ℕ) → get_or bytes j 0 < 256) → 12 * n ≤ length bytes → take (12 * n) bytes ≡ flat_map bound_bytes (bounds_of n bytes)
bounds_spelled zero bytes small room = let none : 12 * zero ≡ 0 = omega arith in ap (λ n. take n bytes) none
bounds_spelled (suc n) bytes small room =
    let more : 12 * suc n ≡ 12 + 12 * n = omega arith in
    ap (λ m. take m bytes) more
    ∙ take-add 12 (12 * n) bytes
    ∙ ap₂ (λ x y. x ++ y) (bound_spelled bytes small (omega arith)) (bounds_spelled n (drop 12 bytes) (small_drop 12 bytes small) (omega (arith, length-drop 12 bytes)))

pub length-bounds_of : (n : ℕ) (bytes : List ℕ) → length (bounds_of n bytes) ≡ n
length-bounds_of zero bytes = refl
length-bounds_of (suc n) bytes = let rest = length-bounds_of n (drop 12 bytes) in omega (arith, rest)

-- the entry at a place
pub get_or-bounds_of : (n i : ℕ) (bytes : List ℕ) (d : Bound) → i < n → get_or (bounds_of n bytes) i d ≡ bound_of (drop (12 * i) bytes)
get_or-bounds_of zero i bytes d lt = absurd (omega arith)
get_or-bounds_of (suc n) zero bytes d lt = let none : 12 * zero ≡ 0 = omega arith in ap (λ m. bound_of (drop m bytes)) (sym none)
get_or-bounds_of (suc n) (suc i) bytes d lt =
    let far : 12 * i + 12 ≡ 12 * suc i = omega arith in
    get_or-bounds_of n i (drop 12 bytes) d (omega arith) ∙ ap bound_of (drop-drop (12 * i) 12 bytes ∙ ap (λ m. drop m bytes) (omega arith))

-- those from a place on
pub bounds_of-from : (n i : ℕ) (bytes : List ℕ) → i < n → bounds_of (n - i) (drop (12 * i) bytes) ≡ bound_of (drop (12 * i) bytes) ∷ bounds_of (n - (i + 1)) (drop (12 * (i + 1)) bytes)
bounds_of-from n i bytes lt =
    let step : n - i ≡ suc (n - (i + 1)) = omega arith in
    ap (λ m. bounds_of m (drop (12 * i) bytes)) step
    ∙ ap (λ z. bound_of (drop (12 * i) bytes) ∷ bounds_of (n - (i + 1)) z) (drop-drop 12 (12 * i) bytes ∙ ap (λ m. drop m bytes) (omega arith))

-- numbers that are read have their sizes
pub bounds_fit : (n : ℕ) (bytes : List ℕ) → ((j : ℕ) → get_or bytes j 0 < 256) → AllByRecursion BoundFits (bounds_of n bytes)
bounds_fit zero bytes small = tt
bounds_fit (suc n) bytes small =
    (((little_from-lt 0 2 bytes small, little_from-lt 0 8 (drop 2 bytes) (small_drop 2 bytes small)), little_from-lt 0 2 (drop 10 bytes) (small_drop 10 bytes small)), bounds_fit n (drop 12 bytes) (small_drop 12 bytes small))

-- entries whose values stay where they are
moved_none : (bs : List Bound) → AllByRecursion BoundFits bs → map (moved 0 0) bs ≡ bs
moved_none [] fit = refl
moved_none (b ∷ bs) fit =
    let end : min (b.end - 0 + 0) 65535 ≡ b.end = omega (arith, fit.0.1) in
    ap₂ (λ e xs. record { key = b.key; end = e } ∷ xs) end (moved_none bs fit.1)

pub bounds_kept : (n : ℕ) (bytes : List ℕ) → ((j : ℕ) → get_or bytes j 0 < 256) → 12 * n ≤ length bytes → take (12 * n) bytes ≡ flat_map bound_bytes (map (moved 0 0) (bounds_of n bytes))
bounds_kept n bytes small room = bounds_spelled n bytes small room ∙ ap (flat_map bound_bytes) (sym (moved_none (bounds_of n bytes) (bounds_fit n bytes small)))

-- # Those of records

pub length-bounds_from : (from : ℕ) (rs : List Record) → length (bounds_from from rs) ≡ length rs
length-bounds_from from [] = refl
length-bounds_from from (r ∷ rs) = let rest = length-bounds_from (from + length r.1) rs in omega (arith, rest)

pub bounds_join : (from : ℕ) (xs ys : List Record) → bounds_from from (xs ++ ys) ≡ bounds_from from xs ++ bounds_from (from + length (values_of xs)) ys
bounds_join from [] ys = ap (λ n. bounds_from n ys) (omega arith)
bounds_join from (x ∷ xs) ys =
    let b : Bound = record { key = x.0; end = from + length x.1 } in
    let far : from + length x.1 + length (values_of xs) ≡ from + length (x.1 ++ values_of xs) = omega (arith, length-append x.1 (values_of xs)) in
    ap (λ z. b ∷ z) (bounds_join (from + length x.1) xs ys ∙ ap (λ n. bounds_from (from + length x.1) xs ++ bounds_from n ys) far)

pub values_join : (xs ys : List Record) → values_of (xs ++ ys) ≡ values_of xs ++ values_of ys
values_join xs ys = flat_map-append (λ (r : Record). r.1) xs ys

pub bounds_from_fit : (from : ℕ) (rs : List Record) → AllByRecursion RecordFits rs → from + length (values_of rs) < 65536 → AllByRecursion BoundFits (bounds_from from rs)
bounds_from_fit from [] fit small = tt
bounds_from_fit from (r ∷ rs) fit small =
    let long = length-append r.1 (values_of rs) in
    ((fit.0.0, omega (arith, long, small)), bounds_from_fit (from + length r.1) rs fit.1 (omega (arith, long, small)))

-- the same values behind others
bounds_moved_by : (from to d : ℕ) (rs : List Record) → to + d + length (values_of rs) < 65536 → map (moved from to) (bounds_from (from + d) rs) ≡ bounds_from (to + d) rs
bounds_moved_by from to d [] small = refl
bounds_moved_by from to d (r ∷ rs) small =
    let long = length-append r.1 (values_of rs) in
    let n = length r.1 in
    let end : min (from + d + n - from + to) 65535 ≡ to + d + n = omega (arith, long, small) in
    let one : from + d + n ≡ from + (d + n) = omega arith in
    let two : to + (d + n) ≡ to + d + n = omega arith in
    ap₂ (λ e xs. record { key = r.0; end = e } ∷ xs) end
    (ap (λ m. map (moved from to) (bounds_from m rs)) one ∙ bounds_moved_by from to (d + n) rs (omega (arith, long, small)) ∙ ap (λ m. bounds_from m rs) two)

pub bounds_moved : (from to : ℕ) (rs : List Record) → to + length (values_of rs) < 65536 → map (moved from to) (bounds_from from rs) ≡ bounds_from to rs
bounds_moved from to rs small =
    let one : from ≡ from + 0 = omega arith in
    let two : to + 0 ≡ to = omega arith in
    ap (λ m. map (moved from to) (bounds_from m rs)) one ∙ bounds_moved_by from to 0 rs (omega (arith, small)) ∙ ap (λ m. bounds_from m rs) two

-- each may follow those before it
pub sound_of : (low from : ℕ) (rs : List Record) → AllByRecursion RecordFits rs → RisesFrom low (places rs) → IsSound low from (bounds_from from rs)
sound_of low from [] fit rises = tt
sound_of low from (r ∷ rs) fit rises = ((rises.0, omega arith, omega (arith, fit.0.1)), sound_of (place r.0 + 1) (from + length r.1) rs fit.1 rises.1)

pub last_of : (from : ℕ) (rs : List Record) → last_end from (bounds_from from rs) ≡ from + length (values_of rs)
last_of from [] = omega arith
last_of from (r ∷ rs) = omega (arith, last_of (from + length r.1) rs, length-append r.1 (values_of rs))

-- # The records of entries and values

abbrev pub records_from : ℕ → List Bound → List ℕ → List Record
records_from from [] vs = []
records_from from (b ∷ bs) vs = (b.key, take (b.end - from) vs) ∷ records_from b.end bs (drop (b.end - from) vs)

ends_rise : (low from : ℕ) (bs : List Bound) → IsSound low from bs → from ≤ last_end from bs
ends_rise low from [] sound = omega arith
ends_rise low from (b ∷ bs) sound = omega (arith, sound.0.1, ends_rise (place b.key + 1) b.end bs sound.1)

pub read_count : (from : ℕ) (bs : List Bound) (vs : List ℕ) → length (records_from from bs vs) ≡ length bs
read_count from [] vs = refl
read_count from (b ∷ bs) vs = let rest = read_count b.end bs (drop (b.end - from) vs) in omega (arith, rest)

pub read_bounds : (low from : ℕ) (bs : List Bound) (vs : List ℕ) → IsSound low from bs → last_end from bs ≤ from + length vs → bounds_from from (records_from from bs vs) ≡ bs
read_bounds low from [] vs sound room = refl
read_bounds low from (b ∷ bs) vs sound room =
    let n = b.end - from in
    let rises = ends_rise (place b.key + 1) b.end bs sound.1 in
    let long : from + length (take n vs) ≡ b.end = omega (arith, length-take-le n vs (omega (arith, sound.0.1, rises, room)), sound.0.1) in
    ap (λ e. record { key = b.key; end = e } ∷ bounds_from e (records_from b.end bs (drop n vs))) long
    ∙ ap (λ xs. b ∷ xs) (read_bounds (place b.key + 1) b.end bs (drop n vs) sound.1 (omega (arith, length-drop n vs, sound.0.1, rises, room)))

pub read_values : (low from : ℕ) (bs : List Bound) (vs : List ℕ) → IsSound low from bs → last_end from bs ≤ from + length vs → values_of (records_from from bs vs) ≡ take (last_end from bs - from) vs
read_values low from [] vs sound room = let none : 0 ≡ from - from = omega arith in ap (λ n. take n vs) none
read_values low from (b ∷ bs) vs sound room =
    let n = b.end - from in
    let rises = ends_rise (place b.key + 1) b.end bs sound.1 in
    let far : n + (last_end b.end bs - b.end) ≡ last_end b.end bs - from = omega (arith, sound.0.1, rises) in
    ap (λ xs. take n vs ++ xs) (read_values (place b.key + 1) b.end bs (drop n vs) sound.1 (omega (arith, length-drop n vs, sound.0.1, rises, room)))
    ∙ sym (take-add n (last_end b.end bs - b.end) vs)
    ∙ ap (λ m. take m vs) far

pub read_rising : (low from : ℕ) (bs : List Bound) (vs : List ℕ) → IsSound low from bs → RisesFrom low (places (records_from from bs vs))
read_rising low from [] vs sound = tt
read_rising low from (b ∷ bs) vs sound = (sound.0.0, read_rising (place b.key + 1) b.end bs (drop (b.end - from) vs) sound.1)

pub read_fit : (low from : ℕ) (bs : List Bound) (vs : List ℕ) → AllByRecursion BoundFits bs → IsSound low from bs → AllByRecursion RecordFits (records_from from bs vs)
read_fit low from [] vs fit sound = tt
read_fit low from (b ∷ bs) vs fit sound =
    ((fit.0.0, omega (arith, length-take (b.end - from) vs, sound.0.2)), read_fit (place b.key + 1) b.end bs (drop (b.end - from) vs) fit.1 sound.1)

-- # Read one after another

-- the entry in the part that was looked at
pub bound_part : (i k : ℕ) (bytes : List ℕ) (b : Bound) → k ≡ length bytes - 12 * i → bound_of (take k (drop (12 * i) bytes)) ≡ b → bound_of (drop (12 * i) bytes) ≡ b
bound_part i k bytes b far e = ap bound_of (sym (take_all k (drop (12 * i) bytes) (omega (arith, length-drop (12 * i) bytes)))) ∙ e

-- what is left to look at behind an entry that may follow
pub sound_step : (low from p e : ℕ) (b : Bound) (bs whole : List Bound) → whole ≡ b ∷ bs → IsNext low from b → p ≡ place b.key → e ≡ b.end → (IsSound low from whole ↔ IsSound (p + 1) e bs) × (last_end from whole ≡ last_end e bs)
sound_step low from p e b bs whole is next at to = (
  (
    λ s. subst (λ q. IsSound (q + 1) e bs) (sym at) (subst (λ q. IsSound (place b.key + 1) q bs) (sym to) (subst (IsSound low from) is s).1),
    λ t. subst (IsSound low from) (sym is) (next, subst (λ q. IsSound (place b.key + 1) q bs) to (subst (λ q. IsSound (q + 1) e bs) at t)),
  ),
  ap (last_end from) is ∙ ap (λ q. last_end q bs) (sym to),
)
