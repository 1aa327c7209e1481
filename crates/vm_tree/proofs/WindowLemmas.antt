-- What a window gives of joined records, and of records before and behind its part.
use Rattle.std.proofs.Common.{◌≡◌, inl, inr, ℕ, zero, suc, ◌+◌, ◌-◌, ◌<◌, ◌≤◌, ◌==◌, ◌&&◌, ◌||◌, nat_le, not, Bool, true, false, cond, List, [], ◌∷◌, ◌++◌, length, filter, take, Option, None, Some, is_some, refl, sym, ap, ◌∙◌, arith}
use Rattle.std.specs.List.{list_any}
use Rattle.std.proofs.lemmas.Bool.{and_cases, and_from, and_parts, leb-true, leb-false, le-leb, eq-eqb}
use Rattle.std.proofs.lemmas.List.{take_all}
use Rattle.vm_types.specs.declared.key.Key.{Key}
use Rattle.vm_types.specs.Map.{Map}
use Rattle.vm_types.specs.Parts.{from, is_within, part}
use Rattle.vm_types.specs.Places.{FitKeys, KeyFits, RisesFrom, place, places, value_at}
use Rattle.vm_types.proofs.PartLemmas.{part-append, part_before, part_behind, part_in, part_out}
use Rattle.vm_block.specs.Leaf.{BeginsWith, Record}
use Rattle.vm_block.proofs.EachLemmas.{each_so}
use Rattle.vm_tree.specs.Over.{is_between, stands_at}
use Rattle.vm_tree.specs.Spent.{AllPass}
use Rattle.vm_tree.specs.Windows.{first_ones, given_of, gives, is_full, less}
use Rattle.vm_tree.specs.declared.window.Window.{Window}
use Rattle.vm_tree.proofs.Rising.{Above, Below, below_more, rises_above}

-- # The first ones

take_parts : (k : ℕ) (xs ys : List Record) → take k (xs ++ ys) ≡ take k xs ++ take (k - length (take k xs)) ys
take_parts zero xs ys = refl
take_parts (suc k) [] ys = let same : suc k ≡ suc k - 0 = omega arith in ap (λ n. take n ys) same
take_parts (suc k) (x ∷ xs) ys =
    let same : k - length (take k xs) ≡ suc k - suc (length (take k xs)) = omega arith in
    ap (λ (zs : List Record). x ∷ zs) (take_parts k xs ys) ∙ ap (λ n. x ∷ (take k xs ++ take n ys)) same

first_none : (most : Option ℕ) → first_ones most [] ≡ []
first_none None = refl
first_none (Some most) = take_all most [] (omega arith)

-- those of joined records, behind so many
first_parts : (most : Option ℕ) (n : ℕ) (xs ys : List Record)
    → first_ones (less most n) (xs ++ ys) ≡ first_ones (less most n) xs ++ first_ones (less most (n + length (first_ones (less most n) xs))) ys
first_parts None n xs ys = refl
first_parts (Some most) n xs ys =
    let k = most - n in
    let same : k - length (take k xs) ≡ most - (n + length (take k xs)) = omega arith in
    take_parts k xs ys ∙ ap (λ j. take k xs ++ take j ys) same

-- where all are given, none
first_full : (most : Option ℕ) (n : ℕ) (xs : List Record) → is_full most n ≡ true → first_ones (less most n) xs ≡ []
first_full None n xs full = cc
first_full (Some most) n xs full =
    let none : most - n ≡ 0 = omega (arith, leb-true most n full) in
    ap (λ k. take k xs) none

-- and else the first one, too
first_more : (most : Option ℕ) (n : ℕ) (r : Record) (xs : List Record) → is_full most n ≡ false → first_ones (less most n) (r ∷ xs) ≡ r ∷ first_ones (less most (n + 1)) xs
first_more None n r xs more = refl
first_more (Some most) n r xs more =
    let some : most - n ≡ suc (most - (n + 1)) = omega (arith, leb-false most n more) in
    ap (λ k. take k (r ∷ xs)) some

-- # What a window gives

module _ (w : Window) where
  given_none : (n : ℕ) → given_of w n [] ≡ []
  given_none n = first_none (less w.most n)

  pub given_nil : (n : ℕ) (rs : List Record) → rs ≡ [] → given_of w n rs ≡ []
  given_nil n rs none = ap (given_of w n) none ∙ given_none n

  pub given_parts : (n : ℕ) (xs ys : List Record) → given_of w n (xs ++ ys) ≡ given_of w n xs ++ given_of w (n + length (given_of w n xs)) ys
  given_parts n xs ys =
      ap (first_ones (less w.most n)) (part-append (place w.low) (place w.high) xs ys)
      ∙ first_parts w.most n (part (place w.low) (place w.high) xs) (part (place w.low) (place w.high) ys)

  pub given_full : (n : ℕ) (xs : List Record) → is_full w.most n ≡ true → given_of w n xs ≡ []
  given_full n xs full = first_full w.most n (part (place w.low) (place w.high) xs) full

  -- a record that is given, before others
  pub given_more : (n : ℕ) (r : Record) (xs : List Record) → gives w r.0 n ≡ true → given_of w n (r ∷ xs) ≡ r ∷ given_of w (n + 1) xs
  given_more n r xs is =
      let both = and_parts (not (is_full w.most n)) (is_within (place w.low) (place w.high) r.0) is in
      ap (first_ones (less w.most n)) (part_in (place w.low) (place w.high) r xs both.1)
      ∙ first_more w.most n r (part (place w.low) (place w.high) xs) (not_full (is_full w.most n) both.0)
    where
      not_full : (b : Bool) → not b ≡ true → b ≡ false
      not_full true h = cc
      not_full false h = refl

  -- and one that is not
  pub given_less : (n : ℕ) (r : Record) (xs : List Record) → gives w r.0 n ≡ false → given_of w n (r ∷ xs) ≡ given_of w n xs
  given_less n r xs is =
      elim (and_cases (not (is_full w.most n)) (is_within (place w.low) (place w.high) r.0) is) [
        | inl full ↦ given_full n (r ∷ xs) (all (is_full w.most n) full) ∙ sym (given_full n xs (all (is_full w.most n) full))
        | inr out ↦ ap (first_ones (less w.most n)) (part_out (place w.low) (place w.high) r xs out)
      ]
    where
      all : (b : Bool) → not b ≡ false → b ≡ true
      all true h = refl
      all false h = cc

  -- of records before the part, and of records behind it, none is given
  pub given_before : (n p : ℕ) (xs : List Record) → Below p xs → p ≤ place w.low → given_of w n xs ≡ []
  given_before n p xs below le =
      ap (first_ones (less w.most n)) (part_before (place w.low) (place w.high) xs (below_more p (place w.low) xs le below)) ∙ first_none (less w.most n)

  pub given_behind : (n : ℕ) (key : Key) (xs : List Record) → BeginsWith key xs → RisesFrom 0 (places xs) → place w.high < place key → given_of w n xs ≡ []
  given_behind n key xs begins rises lt =
      ap (first_ones (less w.most n)) (part_behind (place w.low) (place w.high) xs (all xs begins rises)) ∙ first_none (less w.most n)
    where
      all : (ys : List Record) → BeginsWith key ys → RisesFrom 0 (places ys) → Above (place w.high) ys
      all [] begin rise = tt
      all (y ∷ ys) begin rise =
          let here : place w.high < place y.0 = omega (arith, lt, ap place begin) in
          (here, rises_above (place w.high) (place y.0 + 1) ys (omega (arith, here)) rise.1)

  -- where records begin in the part, the first is given
  pub given_first : (n : ℕ) (key : Key) (xs : List Record) → BeginsWith key xs → is_full w.most n ≡ false → place w.low ≤ place key → place key ≤ place w.high
      → (r : Record) × (rest : List Record) × (given_of w n xs ≡ r ∷ rest) × (r.0 ≡ key) × ((test : Record → Bool) → test r ≡ true → list_any test xs ≡ true)
  given_first n key [] begins more least most = absurd begins
  given_first n key (x ∷ xs) begins more least most =
      let here : is_within (place w.low) (place w.high) x.0 ≡ true =
      and_from (nat_le (place w.low) (place x.0)) (nat_le (place x.0) (place w.high)) (le-leb (place w.low) (place x.0) (omega (arith, least, ap place begins))) (le-leb (place x.0) (place w.high) (omega (arith, most, ap place begins))) in
      (x, given_of w (n + 1) xs, given_more n x xs (and_from (not (is_full w.most n)) (is_within (place w.low) (place w.high) x.0) (ap not more) here), begins, λ test is. any_first (test x) (list_any test xs) is)
    where
      any_first : (a b : Bool) → a ≡ true → (a || b) ≡ true
      any_first true b is = refl
      any_first false b is = cc

-- # Tests that what is given passes

pub pass_front : (test : ℕ → Bool) (xs ys : List Record) → AllPass test (xs ++ ys) → AllPass test xs
pass_front test [] ys all = tt
pass_front test (x ∷ xs) ys all = (all.0, pass_front test xs ys all.1)

pub pass_back : (test : ℕ → Bool) (xs ys : List Record) → AllPass test (xs ++ ys) → AllPass test ys
pass_back test [] ys all = all
pass_back test (x ∷ xs) ys all = pass_back test xs ys all.1

-- the records of a part stand in it
pub part_passes : (low high : ℕ) (m : Map) → AllPass (is_between low high) (part low high m)
part_passes low high [] = tt
part_passes low high (r ∷ m) =
    elim (is_within low high r.0) as (λ t. is_within low high r.0 ≡ t → AllPass (is_between low high) (cond t (r ∷ part low high m) (part low high m))) [
      | true ↦ λ is. (is, part_passes low high m)
      | false ↦ λ is. part_passes low high m
    ] refl

-- and records stand where they stand
pub stands_passes : (m : Map) → AllPass (stands_at m) m
stands_passes [] = tt
stands_passes (r ∷ m) = (
  ap (λ t. is_some (cond t (Some r.1) (value_at (place r.0) m))) (eq-eqb (place r.0) (place r.0) refl),
  each_so (λ (s : Record). stands_at m (place s.0) ≡ true) (λ (s : Record). stands_at (r ∷ m) (place s.0) ≡ true) (λ s is. stands_on r m (place s.0) is) m (stands_passes m),
)
  where
    stands_on : (r : Record) (m : Map) (p : ℕ) → stands_at m p ≡ true → stands_at (r ∷ m) p ≡ true
    stands_on r m p is =
        elim (place r.0 == p) as (λ t. is_some (cond t (Some r.1) (value_at p m)) ≡ true) [
          | true ↦ refl
          | false ↦ is
        ]

-- # The whole map, and what stands from a key on

-- a key stands below all that a number of 80 bits can tell
place_small : (key : Key) → KeyFits key → place key ≤ place (record { table = 65535; number = 18446744073709551615 })
place_small key fits =
    let table : key.table < 65536 = fits.0 in
    let number : key.number < 18446744073709551616 = fits.1 in
    omega (arith, table, number)

pub part_all : (m : Map) → FitKeys m → part 0 (place (record { table = 65535; number = 18446744073709551615 })) m ≡ m
part_all [] fit = refl
part_all (r ∷ m) fit =
    let high = place (record { table = 65535; number = 18446744073709551615 }) in
    part_in 0 high r m (and_from (nat_le 0 (place r.0)) (nat_le (place r.0) high) (le-leb 0 (place r.0) (omega arith)) (le-leb (place r.0) high (place_small r.0 fit.0)))
    ∙ ap (λ (rs : List Record). r ∷ rs) (part_all m fit.1)

pub part_from : (low : ℕ) (m : Map) → FitKeys m → part low (place (record { table = 65535; number = 18446744073709551615 })) m ≡ filter (λ r. nat_le low (place r.0)) m
part_from low [] fit = refl
part_from low (r ∷ m) fit =
    let high = place (record { table = 65535; number = 18446744073709551615 }) in
    ap (λ t. cond (nat_le low (place r.0) && t) (r ∷ part low high m) (part low high m)) (le-leb (place r.0) high (place_small r.0 fit.0))
    ∙ ap (λ t. cond t (r ∷ part low high m) (part low high m)) (and_true (nat_le low (place r.0)))
    ∙ ap (λ (rs : List Record). cond (nat_le low (place r.0)) (r ∷ rs) rs) (part_from low m fit.1)
  where
    and_true : (b : Bool) → (b && true) ≡ b
    and_true true = refl
    and_true false = refl

-- what the window from a key on gives
pub given_from : (low : Key) (count : ℕ) (m : Map) → FitKeys m → given_of (record { low = low; high = record { table = 65535; number = 18446744073709551615 }; most = Some count }) 0 m ≡ from (place low) count m
given_from low count m fit =
    let same : count - 0 ≡ count = omega arith in
    ap (λ n. take n (part (place low) (place (record { table = 65535; number = 18446744073709551615 })) m)) same ∙ ap (λ (rs : List Record). take count rs) (part_from (place low) m fit)
