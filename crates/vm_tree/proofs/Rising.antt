-- Records in rising order: what a joined list says of its parts, and in which part a key is looked up or changed.
use Rattle.std.proofs.Common.{◌≡◌, ℕ, ◌+◌, ◌<◌, ◌≤◌, ◌==◌, nat_lt, cond, List, [], ◌∷◌, ◌++◌, None, Some, refl, ap, ap₂, ◌∙◌, arith, true, false}
use Rattle.std.specs.List.{AllByRecursion}
use Rattle.std.proofs.lemmas.Bool.{ne_eqb, lt-ltb, le-ltb}
use Rattle.vm_types.specs.Places.{place, RisesFrom, places, value_at, with_record}
use Rattle.vm_types.proofs.Bridge.{RisesFrom-lower}
use Rattle.vm_block.specs.Leaf.{Record}

-- all of them stand below place p
abbrev pub Below : ℕ → List Record → Type 0
Below p rs = AllByRecursion (λ r. place r.0 < p) rs

-- all of them stand above place p
abbrev pub Above : ℕ → List Record → Type 0
Above p rs = AllByRecursion (λ r. p < place r.0) rs

pub rises_front : (low : ℕ) (xs ys : List Record) → RisesFrom low (places (xs ++ ys)) → RisesFrom low (places xs)
rises_front low [] ys rises = tt
rises_front low (x ∷ xs) ys rises = (rises.0, rises_front (place x.0 + 1) xs ys rises.1)

pub rises_back : (low : ℕ) (xs ys : List Record) → RisesFrom low (places (xs ++ ys)) → RisesFrom low (places ys)
rises_back low [] ys rises = rises
rises_back low (x ∷ xs) ys rises =
    RisesFrom-lower low (place x.0 + 1) (places ys) (omega (arith, rises.0)) (rises_back (place x.0 + 1) xs ys rises.1)

-- what stands before a record is below it
pub rises_before : (low : ℕ) (xs : List Record) (y : Record) (ys : List Record) → RisesFrom low (places (xs ++ y ∷ ys)) → Below (place y.0) xs
rises_before low [] y ys rises = tt
rises_before low (x ∷ xs) y ys rises =
    let back = rises_back (place x.0 + 1) xs (y ∷ ys) rises.1 in
    (omega (arith, back.0), rises_before (place x.0 + 1) xs y ys rises.1)

-- what rises from above a place is above it
pub rises_above : (p low : ℕ) (ys : List Record) → p < low → RisesFrom low (places ys) → Above p ys
rises_above p low [] lt rises = tt
rises_above p low (y ∷ ys) lt rises = (omega (arith, rises.0), rises_above p (place y.0 + 1) ys (omega (arith, rises.0)) rises.1)

-- what is below a place is below a higher one
pub below_more : (p q : ℕ) (xs : List Record) → p ≤ q → Below p xs → Below q xs
below_more p q [] le all = tt
below_more p q (x ∷ xs) le all = (omega (arith, all.0), below_more p q xs le all.1)

-- ---- the value at a place

pub value_past : (p : ℕ) (xs ys : List Record) → Below p xs → value_at p (xs ++ ys) ≡ value_at p ys
value_past p [] ys below = refl
value_past p (x ∷ xs) ys below =
    ap (λ t. cond t (Some x.1) (value_at p (xs ++ ys))) (ne_eqb (place x.0) p (λ e. omega (arith, below.0))) ∙ value_past p xs ys below.1

pub value_above : (p : ℕ) (ys : List Record) → Above p ys → value_at p ys ≡ None
value_above p [] above = refl
value_above p (y ∷ ys) above =
    ap (λ t. cond t (Some y.1) (value_at p ys)) (ne_eqb (place y.0) p (λ e. omega (arith, above.0))) ∙ value_above p ys above.1

pub value_within : (p : ℕ) (xs ys : List Record) → Above p ys → value_at p (xs ++ ys) ≡ value_at p xs
value_within p [] ys above = value_above p ys above
value_within p (x ∷ xs) ys above = ap (λ rest. cond (place x.0 == p) (Some x.1) rest) (value_within p xs ys above)

-- the value in the part between what is below and what is above
pub value_between : (p : ℕ) (xs ys zs : List Record) → Below p xs → Above p zs → value_at p (xs ++ (ys ++ zs)) ≡ value_at p ys
value_between p xs ys zs below above = value_past p xs (ys ++ zs) below ∙ value_within p ys zs above

-- ---- a record more

pub with_past : (r : Record) (xs ys : List Record) → Below (place r.0) xs → with_record r (xs ++ ys) ≡ xs ++ with_record r ys
with_past r [] ys below = refl
with_past r (x ∷ xs) ys below =
    ap₂ (λ s t. cond s (r ∷ x ∷ (xs ++ ys)) (cond t (r ∷ (xs ++ ys)) (x ∷ with_record r (xs ++ ys))))
    (le-ltb (place r.0) (place x.0) (omega (arith, below.0)))
    (ne_eqb (place r.0) (place x.0) (λ e. omega (arith, below.0)))
    ∙ ap (λ (rest : List Record). x ∷ rest) (with_past r xs ys below.1)

pub with_above : (r : Record) (ys : List Record) → Above (place r.0) ys → with_record r ys ≡ r ∷ ys
with_above r [] above = refl
with_above r (y ∷ ys) above =
    ap (λ s. cond s (r ∷ y ∷ ys) (cond (place r.0 == place y.0) (r ∷ ys) (y ∷ with_record r ys))) (lt-ltb (place r.0) (place y.0) above.0)

pub with_within : (r : Record) (xs ys : List Record) → Above (place r.0) ys → with_record r (xs ++ ys) ≡ with_record r xs ++ ys
with_within r [] ys above = with_above r ys above
with_within r (x ∷ xs) ys above =
    let whole = λ (rest : List Record). cond (nat_lt (place r.0) (place x.0)) (r ∷ x ∷ (xs ++ ys)) (cond (place r.0 == place x.0) (r ∷ (xs ++ ys)) (x ∷ rest)) in
    ap whole (with_within r xs ys above)
    ∙ elim (nat_lt (place r.0) (place x.0)) as (λ s. cond s (r ∷ x ∷ (xs ++ ys)) (cond (place r.0 == place x.0) (r ∷ (xs ++ ys)) (x ∷ (with_record r xs ++ ys))) ≡ cond s (r ∷ x ∷ xs) (cond (place r.0 == place x.0) (r ∷ xs) (x ∷ with_record r xs)) ++ ys) [
      | true ↦ refl
      | false ↦ elim (place r.0 == place x.0) as (λ t. cond t (r ∷ (xs ++ ys)) (x ∷ (with_record r xs ++ ys)) ≡ cond t (r ∷ xs) (x ∷ with_record r xs) ++ ys) [
        | true ↦ refl
        | false ↦ refl
      ]
    ]

-- a record more goes between what is below and what is above
pub with_between : (r : Record) (xs ys zs : List Record) → Below (place r.0) xs → Above (place r.0) zs → with_record r (xs ++ (ys ++ zs)) ≡ xs ++ (with_record r ys ++ zs)
with_between r xs ys zs below above = with_past r xs (ys ++ zs) below ∙ ap (λ (rest : List Record). xs ++ rest) (with_within r ys zs above)
