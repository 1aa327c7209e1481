-- Records without one: where it is taken out, and what is known of the rest.
use Rattle.std.proofs.Common.{◌≡◌, ℕ, ◌+◌, ◌≤◌, length, ◌==◌, cond, true, false, List, [], ◌∷◌, ◌++◌, refl, ap, ◌∙◌, arith}
use Rattle.std.proofs.lemmas.Bool.{ne_eqb}
use Rattle.vm_types.specs.declared.key.Key.{Key}
use Rattle.vm_types.specs.Map.{Map, without}
use Rattle.vm_types.specs.Places.{place, KeyFits, FitKeys, RisesFrom, places}
use Rattle.vm_types.proofs.Bridge as bridge
use Rattle.vm_types.proofs.Bridge.{RisesFrom-lower}
use Rattle.vm_block.specs.Leaf.{Record}
use Rattle.vm_block.specs.Changed.{without_place}
use Rattle.vm_tree.proofs.Rising.{Below, Above}

without_past : (p : ℕ) (xs ys : List Record) → Below p xs → without_place p (xs ++ ys) ≡ xs ++ without_place p ys
without_past p [] ys below = refl
without_past p (x ∷ xs) ys below =
    ap (λ t. cond t (xs ++ ys) (x ∷ without_place p (xs ++ ys))) (ne_eqb (place x.0) p (λ e. omega (arith, below.0))) ∙ ap (λ (rest : List Record). x ∷ rest) (without_past p xs ys below.1)

pub without_above : (p : ℕ) (ys : List Record) → Above p ys → without_place p ys ≡ ys
without_above p [] above = refl
without_above p (y ∷ ys) above =
    ap (λ t. cond t ys (y ∷ without_place p ys)) (ne_eqb (place y.0) p (λ e. omega (arith, above.0))) ∙ ap (λ (rest : List Record). y ∷ rest) (without_above p ys above.1)

without_within : (p : ℕ) (xs ys : List Record) → Above p ys → without_place p (xs ++ ys) ≡ without_place p xs ++ ys
without_within p [] ys above = without_above p ys above
without_within p (x ∷ xs) ys above =
    ap (λ (rest : List Record). cond (place x.0 == p) (xs ++ ys) (x ∷ rest)) (without_within p xs ys above)
    ∙ elim (place x.0 == p) as (λ t. cond t (xs ++ ys) (x ∷ (without_place p xs ++ ys)) ≡ cond t xs (x ∷ without_place p xs) ++ ys) [ true ↦ refl | false ↦ refl ]

-- a record is taken out between what is below and what is above
pub without_between : (p : ℕ) (xs ys zs : List Record) → Below p xs → Above p zs → without_place p (xs ++ (ys ++ zs)) ≡ xs ++ (without_place p ys ++ zs)
without_between p xs ys zs below above = without_past p xs (ys ++ zs) below ∙ ap (λ (rest : List Record). xs ++ rest) (without_within p ys zs above)

-- the rest rises as before
pub without_rises : (p low : ℕ) (rs : List Record) → RisesFrom low (places rs) → RisesFrom low (places (without_place p rs))
without_rises p low [] rises = tt
without_rises p low (r ∷ rs) rises =
    elim (place r.0 == p) as (λ t. RisesFrom low (places (cond t rs (r ∷ without_place p rs)))) [
      | true ↦ RisesFrom-lower low (place r.0 + 1) (places rs) (omega (arith, rises.0)) rises.1
      | false ↦ (rises.0, without_rises p (place r.0 + 1) rs rises.1)
    ]

same_without : (p : ℕ) (rs : List Record) → without_place p rs ≡ bridge.without_place p rs
same_without p [] = refl
same_without p (r ∷ rs) = ap (λ (rest : List Record). cond (place r.0 == p) rs (r ∷ rest)) (same_without p rs)

-- the rest is the map without the key
pub without_is : (key : Key) (m : Map) → KeyFits key → FitKeys m → RisesFrom 0 (places m) → without_place (place key) m ≡ without m key
without_is key m fits fit rises = same_without (place key) m ∙ bridge.without_place-without key 0 m fits fit rises

-- at most one record is taken out
pub without_size : (p : ℕ) (rs : List Record) → (length (without_place p rs) ≤ length rs) × (length rs ≤ length (without_place p rs) + 1)
without_size p [] = (omega arith, omega arith)
without_size p (r ∷ rs) =
    let rest = without_size p rs in
    elim (place r.0 == p) as (λ t. (length (cond t rs (r ∷ without_place p rs)) ≤ length (r ∷ rs)) × (length (r ∷ rs) ≤ length (cond t rs (r ∷ without_place p rs)) + 1)) [
      | true ↦ (omega arith, omega arith)
      | false ↦ (omega (arith, rest.0), omega (arith, rest.1))
    ]
