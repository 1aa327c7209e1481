-- The differences of records with rising keys, by their first ones.
use Rattle.std.proofs.Common.{◌≡◌, ℕ, ◌+◌, true, false, cond, List, [], ◌∷◌, ◌++◌, Option, Some, None, refl, ap, ◌∙◌, arith, zero-le}
use Rattle.std.specs.List.{cons_option}
use Rattle.vm_types.specs.declared.key.Key.{Key}
use Rattle.vm_types.specs.declared.change.Change.{Change}
use Rattle.vm_types.specs.Map.{delta}
use Rattle.vm_types.specs.Parts.{is_within, part}
use Rattle.vm_types.specs.Places.{place, KeyFits, FitKeys, RisesFrom, places}
use Rattle.vm_types.proofs.Bridge.{IsMap-rising_from, RisesFrom-lower}
use Rattle.vm_types.proofs.ChangeLemmas.{is_below, is_below-head, change_of, delta-left, delta-right, delta-both}
use Rattle.vm_types.proofs.Maps.{same_value-Decides}
use Rattle.vm_block.specs.Leaf.{Record}
use Rattle.vm_diff.specs.Differ.{AreRising}

-- ---- the rest of records with rising keys

pub rising_rest : (r : Record) (rs : List Record) → AreRising (r ∷ rs) → AreRising rs
rising_rest r rs h = record { rising = RisesFrom-lower 0 (place r.0 + 1) (places rs) (omega arith) h.rising.1; fit = h.fit.1 }

pub rising_back : (qs rs : List Record) → AreRising (qs ++ rs) → AreRising rs
rising_back [] rs h = h
rising_back (q ∷ qs) rs h = rising_back qs rs (rising_rest q (qs ++ rs) h)

-- a key below where records rise from is below each of them
below_all : (key : Key) (rs : List Record) → KeyFits key → FitKeys rs → RisesFrom (place key + 1) (places rs) → is_below key rs ≡ true
below_all key rs fits fit rises = is_below-head (key, []) rs (IsMap-rising_from 0 ((key, []) ∷ rs) (fits, fit) (zero-le, rises))

below_rest : (r : Record) (rs : List Record) → AreRising (r ∷ rs) → is_below r.0 rs ≡ true
below_rest r rs h = below_all r.0 rs h.fit.0 h.fit.1 h.rising.1

-- ---- the first difference

-- a record that stands before all of the second list was taken out
pub first_removed : (r : Record) (rs qs : List Record) → AreRising (r ∷ rs) → AreRising qs → RisesFrom (place r.0 + 1) (places qs)
    → delta (r ∷ rs) qs ≡ record { key = r.0; before = Some r.1; after = None } ∷ delta rs qs
first_removed r rs qs h g above = delta-left r rs qs (below_rest r rs h) (below_all r.0 qs h.fit.0 g.fit above)

-- a record that stands before all of the first list was put in
pub first_added : (q : Record) (rs qs : List Record) → AreRising rs → AreRising (q ∷ qs) → RisesFrom (place q.0 + 1) (places rs)
    → delta rs (q ∷ qs) ≡ record { key = q.0; before = None; after = Some q.1 } ∷ delta rs qs
first_added q rs qs h g above = delta-right q rs qs (below_all q.0 rs g.fit.0 h.fit above) (below_rest q qs g)

-- records of one key differ where their values do
pub first_both : (key : Key) (v w : List ℕ) (rs qs : List Record) → AreRising ((key, v) ∷ rs) → AreRising ((key, w) ∷ qs)
    → delta ((key, v) ∷ rs) ((key, w) ∷ qs) ≡ cons_option (change_of key (Some v) (Some w)) (delta rs qs)
first_both key v w rs qs h g = delta-both key v w rs qs (below_rest (key, v) rs h) (below_rest (key, w) qs g)

unchanged : (key : Key) (v : Option (List ℕ)) → change_of key v v ≡ None
unchanged key v = ap (λ t. cond {A = Option Change} t None (Some (record { key = key; before = v; after = v }))) ((same_value-Decides v v).1 refl)

-- records that both lists begin with are no difference
pub shared_front : (s rs qs : List Record) → AreRising (s ++ rs) → AreRising (s ++ qs) → delta (s ++ rs) (s ++ qs) ≡ delta rs qs
shared_front [] rs qs h g = refl
shared_front (r ∷ s) rs qs h g =
    first_both r.0 r.1 r.1 (s ++ rs) (s ++ qs) h g
    ∙ ap (λ o. cons_option o (delta (s ++ rs) (s ++ qs))) (unchanged r.0 (Some r.1))
    ∙ shared_front s rs qs (rising_rest r (s ++ rs) h) (rising_rest r (s ++ qs) g)

-- ---- rising records of a part

module _ (low high : ℕ) where
  pub rises_part : (n : ℕ) (rs : List Record) → RisesFrom n (places rs) → RisesFrom n (places (part low high rs))
  rises_part n [] rises = tt
  rises_part n (r ∷ rs) rises =
      elim (is_within low high r.0) as (λ t. RisesFrom n (places (cond t (r ∷ part low high rs) (part low high rs)))) [
        | true ↦ (rises.0, rises_part (place r.0 + 1) rs rises.1)
        | false ↦ RisesFrom-lower n (place r.0 + 1) (places (part low high rs)) (omega (arith, rises.0)) (rises_part (place r.0 + 1) rs rises.1)
      ]

  fits_part : (rs : List Record) → FitKeys rs → FitKeys (part low high rs)
  fits_part [] fit = tt
  fits_part (r ∷ rs) fit =
      elim (is_within low high r.0) as (λ t. FitKeys (cond t (r ∷ part low high rs) (part low high rs))) [
        | true ↦ (fit.0, fits_part rs fit.1)
        | false ↦ fits_part rs fit.1
      ]

  pub rising_part : (rs : List Record) → AreRising rs → AreRising (part low high rs)
  rising_part rs h = record { rising = rises_part 0 rs h.rising; fit = fits_part rs h.fit }
