-- Records by place: where a look-up finds one, and where one more is put.
use Rattle.std.proofs.Common.{◌≡◌, ℕ, ◌+◌, ◌<◌, ◌≤◌, ◌==◌, nat_lt, cond, [], ◌∷◌, None, refl, sym, ap, ap₂, subst, Bool, ⊎_elim, arith}
use Rattle.std.proofs.lemmas.Bool.{cases_order, eq-eqb, ne_eqb, lt-ltb, le-ltb}
use Rattle.std.proofs.lemmas.Bool.Decides.{nat_tests}
use Rattle.vm_types.specs.Map.{Map}
use Rattle.vm_types.specs.Places.{place, RisesFrom, places, value_at, with_record}
use Rattle.vm_block.specs.Leaf.{Record}

-- records rise with one more in its place
pub with_rises : (r : Record) (low : ℕ) (m : Map) → low ≤ place r.0 → RisesFrom low (places m) → RisesFrom low (places (with_record r m))
with_rises r low [] above rises = (above, tt)
with_rises r low (x ∷ m) above rises =
    ⊎_elim
    (λ (e : place r.0 ≡ place x.0).
    subst (λ (n : Map). RisesFrom low (places n)) (sym (tests_are r x m (le-ltb (place r.0) (place x.0) (omega arith)) (eq-eqb (place r.0) (place x.0) e)))
    (above, subst (λ p. RisesFrom (p + 1) (places m)) (sym e) rises.1))
    (⊎_elim
    (λ (l : place r.0 < place x.0).
    subst (λ (n : Map). RisesFrom low (places n)) (sym (ap (λ s. cond s (r ∷ x ∷ m) (cond (place r.0 == place x.0) (r ∷ m) (x ∷ with_record r m))) (lt-ltb (place r.0) (place x.0) l)))
    (above, (omega arith, rises.1)))
    (λ (g : place x.0 < place r.0).
    subst (λ (n : Map). RisesFrom low (places n)) (sym (tests_are r x m (le-ltb (place r.0) (place x.0) (omega arith)) (ne_eqb (place r.0) (place x.0) (λ e. omega arith))))
    (rises.0, with_rises r (place x.0 + 1) m (omega arith) rises.1)))
    (cases_order (place r.0) (place x.0))
  where
    tests_are : {s t : Bool} (r x : Record) (m : Map) → nat_lt (place r.0) (place x.0) ≡ s → (place r.0 == place x.0) ≡ t → with_record r (x ∷ m) ≡ cond s (r ∷ x ∷ m) (cond t (r ∷ m) (x ∷ with_record r m))
    tests_are r x m p q = ap₂ (λ s t. cond s (r ∷ x ∷ m) (cond t (r ∷ m) (x ∷ with_record r m))) p q

-- below where records rise from stands none
pub none_below : (p low : ℕ) (m : Map) → p < low → RisesFrom low (places m) → value_at p m ≡ None
none_below p low [] below rises = refl
none_below p low (x ∷ m) below rises =
    grind (arith, nat_tests, none_below p (place x.0 + 1) m (omega (arith, rises.0)) rises.1, rises.0)
