-- Tests of counts of spare blocks.
use Rattle.std.proofs.Common.{◌≡◌, ℕ, ◌≤◌, ◌<◌, ◌⊎◌, inl, inr, refl, Bool, true, false, nat_lt, IsTrue, sym, ◌∙◌, subst, arith}
use Rattle.std.proofs.lemmas.Bool.Decides.{nat_tests}
use Rattle.std.proofs.lemmas.Bool.{false≢true, cases_lt}

-- a test that tells of free blocks tells of spare ones, where free ones are spare
pub enough : (b : Bool) (count free spare : ℕ) → (IsTrue b → count ≤ free) × (count ≤ free → IsTrue b) → b ≡ true → free ≤ spare → (IsTrue true → count ≤ spare) × (count ≤ spare → IsTrue true)
enough b count free spare test is at_most = let le = test.0 is in (λ _. omega (arith, le, at_most), λ _. refl)

-- and where all spare ones are free
pub told : (b : Bool) (count free spare : ℕ) → (IsTrue b → count ≤ free) × (count ≤ free → IsTrue b) → free ≡ spare → (IsTrue b → count ≤ spare) × (count ≤ spare → IsTrue b)
told b count free spare test same = subst (λ n. (IsTrue b → count ≤ n) × (count ≤ n → IsTrue b)) same test

-- so many are no fewer
pub no_fewer : (count n : ℕ) → count ≤ n → nat_lt n count ≡ false
no_fewer count n le = grind (arith, nat_tests)

-- a test whether so many blocks are spare, the other way round
pub room_for : (count : ℕ) (b : Bool) (n : ℕ) → (IsTrue b → count ≤ n) × (count ≤ n → IsTrue b) → b ≡ true → nat_lt n count ≡ false
room_for count b n test is = by_test (cases_lt n count)
  where
    by_test : (n < count) ⊎ (count ≤ n) → nat_lt n count ≡ false
    by_test (inl lt) = let le = test.0 is in absurd (omega (arith, le, lt))
    by_test (inr le) = grind (arith, nat_tests)

pub full_for : (count : ℕ) (b : Bool) (n : ℕ) → (IsTrue b → count ≤ n) × (count ≤ n → IsTrue b) → b ≡ false → nat_lt n count ≡ true
full_for count b n test is = by_test (cases_lt n count)
  where
    by_test : (n < count) ⊎ (count ≤ n) → nat_lt n count ≡ true
    by_test (inl lt) = grind (arith, nat_tests)
    by_test (inr le) = absurd (false≢true (sym is ∙ test.1 le))
