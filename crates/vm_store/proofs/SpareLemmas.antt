-- Counting spare blocks against the blocks that are free.
use Rattle.std.proofs.Common.{◌≡◌, ℕ, zero, suc, ◌+◌, ◌<◌, ◌≤◌, ◌&&◌, not, nat_le, eqb, ◌||◌, Bool, true, false, cond, List, [], ◌∷◌, length, refl, sym, ap, ◌∙◌, subst, arith}
use Rattle.std.specs.List.{AllByRecursion, list_any}
use Rattle.std.proofs.lemmas.Bool.{false≢true, eqb-true}
use Rattle.std.proofs.lemmas.Bool.Decides.{nat_tests}
use Rattle.std.proofs.lemmas.List.Sums.{sum_by-cons}
use Rattle.vm_alloc.specs.Held.{is_held, IsHeld, free_count}
use Rattle.vm_store.specs.Spare.{is_spare, count_below, spare}

-- is this block none that is held?
abbrev is_unheld : List Bool → ℕ → Bool
is_unheld held n = not (is_held held n)

-- what passes one test passes another, and so not more numbers pass it
pub count_below-le : (p q : ℕ → Bool) (n : ℕ) → ((k : ℕ) → k < n → p k ≡ true → q k ≡ true) → count_below p n ≤ count_below q n
unfolding count_below
count_below-le p q zero so = omega arith
count_below-le p q (suc n) so =
    let rest = count_below-le (λ k. p (suc k)) (λ k. q (suc k)) n (λ k lt is. so (suc k) (omega arith) is) in
    elim (p 0) as (λ b. p 0 ≡ b → cond b 1 0 + count_below (λ k. p (suc k)) n ≤ cond (q 0) 1 0 + count_below (λ k. q (suc k)) n) [
      | true ↦ λ is. subst (λ b. 1 + count_below (λ k. p (suc k)) n ≤ cond b 1 0 + count_below (λ k. q (suc k)) n) (sym (so 0 (omega arith) is)) (omega (arith, rest))
      | false ↦ λ is. omega (arith, rest)
    ] refl

-- two tests that agree on the numbers pass as many of them
pub count_below-same : (p q : ℕ → Bool) (n : ℕ) → ((k : ℕ) → k < n → p k ≡ q k) → count_below p n ≡ count_below q n
unfolding count_below
count_below-same p q zero so = refl
count_below-same p q (suc n) so =
    ap (λ b. cond b 1 0 + count_below (λ k. p (suc k)) n) (so 0 (omega arith))
    ∙ ap (λ k. cond (q 0) 1 0 + k) (count_below-same (λ k. p (suc k)) (λ k. q (suc k)) n (λ k lt. so (suc k) (omega arith)))

-- the free blocks, counted one by one
pub free_count-below : (held : List Bool) → free_count held ≡ count_below (is_unheld held) (length held)
unfolding count_below
free_count-below [] = refl
free_count-below (b ∷ held) = sum_by-cons (λ b. cond (not b) 1 0) b held ∙ ap (λ n. cond (not b) 1 0 + n) (free_count-below held)

-- a block among these is found among them
pub any_of : (bs : List ℕ) (n : ℕ) → list_any (λ b. eqb b n) bs ≡ true → (P : ℕ → Type 0) → AllByRecursion P bs → P n
any_of [] n h P all = absurd (false≢true h)
any_of (b ∷ bs) n h P all =
    elim (eqb b n) as (λ t. eqb b n ≡ t → (t || list_any (λ b. eqb b n) bs) ≡ true → P n) [
      | true ↦ λ is h. subst P (eqb-true b n is) all.0
      | false ↦ λ is h. any_of bs n h P all.1
    ] refl h

-- a block is not both held and free
held_or_free : (held : List Bool) (n : ℕ) → IsHeld held n → is_unheld held n ≡ true → ⊥
held_or_free held n is free = false≢true (sym (ap not is) ∙ free)

module _ (held : List Bool) (limit : ℕ) (reached : List ℕ) (many : length held ≡ limit) (system : (n : ℕ) → n < 34 → IsHeld held n) where
  free_is_spare : AllByRecursion (IsHeld held) reached → (k : ℕ) → is_unheld held k ≡ true → is_spare reached k ≡ true
  free_is_spare all k free =
      elim (nat_le 34 k) as (λ b. nat_le 34 k ≡ b → (b && not (list_any (λ b. eqb b k) reached)) ≡ true) [
        | true ↦ λ far. elim (list_any (λ b. eqb b k) reached) as (λ b. list_any (λ b. eqb b k) reached ≡ b → not b ≡ true) [
          | true ↦ λ is. absurd (held_or_free held k (any_of reached k is (IsHeld held) all) free)
          | false ↦ λ is. refl
        ] refl
        | false ↦ λ near. absurd (held_or_free held k (system k (below k near)) free)
      ] refl
    where
      below : (k : ℕ) → nat_le 34 k ≡ false → k < 34
      below k near = grind (arith, nat_tests)

  -- where all that is reached is held, each free block is spare
  pub free-le-spare : AllByRecursion (IsHeld held) reached → free_count held ≤ spare limit reached
  free-le-spare all =
      subst (λ n. n ≤ spare limit reached) (sym (free_count-below held ∙ ap (count_below (is_unheld held)) many))
      (count_below-le (is_unheld held) (is_spare reached) limit (λ k lt free. free_is_spare all k free))

  -- where just what is reached is held, the free blocks are the spare ones
  pub free-spare : ((n : ℕ) → 34 ≤ n → is_held held n ≡ list_any (λ b. eqb b n) reached) → free_count held ≡ spare limit reached
  free-spare just =
      free_count-below held ∙ ap (count_below (is_unheld held)) many
      ∙ count_below-same (is_unheld held) (is_spare reached) limit (λ k lt. each k)
    where
      above : (k : ℕ) → nat_le 34 k ≡ true → 34 ≤ k
      above k far = grind (arith, nat_tests)

      below : (k : ℕ) → nat_le 34 k ≡ false → k < 34
      below k near = grind (arith, nat_tests)

      each : (k : ℕ) → is_unheld held k ≡ is_spare reached k
      each k =
          elim (nat_le 34 k) as (λ b. nat_le 34 k ≡ b → is_unheld held k ≡ (b && not (list_any (λ b. eqb b k) reached))) [
            | true ↦ λ far. ap not (just k (above k far))
            | false ↦ λ near. ap not (system k (below k near))
          ] refl
