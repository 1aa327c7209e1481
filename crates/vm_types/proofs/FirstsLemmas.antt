-- The first item that passes a test, by its place.
use Rattle.std.proofs.Common.{◌≡◌, ℕ, zero, suc, ◌<◌, Bool, true, false, cond, List, [], ◌∷◌, length, get_or, find, Some, None, refl, sym, ap, ◌∙◌, arith}
use Rattle.std.proofs.lemmas.Bool.{cond-true, cond-false}
use Rattle.vm_types.specs.Firsts.{change_first, without_first, IsFirst}

-- found at once
IsFirst-here : {X : Type 0} (test : X → Bool) (x : X) (xs : List X) → test x ≡ true → IsFirst test (x ∷ xs) 0
IsFirst-here test x xs h = record {
  in_range = omega arith;
  found = λ d. cond-true (test x) (Some x) (find test xs) h;
  change = λ f d. cond-true (test x) (f x ∷ xs) (x ∷ change_first test f xs) h;
  rest = cond-true (test x) xs (x ∷ without_first test xs) h;
}

-- not the first item, but one of the others
IsFirst-there : {X : Type 0} (test : X → Bool) (x : X) (xs : List X) (i : ℕ) → test x ≡ false → IsFirst test xs i → IsFirst test (x ∷ xs) (suc i)
IsFirst-there test x xs i h first = record {
  in_range = let r = first.in_range in omega arith;
  found = λ d. cond-false (test x) (Some x) (find test xs) h ∙ first.found d;
  change = λ f d. cond-false (test x) (f x ∷ xs) (x ∷ change_first test f xs) h ∙ ap (λ ys. x ∷ ys) (first.change f d);
  rest = cond-false (test x) xs (x ∷ without_first test xs) h ∙ ap (λ ys. x ∷ ys) first.rest;
}

-- an item that passes, where none before it does, is the first
pub IsFirst-at : {X : Type 0} (test : X → Bool) (xs : List X) (i : ℕ) (e : X) → i < length xs → test (get_or xs i e) ≡ true → ((k : ℕ) → k < i → test (get_or xs k e) ≡ false) → IsFirst test xs i
IsFirst-at test [] i e h passes fails = absurd (omega arith)
IsFirst-at test (x ∷ xs) zero e h passes fails = IsFirst-here test x xs passes
IsFirst-at test (x ∷ xs) (suc i) e h passes fails = IsFirst-there test x xs i (fails 0 (omega arith)) (IsFirst-at test xs i e (omega arith) passes (λ k lt. fails (suc k) (omega arith)))

-- where none passes, nothing is changed
pub change_first-none : {X : Type 0} (test : X → Bool) (f : X → X) (xs : List X) → find test xs ≡ None → change_first test f xs ≡ xs
change_first-none test f [] h = refl
change_first-none test f (x ∷ xs) h =
    elim (test x) as (λ t. cond t (Some x) (find test xs) ≡ None → cond t (f x ∷ xs) (x ∷ change_first test f xs) ≡ x ∷ xs) [
      | true ↦ λ e. cc
      | false ↦ λ e. ap (λ ys. x ∷ ys) (change_first-none test f xs e)
    ] h

-- where none passes, nothing is left out
pub without_first-none : {X : Type 0} (test : X → Bool) (xs : List X) → find test xs ≡ None → without_first test xs ≡ xs
without_first-none test [] h = refl
without_first-none test (x ∷ xs) h =
    elim (test x) as (λ t. cond t (Some x) (find test xs) ≡ None → cond t xs (x ∷ without_first test xs) ≡ x ∷ xs) [
      | true ↦ λ e. cc
      | false ↦ λ e. ap (λ ys. x ∷ ys) (without_first-none test xs e)
    ] h

-- what is found passes the test
pub find_passes : {X : Type 0} (test : X → Bool) (xs : List X) (x : X) → find test xs ≡ Some x → test x ≡ true
find_passes test [] x h = cc
find_passes test (y ∷ ys) x h =
    elim (test y) as (λ t. test y ≡ t → cond t (Some y) (find test ys) ≡ Some x → test x ≡ true) [
      | true ↦ λ p e. let same : y ≡ x = cc in ap test (sym same) ∙ p
      | false ↦ λ p e. find_passes test ys x e
    ] refl h
