-- Finding in a list: where an item passes a test, and where none does.
use Rattle.std.proofs.Common.{◌≡◌, ℕ, suc, ◌<◌, ◌≤◌, ◌||◌, Bool, true, false, cond, List, [], ◌∷◌, length, get_or, set, subst, filter, find, None, Some, refl, sym, ap, ◌∙◌, arith}
use Rattle.std.specs.List.{AllByRecursion, list_any}
use Rattle.vm_types.specs.Firsts.{IsFirst, change_first, without_first}

pub find_none : {X : Type 0} (test : X → Bool) (xs : List X) → ((k : ℕ) (d : X) → k < length xs → test (get_or xs k d) ≡ false) → find test xs ≡ None
find_none test [] fails = refl
find_none test (x ∷ xs) fails =
    ap (λ b. cond b (Some x) (find test xs)) (fails 0 x (omega arith)) ∙ find_none test xs (λ k d lt. fails (suc k) d (omega arith))

-- an item that is found is one that passes
pub any_found : {X : Type 0} (test : X → Bool) (xs : List X) (x : X) → find test xs ≡ Some x → list_any test xs ≡ true
any_found test [] x h = cc
any_found test (y ∷ ys) x h = elim (test y) as (λ b. cond b (Some y) (find test ys) ≡ Some x → (b || list_any test ys) ≡ true) [
  | true ↦ λ h. refl
  | false ↦ λ h. any_found test ys x h
] h

-- where none is found, none passes
pub any_none : {X : Type 0} (test : X → Bool) (xs : List X) → find test xs ≡ None → list_any test xs ≡ false
any_none test [] h = refl
any_none test (y ∷ ys) h = elim (test y) as (λ b. cond b (Some y) (find test ys) ≡ None → (b || list_any test ys) ≡ false) [
  | true ↦ λ h. cc
  | false ↦ λ h. any_none test ys h
] h

-- two tests that agree
pub any_same : {X : Type 0} (test other : X → Bool) (xs : List X) → ((x : X) → test x ≡ other x) → list_any test xs ≡ list_any other xs
any_same test other [] same = refl
any_same test other (x ∷ xs) same = ap (λ b. b || list_any test xs) (same x) ∙ ap (λ b. other x || b) (any_same test other xs same)

-- what is found at a place, changed
pub changed_at : {X : Type 0} (test : X → Bool) (f : X → X) (lent xs : List X) (i : ℕ) (d : X) → lent ≡ xs → IsFirst test lent i → d ≡ get_or xs i d → set xs i (f d) ≡ change_first test f xs
changed_at test f lent xs i d same first is =
    let first' : IsFirst test xs i = subst (λ es. IsFirst test es i) same first in
    ap (λ e. set xs i (f e)) is ∙ sym (first'.change f d)

-- two changes that do the same to what is found
pub change_first-same : {X : Type 0} (test : X → Bool) (f g : X → X) (xs : List X) (x : X) → find test xs ≡ Some x → f x ≡ g x → change_first test f xs ≡ change_first test g xs
change_first-same test f g [] x h same = cc
change_first-same test f g (y ∷ ys) x h same = elim (test y) as (λ b. cond b (Some y) (find test ys) ≡ Some x → cond b (f y ∷ ys) (y ∷ change_first test f ys) ≡ cond b (g y ∷ ys) (y ∷ change_first test g ys)) [
  | true ↦ λ h. let is : x ≡ y = cc in ap (λ d. d ∷ ys) (ap f (sym is) ∙ same ∙ ap g is)
  | false ↦ λ h. ap (λ v. y ∷ v) (change_first-same test f g ys x h same)
] h

-- what is left by a filter is as before, and no longer
pub each_filter : {X : Type 0} (P : X → Type 0) (test : X → Bool) (xs : List X) → AllByRecursion P xs → AllByRecursion P (filter test xs)
each_filter P test [] all = tt
each_filter P test (x ∷ xs) all = elim (test x) as (λ b. AllByRecursion P (cond b (x ∷ filter test xs) (filter test xs))) [
  | true ↦ (all.0, each_filter P test xs all.1)
  | false ↦ each_filter P test xs all.1
]

pub length-filtered : {X : Type 0} (test : X → Bool) (xs : List X) → length (filter test xs) ≤ length xs
length-filtered test [] = omega arith
length-filtered test (x ∷ xs) = elim (test x) as (λ b. length (cond b (x ∷ filter test xs) (filter test xs)) ≤ suc (length xs)) [
  | true ↦ let fewer = length-filtered test xs in let goes : suc (length (filter test xs)) ≤ suc (length xs) = omega arith in goes
  | false ↦ let fewer = length-filtered test xs in let goes : length (filter test xs) ≤ suc (length xs) = omega arith in goes
]

pub length-without : {X : Type 0} (test : X → Bool) (xs : List X) → length (without_first test xs) ≤ length xs
length-without test [] = omega arith
length-without test (x ∷ xs) = elim (test x) as (λ b. length (cond b xs (x ∷ without_first test xs)) ≤ suc (length xs)) [
  | true ↦ let goes : length xs ≤ suc (length xs) = omega arith in goes
  | false ↦ let fewer = length-without test xs in let goes : suc (length (without_first test xs)) ≤ suc (length xs) = omega arith in goes
]
