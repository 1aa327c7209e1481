-- Where the first item of a name stands, or that there is none.
use Rattle.std.proofs.Common.{◌≡◌, ℕ, suc, ◌<◌, Bool, true, false, cond, List, [], ◌∷◌, length, get_or, find, Option, None, Some, is_some, refl, sym, ap, ◌∙◌, arith}
use Rattle.std.specs.Prelude.{IfSome, IfNone}
use Rattle.vm_types.specs.Firsts.{IsFirst}

-- where no item passes, none is found
pub find_none : {X : Type 0} (test : X → Bool) (xs : List X) → ((k : ℕ) (d : X) → k < length xs → test (get_or xs k d) ≡ false) → find test xs ≡ None
find_none test [] fails = refl
find_none test (x ∷ xs) fails =
    ap (λ b. cond b (Some x) (find test xs)) (fails 0 x (omega arith)) ∙ find_none test xs (λ k d lt. fails (suc k) d (omega arith))

-- where one stands first, one is found
is_some-found : {X : Type 0} (test : X → Bool) (xs : List X) (i : ℕ) → IsFirst test xs i → is_some (find test xs) ≡ true
is_some-found test [] i first = absurd (let h = first.in_range in omega arith)
is_some-found test (x ∷ xs) i first = ap is_some (first.found x)

-- a place is found where an item is
pub is_some-place : {X : Type 0} (test : X → Bool) (xs : List X) (place : Option ℕ) → IfSome place (IsFirst test xs) → IfNone place (find test xs ≡ None) → is_some place ≡ is_some (find test xs)
is_some-place test xs (Some i) found none = sym (is_some-found test xs i found)
is_some-place test xs None found none = sym (ap is_some none)
