-- The first item of a list that passes a test: found, changed, or left out.
use Rattle.std.specs.Prelude.{◌≡◌, ℕ, ◌<◌, Bool, List, [], ◌∷◌, length, find, remove, Some, if◌then◌else◌, slice_index_or, slice_set}

-- the first item that passes is changed so
abbrev pub change_first : {X : Type 0} → (X → Bool) → (X → X) → List X → List X
change_first test change [] = []
change_first test change (x ∷ xs) = if test x then change x ∷ xs else x ∷ change_first test change xs

-- the first item that passes is left out
abbrev pub without_first : {X : Type 0} → (X → Bool) → List X → List X
without_first test [] = []
without_first test (x ∷ xs) = if test x then xs else x ∷ without_first test xs

-- the first item that passes stands at i
pub record IsFirst {X : Type 0} (test : X → Bool) (xs : List X) (i : ℕ) : Type 0 where
  pub in_range : i < length xs
  pub found : (d : X) → find test xs ≡ Some (slice_index_or xs i d)
  pub change : (f : X → X) (d : X) → change_first test f xs ≡ slice_set xs i (f (slice_index_or xs i d))
  pub rest : without_first test xs ≡ remove xs i
