-- What each tree of alternatives keeps: its shape, and that its maps rise.
use Rattle.std.specs.Prelude.{◌≡◌, ℕ, Bool, true, false, List, [], ◌∷◌, ◌++◌, map, Option, None, IsSomeAnd, bytes_eq}
use Rattle.std.specs.List.{list_any, AllByRecursion}
use Rattle.vm_types.specs.Map.{IsMap}
use Rattle.vm_types.specs.Tree.{Saved, Alternative, Tree, top}

-- each map of a checkpoint has each key once, rising
abbrev pub IsRisingSaved : Saved → Type 0
IsRisingSaved c = IsMap c.current × IsMap c.base

-- each map of an alternative and of its checkpoints has each key once, rising
abbrev pub IsRising : Alternative → Type 0
IsRising a = IsMap a.current × IsMap a.base × AllByRecursion IsRisingSaved a.saved

-- whether a name is among these
abbrev pub is_among : List (List ℕ) → List ℕ → Bool
is_among names name = list_any (λ n. bytes_eq n name) names

-- no name stands twice, nor among the earlier ones
abbrev pub AreNew : List (List ℕ) → List (List ℕ) → Type 0
AreNew earlier [] = Unit {0}
AreNew earlier (name ∷ names) = (is_among earlier name ≡ false) × AreNew (earlier ++ name ∷ []) names

-- the names of an alternative's checkpoints
abbrev pub saved_names : List Saved → List (List ℕ)
saved_names saved = map (λ c. c.name) saved

-- a checkpoint with the empty base
abbrev pub IsUnbasedSaved : Saved → Type 0
IsUnbasedSaved c = c.base ≡ []

-- the base is empty, also in each checkpoint
abbrev pub IsUnbased : Alternative → Type 0
IsUnbased a = (a.base ≡ []) × AllByRecursion IsUnbasedSaved a.saved

-- maps rise, names of checkpoints are distinct, and without a parent the base is empty
pub record IsSound (a : Alternative) : Type 0 where
  pub rising : IsRising a
  pub distinct : AreNew [] (saved_names a.saved)
  pub unbased : a.parent ≡ None → IsUnbased a

-- how a tree has grown: names and parents
abbrev pub shape : Tree → List (List ℕ × Option (List ℕ))
shape tree = map (λ a. (a.name, a.parent)) tree

-- each name is new, and each parent an earlier name
abbrev pub HasGrown : List (List ℕ) → List (List ℕ × Option (List ℕ)) → Type 0
HasGrown earlier [] = Unit {0}
HasGrown earlier (e ∷ rest) = (is_among earlier e.0 ≡ false) × IsSomeAnd e.1 (λ p. is_among earlier p ≡ true) × HasGrown (earlier ++ e.0 ∷ []) rest

-- the first is `top` without a parent, and the others grew from it
abbrev pub HasShape : List (List ℕ × Option (List ℕ)) → Type 0
HasShape [] = ⊥
HasShape (first ∷ rest) = (first.0 ≡ top) × (first.1 ≡ None) × HasGrown (first.0 ∷ []) rest

-- `top` stands first, without a parent and with the empty base; every other parent is earlier; names are distinct,
-- and so are those of one alternative's checkpoints; each map has each key once, rising
pub record IsWellFormed (tree : Tree) : Type 0 where
  pub shape : HasShape (shape tree)
  pub each : AllByRecursion IsSound tree
