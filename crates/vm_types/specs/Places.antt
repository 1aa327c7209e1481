-- Keys as numbers: where a key stands among all keys.
use Rattle.std.specs.Prelude.{ℕ, ◌+◌, ◌*◌, ◌^◌, ◌<◌, ◌≤◌, ◌==◌, nat_lt, List, [], ◌∷◌, map, Option, Some, None, if◌then◌else◌}
use Rattle.std.specs.List.{AllByRecursion}
use Rattle.vm_types.specs.declared.key.Key.{Key}

-- where a key stands: by table, and then by number
abbrev pub place : Key → ℕ
place key = key.table * 2 ^ 64 + key.number

-- its numbers have the sizes of a key's
abbrev pub KeyFits : Key → Type 0
KeyFits key = (key.table < 2 ^ 16) × (key.number < 2 ^ 64)

-- each key of the records has those sizes
abbrev pub FitKeys : List (Key × List ℕ) → Type 0
FitKeys m = AllByRecursion (λ r. KeyFits r.0) m

-- they rise strictly, from low on
abbrev pub RisesFrom : ℕ → List ℕ → Type 0
RisesFrom low [] = Unit {0}
RisesFrom low (p ∷ ps) = (low ≤ p) × RisesFrom (p + 1) ps

-- where the keys of records stand
abbrev pub places : List (Key × List ℕ) → List ℕ
places m = map (λ r. place r.0) m

-- the value at a place, if a record stands there
abbrev pub value_at : ℕ → List (Key × List ℕ) → Option (List ℕ)
value_at p [] = None
value_at p (r ∷ m) = if place r.0 == p then Some r.1 else value_at p m

-- the records with this one, which takes the place of one of the same key
abbrev pub with_record : Key × List ℕ → List (Key × List ℕ) → List (Key × List ℕ)
with_record r [] = r ∷ []
with_record r (x ∷ m) =
    if nat_lt (place r.0) (place x.0) then r ∷ x ∷ m
    else if place r.0 == place x.0 then r ∷ m
    else x ∷ with_record r m
