-- What of a leaf or of an inner block may lie in a part, from one place to another.
use Rattle.std.specs.Prelude.{◌≡◌, ◌⊎◌, ℕ, ◌<◌, ◌≤◌, List, [], ◌∷◌, ◌++◌, length, take, drop}
use Rattle.std.specs.List.{AllByRecursion}
use Rattle.vm_types.specs.declared.key.Key.{Key}
use Rattle.vm_types.specs.Places.{place}
use Rattle.vm_block.specs.Leaf.{Record}
use Rattle.vm_block.specs.declared.node.Child.{Child}

-- the first of these stands at a place that has P, if there is one
abbrev pub FirstAt : {X : Type 0} → (X → Key) → (ℕ → Type 0) → List X → Type 0
FirstAt key P [] = Unit {0}
FirstAt key P (x ∷ xs) = P (place (key x))

-- so does the second
abbrev pub SecondAt : {X : Type 0} → (X → Key) → (ℕ → Type 0) → List X → Type 0
SecondAt key P [] = Unit {0}
SecondAt key P (x ∷ xs) = FirstAt key P xs

-- the places of the records before the one at i have P, and that of this one has Q, if there is one
pub record CutAt (i : ℕ) (P Q : ℕ → Type 0) (rs : List Record) : Type 0 where
  pub within : i ≤ length rs
  pub before : AllByRecursion (λ r. P (place r.0)) (take i rs)
  pub first : FirstAt (λ r. r.0) Q (drop i rs)

-- of records those are left out that stand below the part, and those from the first one on that stands above it
pub record CutsRecords (low high : ℕ) (all kept : List Record) : Type 0 where
  pub before : List Record
  pub behind : List Record
  pub whole : all ≡ before ++ (kept ++ behind)
  pub below : AllByRecursion (λ r. place r.0 < low) before
  pub reached : FirstAt (λ r. r.0) (λ p. low ≤ p) (kept ++ behind)
  pub within : AllByRecursion (λ r. place r.0 ≤ high) kept
  pub above : FirstAt (λ r. r.0) (λ p. high < p) behind

-- of children those are left out that are followed by one that begins at the lower end of the part or below it, and those from the first
-- one on that begins above the part
pub record CutsChildren (low high : ℕ) (all kept : List Child) : Type 0 where
  pub before : List Child
  pub behind : List Child
  pub whole : all ≡ before ++ (kept ++ behind)
  pub passed : (before ≡ []) ⊎ ((c : Child) × (rest : List Child) × (kept ++ behind ≡ c ∷ rest) × (place c.low ≤ low))
  pub reached : SecondAt (λ c. c.low) (λ p. low < p) (kept ++ behind)
  pub within : AllByRecursion (λ c. place c.low ≤ high) kept
  pub above : FirstAt (λ c. c.low) (λ p. high < p) behind
