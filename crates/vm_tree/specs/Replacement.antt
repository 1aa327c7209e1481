-- Blocks that a change replaces, and blocks that it keeps.
use Rattle.std.specs.Prelude.{◌≡◌, ◌≢◌, ℕ, ◌==◌, ◌&&◌, not, Bool, true, List, Option, None, Some, IfSome}
use Rattle.std.specs.List.{AllByRecursion}
use Rattle.vm_alloc.specs.Held.{IsHeld}

-- none of the blocks is block b
abbrev pub Lacks : ℕ → List ℕ → Type 0
Lacks b cs = AllByRecursion (λ c. c ≢ b) cs

-- none of these blocks is one of the others
abbrev pub Apart : List ℕ → List ℕ → Type 0
Apart own others = AllByRecursion (λ b. Lacks b others) own

-- held now, and to be kept, if it was held before
pub record IsRenewed (before held : List Bool) (keep : ℕ → Bool) (n : ℕ) : Type 0 where
  pub now : IsHeld held n
  pub kept : IsHeld before n → keep n ≡ true

-- those to be kept, without the own block
abbrev pub without_own : Option ℕ → (ℕ → Bool) → ℕ → Bool
without_own None keep = keep
without_own (Some b) keep = λ n. keep n && not (n == b)

-- the own block was held before, and is to be kept
abbrev pub KeepsOwn : Option ℕ → List Bool → (ℕ → Bool) → Type 0
KeepsOwn own before keep = IfSome own (λ b. IsHeld before b × (keep b ≡ true))

-- if all blocks of a tree were held before, and are to be kept, M holds of blocks that are held now, and to be kept if they were held
-- before
abbrev pub Replaces : (before held : List Bool) (bs : List ℕ) → ((ℕ → Type 0) → Type 0) → Type 0
Replaces before held bs M =
    (keep : ℕ → Bool) → AllByRecursion (IsHeld before) bs → AllByRecursion (λ n. keep n ≡ true) bs → M (IsRenewed before held keep)
