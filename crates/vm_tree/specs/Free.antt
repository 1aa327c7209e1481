-- Blocks that may be written.
use Rattle.std.specs.Prelude.{◌≡◌, ◌≢◌, true, false, ℕ, ◌+◌, ◌<◌, ◌≤◌, ◌&&◌, nat_lt, Bool, not, List, length, Option, None, Some, IfSome, IsSomeAnd}
use Rattle.std.specs.List.{AllByRecursion}
use Rattle.vm_types.specs.declared.sizes.TheConstants.{FIRST_DATA}
use Rattle.vm_alloc.specs.Held.{is_held, IsHeld, HoldsMore, free_count}
use Rattle.vm_block.specs.declared.node.Child.{Child}

-- is this block free, one of those that are counted and not held?
abbrev pub is_free : List Bool → ℕ → Bool
is_free held n = not (is_held held n) && nat_lt n (length held)

-- a block for data, which is held now
pub record IsTaken (held : List Bool) (n : ℕ) : Type 0 where
  pub above : FIRST_DATA ≤ n
  pub inside : n < length held
  pub held_now : IsHeld held n

-- the blocks of these children are for data, and held now
abbrev pub AreTaken : List Bool → List Child → Type 0
AreTaken held cs = AllByRecursion (λ c. IsTaken held c.block) cs

-- the lowest free blocks were taken: each block that was taken lies below each one that is still free
abbrev pub TakesLowest : List Bool → List Bool → Type 0
TakesLowest held later = (n k : ℕ) → is_held held n ≡ false → IsHeld later n → k < n → IsHeld later k

-- of the free blocks this many are taken at most
abbrev pub TakesAtMost : ℕ → List Bool → List Bool → Type 0
TakesAtMost n held later = free_count held ≤ free_count later + n

-- # Blocks that are changed in their places

-- a block that is the change's own: it is for data, held, and free in a baseline
pub record IsOwn (base : Option (List Bool)) (held : List Bool) (n : ℕ) : Type 0 where
  pub taken : IsTaken held n
  pub free : IsSomeAnd base (λ bits. is_free bits n ≡ true)

-- the block that was written: the own one, or if there is none one that was free
abbrev pub IsPlace : Option ℕ → List Bool → ℕ → Type 0
IsPlace None held n = is_free held n ≡ true
IsPlace (Some b) held n = n ≡ b

-- a block that is not the own one
abbrev pub IsBeside : Option ℕ → ℕ → Type 0
IsBeside own n = IfSome own (λ b. n ≢ b)

-- of these blocks the own one is none
abbrev pub SparesOwn : Option ℕ → List Bool → Type 0
SparesOwn own spared = IfSome own (λ b. is_free spared b ≡ true)

-- all these blocks are in the baseline, if there is one
abbrev pub SparesBase : Option (List Bool) → List Bool → Type 0
SparesBase base spared = IfSome base (λ bits. HoldsMore spared bits)
