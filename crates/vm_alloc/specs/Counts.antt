use Rattle.std.specs.Prelude.{◌≡◌, ℕ, ◌<◌, ◌≤◌, Bool, List, length, drop}
use Rattle.vm_types.specs.declared.sizes.TheConstants.{FIRST_DATA, MIN_BLOCKS, MAX_BLOCKS}
use Rattle.vm_alloc.specs.Held.{IsHeld, free_count}

-- this many of the data blocks are not marked
pub record IsCounted (marks : List Bool) (unmarked : ℕ) : Type 0 where
  pub enough : MIN_BLOCKS ≤ length marks
  pub few : length marks ≤ MAX_BLOCKS
  pub count : unmarked ≡ free_count (drop FIRST_DATA marks)

-- this many blocks are free, none of them the store's own nor before the lowest
pub record IsTallied (held : List Bool) (free lowest : ℕ) : Type 0 where
  pub enough : MIN_BLOCKS ≤ length held
  pub few : length held ≤ MAX_BLOCKS
  pub system : (n : ℕ) → n < FIRST_DATA → IsHeld held n
  pub before : (n : ℕ) → n < lowest → IsHeld held n
  pub count : free ≡ free_count held
