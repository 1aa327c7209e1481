use Rattle.std.specs.Prelude.{◌≡◌, ℕ, Bool, true, false, not, List, length, slice_index_or, count_by}

-- is this block held?
abbrev pub is_held : List Bool → ℕ → Bool
is_held held n = slice_index_or held n false

-- this block is held
abbrev pub IsHeld : List Bool → ℕ → Type 0
IsHeld held n = is_held held n ≡ true

-- how many blocks are free
abbrev pub free_count : List Bool → ℕ
free_count held = count_by not held

-- what was held is held, among as many blocks
pub record HoldsMore (old new : List Bool) : Type 0 where
  pub same_length : length new ≡ length old
  pub still : (n : ℕ) → IsHeld old n → IsHeld new n
