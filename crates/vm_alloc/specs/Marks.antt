use Rattle.std.specs.Prelude.{◌≡◌, ℕ, Bool, true, false, List, slice_index_or}

-- is this block marked?
abbrev pub is_marked : List Bool → ℕ → Bool
is_marked marks n = slice_index_or marks n false

-- this block is marked
abbrev pub IsMarked : List Bool → ℕ → Type 0
IsMarked marks n = is_marked marks n ≡ true
