-- Blocks that only one of two trees has.
use Rattle.std.specs.Prelude.{ℕ, ◌+◌, ◌==◌, ◌||◌, Bool, List, [], ◌∷◌, if◌then◌else◌}
use Rattle.std.specs.List.{list_any}

-- whether block n is one of these
abbrev pub is_among : List ℕ → ℕ → Bool
is_among bs n = list_any (λ b. b == n) bs

-- how many of the blocks are none of the others, each counted once
abbrev pub outside : List ℕ → List ℕ → ℕ
outside others [] = 0
outside others (b ∷ bs) = (if is_among others b || is_among bs b then 0 else 1) + outside others bs

-- how many blocks of two trees are in one of them alone
abbrev pub unshared : List ℕ → List ℕ → ℕ
unshared bs cs = outside cs bs + outside bs cs
