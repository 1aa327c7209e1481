use Rattle.std.specs.Prelude.{ℕ, ◌/◌, ◌%◌, Bool, List, eqb, slice_index}
use Rattle.std.specs.Int.{bit_at}

-- is bit n set, of bits that lie 64 in a word?
abbrev pub is_bit_set : List ℕ → ℕ → Bool
is_bit_set words n = eqb (bit_at (slice_index words (n / 64)) (n % 64)) 1
