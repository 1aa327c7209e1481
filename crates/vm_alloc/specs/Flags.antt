use Rattle.std.specs.Prelude.{◌≡◌, ℕ, ◌+◌, ◌/◌, ◌≤◌, Bool, false, List, length, map}
use Rattle.std.specs.List.{range_with_len}
use Rattle.vm_types.specs.declared.sizes.TheConstants.{MAX_BLOCKS}
use Rattle.vm_alloc.specs.Words.{is_bit_set}

-- the first bits of words, as flags
unfoldable pub flags_of : List ℕ → ℕ → List Bool
flags_of words count = map (is_bit_set words) (range_with_len 0 count)

-- there are exactly as many words as the flags need, and no bit after the flags is set
pub record IsPacked (words : List ℕ) (count : ℕ) : Type 0 where
  pub few : count ≤ MAX_BLOCKS
  pub fits : length words ≡ (count + 63) / 64
  pub clear : (k : ℕ) → count ≤ k → is_bit_set words k ≡ false
