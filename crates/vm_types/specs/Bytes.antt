-- Bytes in an array: the first ones count, and the others are zero.
use Rattle.std.specs.Prelude.{◌≡◌, ℕ, ◌-◌, ◌≤◌, List, ◌++◌, length, take, drop, replicate}
use Rattle.std.proofs.Common.{ap, sym, ◌∙◌, arith}
use Rattle.std.proofs.lemmas.List.{take-append-drop, length-take-le}
use Rattle.vm_types.specs.declared.value.TheConstants.Value.{MAX_LEN}

-- the greatest number of bytes of a value
abbrev pub longest : ℕ
longest = MAX_LEN

-- the array has n bytes, of which the first len count and the others are zero
pub record IsPadded (n len : ℕ) (bytes : List ℕ) : Type 0 where
  pub whole : length bytes ≡ n
  pub fits : len ≤ n
  pub zeros : drop len bytes ≡ replicate (n - len) 0

-- the bytes, and zero bytes after them, n in all
abbrev pub padded : ℕ → List ℕ → List ℕ
padded n bytes = bytes ++ replicate (n - length bytes) 0

-- this many bytes count
pub length-counted : (n len : ℕ) (bytes : List ℕ) → IsPadded n len bytes → length (take len bytes) ≡ len
length-counted n len bytes h = length-take-le len bytes (omega (arith, h.whole, h.fits))

-- what counts, padded again, is the array
pub padded-counted : (n len : ℕ) (bytes : List ℕ) → IsPadded n len bytes → padded n (take len bytes) ≡ bytes
padded-counted n len bytes h =
    ap (λ k. take len bytes ++ replicate (n - k) 0) (length-counted n len bytes h)
    ∙ ap (λ rest. take len bytes ++ rest) (sym h.zeros)
    ∙ take-append-drop len bytes
