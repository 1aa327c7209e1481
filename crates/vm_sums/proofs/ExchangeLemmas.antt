-- An exchange done twice changes nothing.
use Rattle.std.proofs.Common.{◌≡◌, ℕ, ◌+◌, ◌-◌, ◌<◌, ◌≤◌, ◌%◌, ◌^◌, nat_lt, Bool, true, false, if◌then◌else◌, List, ◌++◌, length, take, drop, get_or, refl, sym, ap, ◌∙◌, subst, arith}
use Rattle.std.specs.Int.Bits.{bit_xor, xor_assoc, xor_self, xor_zero_r}
use Rattle.std.proofs.lemmas.Nat.{xor_lt, mod_below}
use Rattle.std.proofs.lemmas.List.{append_assoc, length-append, length-drop, drop-drop, drop_at, take_at, length-take-le, take-append-drop, get_or-drop}
use Rattle.byteorder.specs.Endian.{little_bytes, little_number}
use Rattle.byteorder.specs.Numbers.{length-bytes_low_first, little_from-lt, little_number-reads_back}
use borrow.Rule.Slice.PartMut.{put_mid, mid_of}
use Rattle.vm_block.proofs.Pieces.{spelled_number, then_writes}
use Rattle.vm_types.specs.declared.sizes.TheConstants.{FIRST_DATA}
use Rattle.vm_sums.specs.Hash.{hash_of}
use Rattle.vm_sums.specs.Sums.{exchanged, number_at, sum_of, sum_place, summed, with_number}

module _ (p : ℕ) (bytes : List ℕ) (room : p + 4 ≤ length bytes) where
  -- the bytes with a number in them, as three parts
  spelled : (x : ℕ) → with_number p x bytes ≡ take p bytes ++ (little_bytes 4 x ++ drop (p + 4) bytes)
  spelled x = append_assoc (take p bytes) (little_bytes 4 x) (drop (p + 4) bytes)

  front : length (take p bytes) ≡ p
  front = length-take-le p bytes (omega (arith, room))

  -- the bytes before a number
  before : (x : ℕ) → take p (with_number p x bytes) ≡ take p bytes
  before x = ap (take p) (spelled x) ∙ take_at (take p bytes) (little_bytes 4 x ++ drop (p + 4) bytes) p front

  -- the number and the bytes behind it
  from_there : (x : ℕ) → drop p (with_number p x bytes) ≡ little_bytes 4 x ++ drop (p + 4) bytes
  from_there x = ap (drop p) (spelled x) ∙ drop_at (take p bytes) (little_bytes 4 x ++ drop (p + 4) bytes) p front

  -- the bytes behind it
  behind : (x : ℕ) → drop (p + 4) (with_number p x bytes) ≡ drop (p + 4) bytes
  behind x =
      sym (drop-drop 4 p (with_number p x bytes)) ∙ ap (drop 4) (from_there x)
      ∙ drop_at (little_bytes 4 x) (drop (p + 4) bytes) 4 (length-bytes_low_first 0 4 x)

  -- a second number takes the place of the first
  pub number_again : (x y : ℕ) → with_number p y (with_number p x bytes) ≡ with_number p y bytes
  number_again x y =
      ap (λ z. z ++ little_bytes 4 y ++ drop (p + 4) (with_number p x bytes)) (before x)
      ∙ ap (λ z. take p bytes ++ little_bytes 4 y ++ z) (behind x)

  -- the number is read again
  number_back : (x : ℕ) → x < 2 ^ 32 → number_at p (with_number p x bytes) ≡ x
  number_back x small = ap (little_number 4) (from_there x) ∙ little_number-reads_back 4 x (drop (p + 4) bytes) small

  module _ (small : (k : ℕ) → get_or bytes k 0 < 256) where
    there : (k : ℕ) → get_or (drop p bytes) k 0 < 256
    there k = let R : ℕ → Type 0 = λ z. z < 256 in subst R (sym (get_or-drop p bytes k 0)) (small (p + k))

    -- the number that is there changes nothing
    number_kept : with_number p (number_at p bytes) bytes ≡ bytes
    number_kept =
        spelled (number_at p bytes)
        ∙ ap (λ z. take p bytes ++ (z ++ drop (p + 4) bytes)) (sym (spelled_number 4 (drop p bytes) there (omega (arith, room, length-drop p bytes))))
        ∙ ap (λ z. take p bytes ++ (take 4 (drop p bytes) ++ z)) (sym (drop-drop 4 p bytes))
        ∙ ap (λ z. take p bytes ++ z) (take-append-drop 4 (drop p bytes))
        ∙ take-append-drop p bytes

    number_small : number_at p bytes < 2 ^ 32
    number_small = little_from-lt 0 4 (drop p bytes) there

    -- an exchange done twice changes nothing
    pub exchanged_twice : (n : ℕ) → exchanged n p (exchanged n p bytes) ≡ bytes
    exchanged_twice n =
        let stored = number_at p bytes in
        let sum = sum_of n p bytes in
        let once = with_number p (bit_xor stored sum) bytes in
        let fits : bit_xor stored sum < 2 ^ 32 = xor_lt 32 stored sum number_small (mod_below (hash_of (with_number p n bytes)) (2 ^ 32) (omega arith)) in
        let same : sum_of n p once ≡ sum = ap (λ z. hash_of z % 2 ^ 32) (number_again (bit_xor stored sum) n) in
        let back : bit_xor (number_at p once) (sum_of n p once) ≡ stored =
        ap (λ z. bit_xor z (sum_of n p once)) (number_back (bit_xor stored sum) fits) ∙ ap (bit_xor (bit_xor stored sum)) same
        ∙ xor_assoc stored sum sum ∙ ap (bit_xor stored) (xor_self sum) ∙ xor_zero_r stored in
        number_again (bit_xor stored sum) (bit_xor (number_at p once) (sum_of n p once)) ∙ ap (λ z. with_number p z bytes) back ∙ number_kept

-- a number that was written at a place
pub numbered : (p x k : ℕ) (bytes new : List ℕ) → p + 4 ≤ length bytes → k ≡ length bytes - p → new ≡ little_bytes 4 x ++ drop 4 (mid_of p k bytes) → put_mid p k bytes new ≡ with_number p x bytes
numbered p x k bytes new room far wrote =
    then_writes (take p bytes) (little_bytes 4 x) bytes bytes new p k 4 (p + 4) (sym (take-append-drop p bytes)) (length-take-le p bytes (omega (arith, room))) far wrote refl

-- there are as many bytes
pub length-with_number : (p x : ℕ) (bytes : List ℕ) → p + 4 ≤ length bytes → length (with_number p x bytes) ≡ length bytes
length-with_number p x bytes room =
    omega (arith, room, length-append (take p bytes ++ little_bytes 4 x) (drop (p + 4) bytes), length-append (take p bytes) (little_bytes 4 x), length-take-le p bytes (omega (arith, room)), length-drop (p + 4) bytes, length-bytes_low_first 0 4 x)

-- what a block shows, shown again, is the block
pub summed_twice : (n : ℕ) (bytes : List ℕ) → length bytes ≡ 4096 → ((k : ℕ) → get_or bytes k 0 < 256) → summed n (summed n bytes) ≡ bytes
summed_twice n bytes many small = by_sum (nat_lt n 2)
  where
    by_place : (first : Bool) → exchanged n (if first then 124 else 12) (exchanged n (if first then 124 else 12) bytes) ≡ bytes
    by_place true = exchanged_twice 124 bytes (omega (arith, many)) small n
    by_place false = exchanged_twice 12 bytes (omega (arith, many)) small n

    by_sum : (none : Bool) → (if none then (if none then bytes else exchanged n (sum_place n) bytes) else exchanged n (sum_place n) (if none then bytes else exchanged n (sum_place n) bytes)) ≡ bytes
    by_sum true = refl
    by_sum false = by_place (nat_lt n FIRST_DATA)
