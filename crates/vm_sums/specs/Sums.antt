-- Where the sum of a block stands, and what a block shows.
use Rattle.std.specs.Prelude.{◌≡◌, ℕ, ◌+◌, ◌%◌, ◌^◌, nat_lt, if◌then◌else◌, List, ◌++◌, take, drop, bit_xor}
use Rattle.byteorder.specs.Endian.{little_bytes, little_number}
use Rattle.vm_types.specs.declared.sizes.TheConstants.{FIRST_DATA}
use Rattle.vm_sums.specs.Hash.{hash_of}

-- the place of the sum in block n: in the first cell of a block of a slot, or in the head of a data block
abbrev pub sum_place : ℕ → ℕ
sum_place n = if nat_lt n FIRST_DATA then 124 else 12

-- the number at a place
abbrev pub number_at : ℕ → List ℕ → ℕ
number_at p bytes = little_number 4 (drop p bytes)

-- the bytes with a number of 32 bits at a place
abbrev pub with_number : ℕ → ℕ → List ℕ → List ℕ
with_number p x bytes = take p bytes ++ little_bytes 4 x ++ drop (p + 4) bytes

-- the sum of block n, with these bytes, which stands at a place
abbrev pub sum_of : ℕ → ℕ → List ℕ → ℕ
sum_of n p bytes = hash_of (with_number p n bytes) % 2 ^ 32

-- the bytes with the number at that place exchanged for it XOR the sum
abbrev pub exchanged : ℕ → ℕ → List ℕ → List ℕ
exchanged n p bytes = with_number p (bit_xor (number_at p bytes) (sum_of n p bytes)) bytes

-- what block n shows: the header and the selector have no sum
abbrev pub summed : ℕ → List ℕ → List ℕ
summed n bytes = if nat_lt n 2 then bytes else exchanged n (sum_place n) bytes

-- a block that shows these bytes holds zero in the place of its sum: what shows there is that sum
abbrev pub IsWithoutSum : ℕ → List ℕ → Type 0
IsWithoutSum n bytes = number_at (sum_place n) (summed n bytes) ≡ 0
