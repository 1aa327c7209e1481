-- XXH64 with seed 0 of a whole number of stripes of 32 bytes (Collet, xxHash fast digest algorithm, version 0.1.1).
use Rattle.std.specs.Prelude.{ℕ, zero, suc, ◌+◌, ◌-◌, ◌*◌, ◌/◌, ◌%◌, ◌^◌, List, length, drop, bit_xor}
use Rattle.std.specs.Int.{w64, rotate_left}
use Rattle.byteorder.specs.Endian.{little_number}
use Rattle.vm_sums.specs.declared.xxh64.Lanes.{Lanes}
use Rattle.vm_sums.specs.declared.xxh64.TheConstants.{PRIME_1, PRIME_2, PRIME_3, PRIME_4}

-- a lane after a word
abbrev pub rounded : ℕ → ℕ → ℕ
rounded lane word = rotate_left w64 ((lane + word * PRIME_2 % 2 ^ 64) % 2 ^ 64) 31 * PRIME_1 % 2 ^ 64

-- the word at a place
abbrev pub word_at : ℕ → List ℕ → ℕ
word_at at bytes = little_number 8 (drop at bytes)

-- the lanes before the first stripe
abbrev pub first_lanes : Lanes
first_lanes = record { first = (PRIME_1 + PRIME_2) % 2 ^ 64; second = PRIME_2; third = 0; fourth = (2 ^ 64 - PRIME_1) % 2 ^ 64 }

-- the lanes after the stripe at a place
abbrev pub after_stripe : List ℕ → ℕ → Lanes → Lanes
after_stripe bytes at lanes =
    record {
      first = rounded lanes.first (word_at at bytes);
      second = rounded lanes.second (word_at (at + 8) bytes);
      third = rounded lanes.third (word_at (at + 16) bytes);
      fourth = rounded lanes.fourth (word_at (at + 24) bytes);
    }

-- the lanes after so many stripes
unfoldable pub lanes_after : List ℕ → ℕ → Lanes
lanes_after bytes zero = first_lanes
lanes_after bytes (suc n) = after_stripe bytes (32 * n) (lanes_after bytes n)

-- a hash with a lane merged into it
abbrev pub merged : ℕ → ℕ → ℕ
merged hash lane = (bit_xor hash (rounded 0 lane) * PRIME_1 % 2 ^ 64 + PRIME_4) % 2 ^ 64

-- the four lanes as one number
abbrev pub joined : Lanes → ℕ
joined lanes =
    let two = (rotate_left w64 lanes.first 1 + rotate_left w64 lanes.second 7) % 2 ^ 64 in
    let four = ((two + rotate_left w64 lanes.third 12) % 2 ^ 64 + rotate_left w64 lanes.fourth 18) % 2 ^ 64 in
    merged (merged (merged (merged four lanes.first) lanes.second) lanes.third) lanes.fourth

-- each bit of a number spread over all of them
abbrev pub spread : ℕ → ℕ
spread hash =
    let once = bit_xor hash (hash / 2 ^ 33) * PRIME_2 % 2 ^ 64 in
    let twice = bit_xor once (once / 2 ^ 29) * PRIME_3 % 2 ^ 64 in
    bit_xor twice (twice / 2 ^ 32)

-- the hash of these bytes
abbrev pub hash_of : List ℕ → ℕ
hash_of bytes = spread ((joined (lanes_after bytes (length bytes / 32)) + length bytes) % 2 ^ 64)
