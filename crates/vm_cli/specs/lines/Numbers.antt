-- Numbers in lines.
use Rattle.std.specs.Prelude.{◌+◌, ◌-◌, ◌*◌, ◌&&◌, ℕ, Bool, List, [], ◌∷◌, Option, Some, None, if◌then◌else◌, length, nat_le, option_and_then, option_map}
use Rattle.vm_types.specs.declared.key.Key.{Key}

-- a byte is a decimal digit
abbrev pub is_digit : ℕ → Bool
is_digit b = nat_le 48 b && nat_le b 57

-- the number that decimal digits say when they follow those of n
abbrev pub digits_after : ℕ → List ℕ → Option ℕ
digits_after n [] = Some n
digits_after n (d ∷ digits) = if is_digit d then digits_after (n * 10 + (d - 48)) digits else None

-- a number of at most `most`
abbrev pub at_most : ℕ → ℕ → Option ℕ
at_most most n = if nat_le n most then Some n else None

-- the number that a word of 1 to 20 decimal digits says, if it is at most `most`
abbrev pub number_of : ℕ → List ℕ → Option ℕ
number_of most word =
    if nat_le 1 (length word) && nat_le (length word) 20 then option_and_then (at_most most) (digits_after 0 word) else None

-- the key that two words say
abbrev pub key_of : List ℕ → List ℕ → Option Key
key_of table number =
    option_and_then (λ t. option_map (λ n. record { table = t; number = n }) (number_of 18446744073709551615 number)) (number_of 65535 table)
