-- Values as they are written in lines.
use Rattle.vm_types.specs.Bytes.{longest}
use Rattle.std.specs.Prelude.{◌≡◌, ◌+◌, ◌-◌, ◌*◌, ◌/◌, ◌%◌, ◌<◌, ◌==◌, ◌&&◌, ◌++◌, ℕ, Bool, true, not, List, [], ◌∷◌, Option, Some, None, codes, if◌then◌else◌, length, nat_le, nat_lt, option_and_then, option_map}
use Rattle.std.specs.Str.{bytes_eq}

-- what a hexadecimal digit of either case stands for
abbrev pub hex_digit : ℕ → Option ℕ
hex_digit c =
    if nat_le 48 c && nat_le c 57 then Some (c - 48)
    else (if nat_le 65 c && nat_le c 70 then Some (c - 55)
    else (if nat_le 97 c && nat_le c 102 then Some (c - 87) else None))

-- the byte that two hexadecimal digits stand for
abbrev pub byte_of : Option ℕ → Option ℕ → Option ℕ
byte_of high low = option_and_then (λ h. option_map (λ l. h * 16 + l) low) high

-- a byte in front of further ones
abbrev pub with_front : Option ℕ → Option (List ℕ) → Option (List ℕ)
with_front byte more = option_and_then (λ b. option_map (λ bytes. b ∷ bytes) more) byte

-- a byte that stands for itself: any but `%` (37)
abbrev pub literal : ℕ → Option ℕ
literal b = if b == 37 then None else Some b

-- the bytes that a word spells: `%` and two hexadecimal digits are one byte, each other byte stands for itself
abbrev pub unescaped : List ℕ → Option (List ℕ)
unescaped [] = Some []
unescaped (b ∷ []) = with_front (literal b) (Some [])
unescaped (b ∷ c ∷ []) = with_front (literal b) (unescaped (c ∷ []))
unescaped (b ∷ c ∷ d ∷ rest) =
    if b == 37 then with_front (byte_of (hex_digit c) (hex_digit d)) (unescaped rest)
    else with_front (Some b) (unescaped (c ∷ d ∷ rest))

-- bytes that are few enough for a value
abbrev pub short_enough : List ℕ → Option (List ℕ)
short_enough bytes = if nat_le (length bytes) longest then Some bytes else None

-- the value that a word spells, with `-` for the empty one
abbrev pub value_of : List ℕ → Option (List ℕ)
value_of word = if bytes_eq word (codes "-") then Some [] else option_and_then short_enough (unescaped word)

-- a byte that is written as itself: 0x21 to 0x7D, but not `%`
abbrev pub is_plain : ℕ → Bool
is_plain b = nat_le 33 b && (nat_le b 125 && not (b == 37))

-- each byte is written as itself
abbrev pub ArePlain : List ℕ → Type 0
ArePlain [] = Unit {0}
ArePlain (b ∷ bytes) = (is_plain b ≡ true) × ArePlain bytes

-- a hexadecimal digit, in upper case
abbrev pub hex_text : ℕ → ℕ
hex_text n = if nat_lt n 10 then 48 + n else 55 + n

-- how a byte is written
abbrev pub byte_text : ℕ → List ℕ
byte_text b = if is_plain b then b ∷ [] else 37 ∷ hex_text (b / 16) ∷ hex_text (b % 16) ∷ []

-- how bytes are written
abbrev pub escaped : List ℕ → List ℕ
escaped [] = []
escaped (b ∷ bytes) = byte_text b ++ escaped bytes

-- how a value is written: `-` is the empty one, so the value `-` is escaped
abbrev pub value_text : List ℕ → List ℕ
value_text [] = codes "-"
value_text (b ∷ bytes) = if bytes_eq (b ∷ bytes) (codes "-") then codes "%2D" else escaped (b ∷ bytes)

-- a word spells this byte first, and then what this rest of it spells, which is shorter
abbrev pub SpellsFirst : List ℕ → ℕ → List ℕ → Type 0
SpellsFirst word byte rest = (unescaped word ≡ option_map (λ bytes. byte ∷ bytes) (unescaped rest)) × (length rest < length word)
