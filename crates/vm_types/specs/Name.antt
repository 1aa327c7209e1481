-- The rule of names.
use Rattle.std.specs.Prelude.{◌≡◌, ◌⊎◌, ℕ, ◌<◌, ◌≤◌, List, length, take, All}
use Rattle.vm_types.specs.Bytes.{IsPadded}

-- an ASCII letter or digit, `_`, `-` or `.`
abbrev pub IsNameByte : ℕ → Type 0
IsNameByte b =
    ((97 ≤ b) × (b ≤ 122)) ⊎ ((65 ≤ b) × (b ≤ 90)) ⊎ ((48 ≤ b) × (b ≤ 57)) ⊎ (b ≡ 95) ⊎ (b ≡ 45) ⊎ (b ≡ 46)

-- 1 to 32 letters, digits, `_`, `-`, `.`
pub record IsName (bytes : List ℕ) : Type 0 where
  pub some : 0 < length bytes
  pub few : length bytes ≤ 32
  pub each : All IsNameByte bytes

-- the array has n bytes, of which the first len are a name and the others are zero
pub record IsNameIn (n len : ℕ) (bytes : List ℕ) : Type 0 where
  pub padding : IsPadded n len bytes
  pub name : IsName (take len bytes)
