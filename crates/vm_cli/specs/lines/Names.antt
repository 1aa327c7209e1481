-- Names in lines, and the versions that words say by them.
use Rattle.std.specs.Prelude.{◌==◌, ◌&&◌, ◌||◌, ℕ, Bool, List, [], ◌∷◌, Option, Some, None, if◌then◌else◌, length, nat_le, option_and_then, option_map}
use Rattle.std.specs.List.{list_all}
use Rattle.vm_types.specs.declared.at.At.{At}
use Rattle.vm_types.specs.declared.at.Of.{Of}
use Rattle.vm_types.specs.declared.at.Of.TheVariants as meant
use Rattle.vm_cli.specs.lines.Pieces.{before_mark, behind_mark}

-- a byte may stand in a name: an ASCII letter or digit, `_`, `-` or `.`
abbrev pub is_name_byte : ℕ → Bool
is_name_byte b =
    (nat_le 97 b && nat_le b 122) || ((nat_le 65 b && nat_le b 90) || ((nat_le 48 b && nat_le b 57) || (b == 95 || (b == 45 || b == 46))))

-- the name that a word is: 1 to 32 such bytes
abbrev pub name_of : List ℕ → Option (List ℕ)
name_of word = if nat_le 1 (length word) && (nat_le (length word) 32 && list_all is_name_byte word) then Some word else None

-- the records of an alternative that are meant by what stands after the `@`: its base, or those of a checkpoint
abbrev pub meant_behind : List ℕ → Option Of
meant_behind [] = Some meant.Base
meant_behind (b ∷ bytes) = option_map meant.Checkpoint (name_of (b ∷ bytes))

-- the records of an alternative that a word means: the current ones, if there is no `@` (64) in it
abbrev pub meant_of : List ℕ → Option Of
meant_of word = if length (before_mark 64 word) == length word then Some meant.Current else meant_behind (behind_mark 64 word)

-- the version that a word says: `ALT`, `ALT@` or `ALT@CHECKPOINT`
abbrev pub at_of : List ℕ → Option At
at_of word = option_and_then (λ a. option_map (λ of. record { alt = a; of = of }) (meant_of word)) (name_of (before_mark 64 word))
