-- Settlements in lines.
use Rattle.std.specs.List.{list_any}
use Rattle.std.specs.Prelude.{◌≡◌, ◌++◌, ℕ, Bool, List, [], ◌∷◌, Option, Some, None, codes, if◌then◌else◌, option_and_then, option_map}
use Rattle.std.specs.Str.{bytes_eq}
use Rattle.vm_types.specs.Map.{same_key}
use Rattle.vm_types.specs.declared.change.Conflict.{Conflict}
use Rattle.vm_types.specs.declared.command.Side.{Side}
use Rattle.vm_types.specs.declared.command.Side.TheVariants.{Mine, Theirs}
use Rattle.vm_types.specs.declared.key.Key.{Key}
use Rattle.vm_cli.specs.lines.Numbers.{key_of}
use Rattle.vm_cli.specs.lines.Pieces.{before_mark, behind_mark}

-- the side that a word names
abbrev pub side_of : List ℕ → Option Side
side_of word = if bytes_eq word (codes "mine") then Some Mine else (if bytes_eq word (codes "theirs") then Some Theirs else None)

-- the settlement that three words say
abbrev pub settlement_by : List ℕ → List ℕ → List ℕ → Option (Key × Side)
settlement_by table number side = option_and_then (λ k. option_map (λ s. (k, s)) (side_of side)) (key_of table number)

-- the settlement that a word says, `TABLE:NUMBER=SIDE`; 58 is `:`, and 61 is `=`
abbrev pub settlement_of : List ℕ → Option (Key × Side)
settlement_of word =
    let rest = behind_mark 58 word in
    settlement_by (before_mark 58 word) (before_mark 61 rest) (behind_mark 61 rest)

-- one settlement in front of further ones
abbrev pub with_settlement : Option (Key × Side) → Option (List (Key × Side)) → Option (List (Key × Side))
with_settlement first more = option_and_then (λ s. option_map (λ settled. s ∷ settled) more) first

-- the settlements that words say, in their order
abbrev pub settled_of : List (List ℕ) → Option (List (Key × Side))
settled_of [] = Some []
settled_of (word ∷ words) = with_settlement (settlement_of word) (settled_of words)

-- the side for all conflicts that a word says, `all=SIDE`
abbrev pub side_for_all : List ℕ → Option Side
side_for_all word = if bytes_eq (before_mark 61 word) (codes "all") then side_of (behind_mark 61 word) else None

-- a key has one of these settlements
abbrev pub is_settled : List (Key × Side) → Key → Bool
is_settled settled key = list_any (λ (s : Key × Side). same_key key s.0) settled

-- a settlement by this side for each of these conflicts that has none
abbrev pub for_others : Side → List (Key × Side) → List Conflict → List (Key × Side)
for_others side settled [] = []
for_others side settled (c ∷ conflicts) = if is_settled settled c.key then for_others side settled conflicts else (c.key, side) ∷ for_others side settled conflicts

-- these settlements, and after them one by this side for each other conflict
abbrev pub for_all : Side → List (Key × Side) → List Conflict → List (Key × Side)
for_all side settled conflicts = settled ++ for_others side settled conflicts

-- the first of these words, if there is one, says no side for all conflicts
abbrev pub SaysNoSide : List (List ℕ) → Type 0
SaysNoSide [] = Unit {0}
SaysNoSide (word ∷ words) = side_for_all word ≡ None

-- the first of these words says this side for all conflicts, and these stand after it
pub record SaysSide (side : Side) (after words : List (List ℕ)) : Type 0 where
  pub word : List ℕ
  pub first : words ≡ word ∷ after
  pub says : side_for_all word ≡ Some side
