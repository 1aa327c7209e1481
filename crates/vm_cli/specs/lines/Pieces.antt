-- The pieces of a text, and what follows its first word.
use Rattle.std.specs.Prelude.{◌==◌, ℕ, List, [], ◌∷◌, if◌then◌else◌}

-- what stands before the first mark, and all bytes if there is none
abbrev pub before_mark : ℕ → List ℕ → List ℕ
before_mark mark [] = []
before_mark mark (b ∷ bytes) = if b == mark then [] else b ∷ before_mark mark bytes

-- what stands after the first mark, and nothing if there is none
abbrev pub behind_mark : ℕ → List ℕ → List ℕ
behind_mark mark [] = []
behind_mark mark (b ∷ bytes) = if b == mark then bytes else behind_mark mark bytes

-- the bytes without the spaces (32) at their front
abbrev pub without_spaces : List ℕ → List ℕ
without_spaces [] = []
without_spaces (b ∷ bytes) = if b == 32 then without_spaces bytes else b ∷ bytes

-- all that follows the first space after the first word
abbrev pub after_word : List ℕ → List ℕ
after_word bytes = behind_mark 32 (without_spaces bytes)
