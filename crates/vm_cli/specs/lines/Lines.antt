-- The lines of an input.
use Rattle.std.specs.Prelude.{◌≢◌, ◌==◌, ℕ, List, [], ◌∷◌, if◌then◌else◌}

-- a byte at the front of the first line
abbrev pub onto_first : ℕ → List (List ℕ) → List (List ℕ)
onto_first b [] = (b ∷ []) ∷ []
onto_first b (line ∷ lines) = (b ∷ line) ∷ lines

-- an input cut into lines: each line feed (10) ends one, and the end of the input directly after one begins none
abbrev pub lines_of : List ℕ → List (List ℕ)
lines_of [] = []
lines_of (b ∷ bytes) = if b == 10 then [] ∷ lines_of bytes else onto_first b (lines_of bytes)

-- no line feed (10) stands in it
abbrev pub IsPart : List ℕ → Type 0
IsPart [] = Unit {0}
IsPart (b ∷ bytes) = (b ≢ 10) × IsPart bytes
