-- Lines that are given as words.
use Rattle.std.specs.Prelude.{ℕ, List, [], ◌∷◌, ◌++◌, flat_map}
use Rattle.clap.specs.Words.{Text}

-- the input whose lines they are: a line feed (10) ends each
abbrev pub input_of : List Text → List ℕ
input_of lines = flat_map (λ line. line ++ 10 ∷ []) lines
