-- The words of a line, which spaces part.
use Rattle.std.specs.Prelude.{◌≡◌, ◌==◌, ℕ, Bool, true, false, List, [], ◌∷◌}
use Rattle.std.specs.List.{slice_split, filter}

-- there is a byte
abbrev pub is_some_byte : List ℕ → Bool
is_some_byte [] = false
is_some_byte (b ∷ bytes) = true

-- the words: what stands between spaces (32), if that is not nothing
abbrev pub words_of : List ℕ → List (List ℕ)
words_of bytes = filter is_some_byte (slice_split (λ b. b == 32) bytes)

-- a piece in front of words, if it is a word
abbrev pub with_word : List ℕ → List (List ℕ) → List (List ℕ)
with_word [] words = words
with_word (b ∷ bytes) words = (b ∷ bytes) ∷ words

-- a line begins with this word, and these bytes have the others
abbrev pub BeginsWith : List ℕ → List ℕ → List ℕ → Type 0
BeginsWith line word rest = words_of line ≡ word ∷ words_of rest

-- a line has a word
abbrev pub HasWord : List ℕ → Type 0
HasWord line = (word : List ℕ) × (words : List (List ℕ)) × (words_of line ≡ word ∷ words)
