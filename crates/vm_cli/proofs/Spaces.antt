-- The first piece of a text, and the first word of a line.
use Rattle.std.proofs.Common.{◌≡◌, ◌<◌, ◌≤◌, ◌+◌, ◌-◌, ◌==◌, ◌∙◌, ℕ, Bool, true, false, List, [], ◌∷◌, length, take, drop, get_or, zero, suc, refl, arith, add-one}
use Rattle.std.proofs.lemmas.List.{take_rest}
use Rattle.std.specs.List.{slice_split, filter}
use Rattle.vm_cli.specs.lines.Pieces.{after_word, before_mark, behind_mark, without_spaces}
use Rattle.vm_cli.specs.lines.Spaces.{is_some_byte, with_word, words_of}

other : (b mark : ℕ) → (b ≡ mark → ⊥) → (b == mark) ≡ false
other b mark h = grind (arith, h)

same : (b mark : ℕ) → b ≡ mark → (b == mark) ≡ true
same b mark h = grind (arith, h)

pub before_mark-at : (i mark : ℕ) (bytes : List ℕ) → i < length bytes → get_or bytes i 0 ≡ mark → ((k : ℕ) → k < i → get_or bytes k 0 ≡ mark → ⊥)
    → take i bytes ≡ before_mark mark bytes
before_mark-at i mark [] lt at none = absurd (omega arith)
before_mark-at zero mark (b ∷ bytes) lt at none = rw (same b mark at) refl
before_mark-at (suc i) mark (b ∷ bytes) lt at none =
    rw (other b mark (none 0 (omega arith)), before_mark-at i mark bytes (omega arith) at (λ k h. none (suc k) (omega arith))) refl

behind_mark-drop : (i mark : ℕ) (bytes : List ℕ) → i < length bytes → get_or bytes i 0 ≡ mark → ((k : ℕ) → k < i → get_or bytes k 0 ≡ mark → ⊥)
    → drop (suc i) bytes ≡ behind_mark mark bytes
behind_mark-drop i mark [] lt at none = absurd (omega arith)
behind_mark-drop zero mark (b ∷ bytes) lt at none = rw (same b mark at) refl
behind_mark-drop (suc i) mark (b ∷ bytes) lt at none =
    rw (other b mark (none 0 (omega arith)), behind_mark-drop i mark bytes (omega arith) at (λ k h. none (suc k) (omega arith))) refl

pub behind_mark-at : (i mark : ℕ) (bytes : List ℕ) → i < length bytes → get_or bytes i 0 ≡ mark → ((k : ℕ) → k < i → get_or bytes k 0 ≡ mark → ⊥)
    → take (length bytes - (i + 1)) (drop (i + 1) bytes) ≡ behind_mark mark bytes
behind_mark-at i mark bytes lt at none = rw (take_rest bytes (i + 1), add-one i) (behind_mark-drop i mark bytes lt at none)

pub before_mark-none : (mark : ℕ) (bytes : List ℕ) → ((k : ℕ) → k < length bytes → get_or bytes k 0 ≡ mark → ⊥) → bytes ≡ before_mark mark bytes
before_mark-none mark [] none = refl
before_mark-none mark (b ∷ bytes) none =
    rw (other b mark (none 0 (omega arith)), ← before_mark-none mark bytes (λ k h. none (suc k) (omega arith))) refl

pub behind_mark-none : (mark : ℕ) (bytes : List ℕ) → ((k : ℕ) → k < length bytes → get_or bytes k 0 ≡ mark → ⊥) → [] ≡ behind_mark mark bytes
behind_mark-none mark [] none = refl
behind_mark-none mark (b ∷ bytes) none =
    rw (other b mark (none 0 (omega arith)), ← behind_mark-none mark bytes (λ k h. none (suc k) (omega arith))) refl

-- what a text is split into at spaces: its first piece, and others
abbrev Split : List ℕ → Type 0
Split bytes =
    (others : List (List ℕ)) × (slice_split (λ b. b == 32) bytes ≡ before_mark 32 bytes ∷ others) × (filter is_some_byte others ≡ words_of (behind_mark 32 bytes))

split : (bytes : List ℕ) → Split bytes
split [] = ([], refl, refl)
split (b ∷ bytes) = go (b == 32) refl (split bytes)
  where
    go : (t : Bool) → (b == 32) ≡ t → Split bytes → Split (b ∷ bytes)
    go true e rest = rw e (slice_split (λ x. x == 32) bytes, refl, refl)
    go false e rest = rw e (rest.0, rw rest.1 refl, rest.2)

with_first : (piece : List ℕ) (others : List (List ℕ)) → filter is_some_byte (piece ∷ others) ≡ with_word piece (filter is_some_byte others)
with_first [] others = refl
with_first (b ∷ piece) others = refl

words_of-first : (bytes : List ℕ) → words_of bytes ≡ with_word (before_mark 32 bytes) (words_of (behind_mark 32 bytes))
words_of-first bytes =
    let parts = split bytes in
    rw (parts.1, ← parts.2) (with_first (before_mark 32 bytes) parts.0)

-- the words of a line, by its first piece and what stands behind it
pub words_of-pieces : (bytes piece rest : List ℕ) → piece ≡ before_mark 32 bytes → rest ≡ behind_mark 32 bytes
    → words_of bytes ≡ with_word piece (words_of rest)
words_of-pieces bytes piece rest p r = rw (p, r) (words_of-first bytes)

with_word-longer : (piece : List ℕ) (words : List (List ℕ)) → length words ≤ length (with_word piece words)
with_word-longer [] words = omega arith
with_word-longer (b ∷ piece) words = omega arith

-- a line has no more words than bytes
pub words_of-few : (bytes : List ℕ) → length (words_of bytes) ≤ length bytes
words_of-few [] = omega arith
words_of-few (b ∷ bytes) = go (b == 32) refl (split bytes) (words_of-few bytes)
  where
    go : (t : Bool) → (b == 32) ≡ t → Split bytes → length (words_of bytes) ≤ length bytes → length (words_of (b ∷ bytes)) ≤ suc (length bytes)
    go true e parts few = rw e (omega (arith, few))
    go false e parts few =
        let with_piece = with_word-longer (before_mark 32 bytes) (words_of (behind_mark 32 bytes)) in
        let longer = rw (← words_of-first bytes) at with_piece in
        rw (e, parts.1, parts.2) (omega (arith, few, longer))

-- spaces at the front stand in no word
words_of-without_spaces : (bytes : List ℕ) → words_of bytes ≡ words_of (without_spaces bytes)
words_of-without_spaces [] = refl
words_of-without_spaces (b ∷ bytes) = go (b == 32) refl (words_of-without_spaces bytes)
  where
    go : (space : Bool) → (b == 32) ≡ space → words_of bytes ≡ words_of (without_spaces bytes) → words_of (b ∷ bytes) ≡ words_of (without_spaces (b ∷ bytes))
    go true is same = rw is same
    go false is same = rw (is, is) refl

-- bytes without spaces at their front have a first word, if there are any
without_spaces-none : (bytes : List ℕ) → [] ≡ before_mark 32 (without_spaces bytes) → without_spaces bytes ≡ []
without_spaces-none [] none = refl
without_spaces-none (b ∷ bytes) none = go (b == 32) refl none (without_spaces-none bytes)
  where
    go : (space : Bool) → (b == 32) ≡ space → [] ≡ before_mark 32 (without_spaces (b ∷ bytes)) → ([] ≡ before_mark 32 (without_spaces bytes) → without_spaces bytes ≡ [])
        → without_spaces (b ∷ bytes) ≡ []
    go true is none' later = rw is (later (rw is at none'))
    go false is none' later = let bad = rw (is, is) at none' in cc

-- a line whose first word has no byte has no word
pub words_of-none : (bytes word : List ℕ) → word ≡ before_mark 32 (without_spaces bytes) → (length word == 0) ≡ true → words_of bytes ≡ []
words_of-none bytes [] first empty = rw (words_of-without_spaces bytes, without_spaces-none bytes first) refl
words_of-none bytes (b ∷ word) first empty = absurd (grind (arith, empty))

-- the words of any other line: its first word, and those of all that follows
pub words_of-word : (bytes word rest : List ℕ) → word ≡ before_mark 32 (without_spaces bytes) → rest ≡ after_word bytes → (length word == 0) ≡ false
    → words_of bytes ≡ word ∷ words_of rest
words_of-word bytes [] rest first behind some = absurd (grind (arith, some))
words_of-word bytes (b ∷ word) rest first behind some = words_of-without_spaces bytes ∙ words_of-pieces (without_spaces bytes) (b ∷ word) rest first behind
