-- Settlements, read one after another.
use Rattle.std.proofs.Common.{◌≡◌, ◌≢◌, ◌++◌, ◌∙◌, ℕ, List, [], ◌∷◌, Option, Some, None, append-nil, append_assoc, option_map, refl, ap, sym}
use Rattle.vm_types.specs.declared.command.Side.{Side}
use Rattle.vm_types.specs.declared.key.Key.{Key}
use Rattle.vm_cli.specs.lines.Settlements.{settled_of, settlement_of}

-- the settlements so far, and those that further words say
abbrev pub followed : List (Key × Side) → Option (List (Key × Side)) → Option (List (Key × Side))
followed sides more = option_map (λ settled. sides ++ settled) more

-- none so far
pub followed-start : (more : Option (List (Key × Side))) → more ≡ followed [] more
followed-start None = refl
followed-start (Some settled) = refl

-- one more
pub followed-next : (all : Option (List (Key × Side))) (sides : List (Key × Side)) (side : Key × Side) (words after : List (List ℕ)) (word : List ℕ)
    → all ≡ followed sides (settled_of words) → words ≡ word ∷ after → Some side ≡ settlement_of word
    → all ≡ followed (sides ++ side ∷ []) (settled_of after)
followed-next all sides side words after word so_far first says = so_far ∙ rw (first, ← says) (go (settled_of after))
  where
    go : (more : Option (List (Key × Side))) → followed sides (option_map (λ settled. side ∷ settled) more) ≡ followed (sides ++ side ∷ []) more
    go None = refl
    go (Some settled) = ap (λ (s : List (Key × Side)). Some s) (sym (append_assoc sides (side ∷ []) settled))

-- a word that says none
pub followed-bad : (all : Option (List (Key × Side))) (sides : List (Key × Side)) (words after : List (List ℕ)) (word : List ℕ)
    → all ≡ followed sides (settled_of words) → words ≡ word ∷ after → None ≡ settlement_of word → None ≡ all
followed-bad all sides words after word so_far first says = sym (so_far ∙ rw (first, ← says) refl)

-- no word is left
pub followed-end : (all : Option (List (Key × Side))) (sides : List (Key × Side)) (words : List (List ℕ))
    → all ≡ followed sides (settled_of words) → words ≡ [] → Some sides ≡ all
followed-end all sides words so_far none = sym (so_far ∙ rw none (ap (λ (s : List (Key × Side)). Some s) (append-nil sides)))

-- where a word is left, there was one from the start
pub followed-some : (line words after : List (List ℕ)) (word : List ℕ) (sides : List (Key × Side)) (side : Key × Side)
    → settled_of line ≡ followed sides (settled_of words) → words ≡ word ∷ after → Some side ≡ settlement_of word → line ≢ []
followed-some line words after word sides side so_far first says none =
    go sides (settled_of after) (rw (none, first, ← says) at so_far)
  where
    go : (sides : List (Key × Side)) (more : Option (List (Key × Side))) → Some [] ≡ followed sides (option_map (λ settled. side ∷ settled) more) → ⊥
    go sides None e = cc
    go [] (Some settled) e = cc
    go (s ∷ sides) (Some settled) e = cc
