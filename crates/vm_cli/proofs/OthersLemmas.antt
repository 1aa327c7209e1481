-- Settlements of the other conflicts.
use Rattle.std.proofs.Common.{◌≡◌, ◌++◌, ◌+◌, ◌<◌, ℕ, Bool, true, false, List, [], ◌∷◌, cond, get_or, length, take, refl, sym, ap, ◌∙◌, append-nil}
use Rattle.std.proofs.lemmas.List.{take_more}
use Rattle.vm_types.specs.declared.change.Conflict.{Conflict}
use Rattle.vm_types.specs.declared.command.Side.{Side}
use Rattle.vm_types.specs.declared.key.Key.{Key}
use Rattle.vm_cli.specs.lines.Settlements.{for_others, is_settled}

-- one conflict more
for_others-more : (side : Side) (settled : List (Key × Side)) (conflicts : List Conflict) (c : Conflict)
    → for_others side settled (conflicts ++ c ∷ []) ≡ for_others side settled conflicts ++ cond {A = List (Key × Side)} (is_settled settled c.key) [] ((c.key, side) ∷ [])
for_others-more side settled [] c = go (is_settled settled c.key)
  where
    go : (b : Bool) → cond {A = List (Key × Side)} b [] ((c.key, side) ∷ []) ≡ [] ++ cond {A = List (Key × Side)} b [] ((c.key, side) ∷ [])
    go true = refl
    go false = refl
for_others-more side settled (d ∷ conflicts) c = go (is_settled settled d.key) (for_others-more side settled conflicts c)
  where
    go : (b : Bool) → for_others side settled (conflicts ++ c ∷ []) ≡ for_others side settled conflicts ++ cond {A = List (Key × Side)} (is_settled settled c.key) [] ((c.key, side) ∷ [])
        → cond {A = List (Key × Side)} b (for_others side settled (conflicts ++ c ∷ [])) ((d.key, side) ∷ for_others side settled (conflicts ++ c ∷ []))
        ≡ cond {A = List (Key × Side)} b (for_others side settled conflicts) ((d.key, side) ∷ for_others side settled conflicts) ++ cond {A = List (Key × Side)} (is_settled settled c.key) [] ((c.key, side) ∷ [])
    go true rest = rest
    go false rest = ap (λ xs. (d.key, side) ∷ xs) rest

-- the settlement of a key, if it has none yet
abbrev one : Side → List (Key × Side) → Key → List (Key × Side)
one side settled key = cond {A = List (Key × Side)} (is_settled settled key) [] ((key, side) ∷ [])

module _ (side : Side) (settled : List (Key × Side)) (conflicts : List Conflict) (i : ℕ) (d : Conflict) (others : List (Key × Side)) (lt : i < length conflicts) (so_far : others ≡ for_others side settled (take i conflicts))
    (is : d.key ≡ (get_or conflicts i d).key) where
  others_next : others ++ one side settled d.key ≡ for_others side settled (take (i + 1) conflicts)
  others_next =
      ap (λ (xs : List (Key × Side)). xs ++ one side settled d.key) so_far
      ∙ ap (λ (k : Key). for_others side settled (take i conflicts) ++ one side settled k) is
      ∙ sym (for_others-more side settled (take i conflicts) (get_or conflicts i d))
      ∙ ap (for_others side settled) (sym (take_more conflicts i d lt))

  -- where the conflict at i has no settlement, one is added
  pub others_pushed : (later : List (Key × Side)) → is_settled settled d.key ≡ false → later ≡ others ++ (d.key, side) ∷ [] → later ≡ for_others side settled (take (i + 1) conflicts)
  others_pushed later not pushed =
      pushed ∙ ap (λ (b : Bool). others ++ cond {A = List (Key × Side)} b [] ((d.key, side) ∷ [])) (sym not) ∙ others_next

  -- where it has one, none is
  pub others_left : (later : List (Key × Side)) → is_settled settled d.key ≡ true → later ≡ others → later ≡ for_others side settled (take (i + 1) conflicts)
  others_left later has same =
      same ∙ sym (append-nil others) ∙ ap (λ (b : Bool). others ++ cond {A = List (Key × Side)} b [] ((d.key, side) ∷ [])) (sym has) ∙ others_next
