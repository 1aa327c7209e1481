-- A list of which the first elements were changed, one after another.
use Rattle.std.proofs.Common.{◌≡◌, ℕ, ◌+◌, ◌-◌, ◌<◌, ◌≤◌, List, [], ◌∷◌, ◌++◌, length, take, drop, get_or, sym, ap, ap₂, ◌∙◌, subst, arith, append_assoc, length-append, length-drop, length-take-le}
use Rattle.std.proofs.lemmas.List.{drop-drop, get_or-append_right, get_or-drop, take_more}
use Rattle.std.proofs.Math.Seq.{drop-append_seam, take-append_seam}
use Rattle.vm_block.specs.Changed.{with_at}
use Rattle.vm_check.specs.TreeCopy.{Paired}
use Rattle.vm_check.proofs.CopyLemmas.{paired_join, paired_length, paired_so}

-- the first i elements were changed as R says, the others are as they were, and P holds of the list
pub record SoFar {X : Type 0} (R : X → X → Type 0) (P : List X → Type 0) (i : ℕ) (xs : List X) : Type 0 where
  pub done : List X
  pub each : Paired R (take i xs) done
  pub holds : P (done ++ drop i xs)

module _ {X : Type 0} {R : X → X → Type 0} {P : List X → Type 0} {i : ℕ} {xs : List X} (so_far : SoFar R P i xs) where
  count : i ≤ length xs → length so_far.done ≡ i
  count le = paired_length R (take i xs) so_far.done so_far.each ∙ length-take-le i xs le

  pub so_far_length : i ≤ length xs → length (so_far.done ++ drop i xs) ≡ length xs
  so_far_length le = omega (arith, count le, length-append so_far.done (drop i xs), length-drop i xs)

  -- the next one is as it was
  pub so_far_next : (d : X) → i < length xs → get_or (so_far.done ++ drop i xs) i d ≡ get_or xs i d
  so_far_next d lt =
      let many = count (omega arith) in
      get_or-append_right so_far.done (drop i xs) i i d many (omega arith)
      ∙ get_or-drop i xs (i - i) d
      ∙ ap (λ n. get_or xs n d) (omega arith)

  next_is : (y : X) → i < length xs → with_at i y (so_far.done ++ drop i xs) ≡ (so_far.done ++ y ∷ []) ++ drop (i + 1) xs
  next_is y lt =
      let many = count (omega arith) in
      let whole = so_far.done ++ drop i xs in
      let front : take i whole ≡ so_far.done = ap (λ n. take n whole) (sym many) ∙ take-append_seam so_far.done (drop i xs) in
      let rest : drop i whole ≡ drop i xs = ap (λ n. drop n whole) (sym many) ∙ drop-append_seam so_far.done (drop i xs) in
      let behind : drop (i + 1) whole ≡ drop (i + 1) xs = sym (drop-drop 1 i whole) ∙ ap (drop 1) rest ∙ drop-drop 1 i xs in
      ap₂ (λ (a b : List X). a ++ y ∷ b) front behind ∙ sym (append_assoc so_far.done (y ∷ []) (drop (i + 1) xs))

  -- one more
  pub so_far_more : (S : X → X → Type 0) (Q : List X → Type 0) (d y : X) → ((a b : X) → R a b → S a b) → i < length xs → S (get_or xs i d) y → Q (with_at i y (so_far.done ++ drop i xs)) → SoFar S Q (i + 1) xs
  so_far_more S Q d y so lt here holds = record {
    done = so_far.done ++ y ∷ [];
    each = subst (λ (ys : List X). Paired S ys (so_far.done ++ y ∷ [])) (sym (take_more xs i d lt))
        (paired_join S (take i xs) so_far.done (get_or xs i d ∷ []) (y ∷ []) (paired_so R S so (take i xs) so_far.done so_far.each) (here, tt));
    holds = subst Q (next_is y lt) holds;
  }
