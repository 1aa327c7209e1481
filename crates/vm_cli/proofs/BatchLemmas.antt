-- What is held of a batch.
use Rattle.std.proofs.Common.{◌≡◌, ◌+◌, ℕ, suc, true, false, is_some, List, [], ◌∷◌, ◌++◌, Option, None, Some, length, sum_by, ap, sym, subst, refl, ◌∙◌, arith}
use Rattle.std.proofs.lemmas.List.{length-append}
use Rattle.std.proofs.lemmas.List.Sums.{sum_by-append}
use Rattle.vm_types.specs.declared.refusal.Refusal.TheVariants.{Memory}
use Rattle.vm_cli.specs.lines.Input.{HoldsLine, KindHolds}
use Rattle.vm_cli.specs.declared.lines.line.LineKind.TheVariants.{Kept}
use Rattle.vm_cli.specs.answers.Replies.{reply_text}
use Rattle.vm_cli.specs.session.Streams.{Adds, Held, HoldsLines, IsHeldBy, IsTooLarge, count_of, losing}
use Rattle.vm_cli.specs.session.Streams.AddsTo.{batch_too_large, line_added, no_memory_for_change}
use Rattle.vm_cli.specs.session.Streams.Held.{holds, lost}
use Rattle.vm_cli.specs.session.Session.{error_text}
use Rattle.vm_cli.specs.declared.answers.reply.Reply.TheVariants as reply
use Rattle.vm_cli.specs.declared.lines.line.Line.{Line}
use Rattle.vm_cli.specs.declared.session.batch.Lost.{Lost}

-- as many lines are held
pub held_length : (lines : List Line) (parts : List (List ℕ)) → HoldsLines lines parts → length lines ≡ length parts
held_length [] [] h = refl
held_length [] (part ∷ parts) h = absurd h
held_length (line ∷ lines) [] h = absurd h
held_length (line ∷ lines) (part ∷ parts) h = ap suc (held_length lines parts h.1)

-- one more is held
pub held_more : (lines : List Line) (parts : List (List ℕ)) (line : Line) (part : List ℕ) → HoldsLines lines parts → HoldsLine line part → HoldsLines (lines ++ line ∷ []) (parts ++ part ∷ [])
held_more [] [] line part h one = (one, tt)
held_more [] (p ∷ parts) line part h one = absurd h
held_more (l ∷ lines) [] line part h one = absurd h
held_more (l ∷ lines) (p ∷ parts) line part h one = (h.0, held_more lines parts line part h.1 one)

-- their bytes
sum-more : (parts : List (List ℕ)) (part : List ℕ) → sum_by length (parts ++ part ∷ []) ≡ sum_by length parts + length part
sum-more parts part = sum_by-append length parts (part ∷ []) ∙ omega arith

pub none_of : {X : Type 0} (o : Option X) → is_some o ≡ false → o ≡ None
none_of None e = refl
none_of (Some x) e = cc

pub some_of : {X : Type 0} (o : Option X) → is_some o ≡ true → o ≡ None → ⊥
some_of None e none = cc
some_of (Some x) e none = cc

module _ (was : Option Lost) (lines : List Line) (count bytes : ℕ) (part : List ℕ) where
  -- a line of a batch of which one is lost
  pub held_lost : (held : Held) → IsHeldBy was lines count bytes held → (was ≡ None → ⊥)
      → (x : Held) × IsHeldBy was lines (count + 1) bytes x × Adds part held x
  held_lost (holds parts) h some = absurd (some h.0)
  held_lost (lost place answer all) h some = (lost place answer (all + 1), (h.0, h.1, h.2, h.3, ap (λ n. n + 1) h.4, omega (arith, h.5)), refl)

  -- one more is lost
  pub losing_again : (answer : List ℕ) (held : Held) → IsHeldBy was lines count bytes held → (was ≡ None → ⊥) → IsHeldBy was lines (count + 1) bytes (losing answer held)
  losing_again answer (holds parts) h some = absurd (some h.0)
  losing_again answer (lost place first all) h some = (h.0, h.1, h.2, h.3, ap (λ n. n + 1) h.4, omega (arith, h.5))

  -- the first one is
  pub losing_first : (found : Lost) (lines' : List Line) (bytes' : ℕ) (held : Held) → IsHeldBy was lines count bytes held → was ≡ None → found.place ≡ count
      → IsHeldBy (Some found) lines' (count + 1) bytes' (losing (reply_text found.reply) held)
  losing_first found lines' bytes' (holds parts) h none at = (found, refl, at ∙ h.2, refl, ap (λ n. n + 1) h.2, omega (arith, h.2))
  losing_first found lines' bytes' (lost place first all) h none at = let known : was ≡ Some h.0 = h.1 in cc

  module _ (was' : Option Lost) (lines' : List Line) (count' bytes' : ℕ) (none : was ≡ None) where
    -- a line is lost, since memory ran out
    pub adds_wanting : (held : Held) → IsHeldBy was lines count bytes held → IsHeldBy was' lines' count' bytes' (losing (error_text Memory) held)
        → (x : Held) × IsHeldBy was' lines' count' bytes' x × Adds part held x
    adds_wanting (holds parts) h is = (losing (error_text Memory) (holds parts), is, no_memory_for_change refl)
    adds_wanting (lost place answer all) h is = let found : was ≡ Some h.0 = h.1 in cc

    -- or since there are too many
    pub adds_large : (held : Held) → IsHeldBy was lines count bytes held → IsHeldBy was' lines' count' bytes' (losing (reply_text reply.TooLarge) held)
        → ((parts : List (List ℕ)) → HoldsLines lines parts → bytes ≡ sum_by length parts → IsTooLarge parts part)
        → (x : Held) × IsHeldBy was' lines' count' bytes' x × Adds part held x
    adds_large (holds parts) h is large = (losing (reply_text reply.TooLarge) (holds parts), is, batch_too_large refl (large parts h.1 h.3))
    adds_large (lost place answer all) h is large = let found : was ≡ Some h.0 = h.1 in cc

  -- a line is held
  pub adds_line : (line : Line) → HoldsLine line part → was ≡ None → (held : Held) → IsHeldBy was lines count bytes held
      → (x : Held) × IsHeldBy was (lines ++ line ∷ []) (count + 1) (bytes + length part) x × Adds part held x
  adds_line line one none (holds parts) h = (
    holds (parts ++ part ∷ []),
    (
      none,
      held_more lines parts line part h.1 one,
      omega (arith, h.2, length-append parts (part ∷ [])),
      ap (λ n. n + length part) h.3 ∙ sym (sum-more parts part),
    ),
    line_added refl,
  )
  adds_line line one none (lost place answer all) h = let found : was ≡ Some h.0 = h.1 in cc

-- a line that is kept has its bytes
pub kept_bytes : (line : Line) (part : List ℕ) → HoldsLine line part → line.kind ≡ Kept → line.bytes.items ≡ part
kept_bytes line part h kept = let kind : KindHolds Kept line.bytes.items part = subst (λ k. KindHolds k line.bytes.items part) kept h.kind in kind.0

-- how many lines are counted
pub held_count : (was : Option Lost) (lines : List Line) (count bytes : ℕ) (held : Held) → IsHeldBy was lines count bytes held → count ≡ count_of held
held_count was lines count bytes (holds parts) h = h.2
held_count was lines count bytes (lost place answer all) h = h.4
