-- After a marking just what the committed and the working versions reach is held.
use Rattle.std.proofs.Common.{◌≡◌, ℕ, ◌<◌, ◌≤◌, eqb, Bool, true, false, List, ◌++◌, length, refl, sym, ap, ◌∙◌, subst, replicate, ⊎_elim, arith}
use Rattle.std.proofs.lemmas.Bool.{false≢true}
use Rattle.std.specs.List.{AllByRecursion, list_any}
use Rattle.vm_types.specs.State.{State}
use Rattle.vm_disk.specs.Disk.{Medium}
use Rattle.vm_alloc.specs.Held.{is_held, IsHeld, free_count}
use Rattle.vm_alloc.specs.Marks.{is_marked, IsMarked}
use Rattle.vm_tree.specs.Tree.{IsData}
use Rattle.vm_block.proofs.EachLemmas.{each_so, each_join, each_front, each_back}
use Rattle.vm_block.specs.declared.selector.SlotName.{SlotName}
use Rattle.std.proofs.lemmas.List.{length-replicate}
use Rattle.vm_check.specs.Marks.{IsClosed, MarksMore}
use Rattle.vm_check.proofs.MarkLemmas.{more_then}
use Rattle.vm_store.specs.Marks.{AreReached}
use Rattle.vm_store.specs.Filed.{reach}
use Rattle.vm_store.specs.Rest.{IsSafe, Rests, spare_of}
use Rattle.vm_store.specs.declared.version.Version.{Version}
use Rattle.vm_store.proofs.MarkingLemmas.{none_marked, any_contained, standing_reached, clear_closed}
use Rattle.vm_store.proofs.SpareLemmas.{free-spare, free-le-spare, any_of}
use Rattle.vm_store.proofs.StandingLemmas.{standing_in, standing_data, standing_and, reach_each}

module _ (m : Medium) (limit : ℕ) (slot_name : SlotName) (bits : List Bool) (committed working : List Version) (s : State)
    (many : length bits ≡ limit) (rests : Rests m limit slot_name bits committed working s) where
  -- all that is reached is held, and so no more blocks are free than are spare
  pub free_at_most : free_count bits ≤ spare_of rests
  free_at_most =
      free-le-spare bits limit _ many rests.system
      (each_join (IsHeld bits) (reach (IsSafe bits m) m.contents s.kept committed rests.old rests.safe) _
      (each_so (IsSafe bits m) (IsHeld bits) (λ n safe. safe.held) _ (reach_each (IsSafe bits m) m.contents s.kept committed rests.old rests.safe))
      (reach_each (IsHeld bits) m.contents limit working rests.new rests.stands))

  -- all that they reach
  abbrev pub reached : List ℕ
  reached = reach (IsSafe bits m) m.contents s.kept committed rests.old rests.safe ++ reach (IsHeld bits) m.contents limit working rests.new rests.stands

  module _ (marking : List Bool) (marked : MarksMore reached (replicate limit false) marking) where
    committed_marked : AllByRecursion (IsMarked marking) (reach (IsSafe bits m) m.contents s.kept committed rests.old rests.safe)
    committed_marked = each_front (IsMarked marking) (reach (IsSafe bits m) m.contents s.kept committed rests.old rests.safe) (reach (IsHeld bits) m.contents limit working rests.new rests.stands) marked.each

    working_marked : AllByRecursion (IsMarked marking) (reach (IsHeld bits) m.contents limit working rests.new rests.stands)
    working_marked = each_back (IsMarked marking) (reach (IsSafe bits m) m.contents s.kept committed rests.old rests.safe) (reach (IsHeld bits) m.contents limit working rests.new rests.stands) marked.each

    just_reached : (n : ℕ) → IsMarked marking n → list_any (λ b. eqb b n) reached ≡ true
    just_reached n is = ⊎_elim (λ before. absurd (none_marked limit n before)) (λ at. any_contained reached n at) (marked.only n is)

    module _ (after : List Bool) (many' : length after ≡ limit) (system' : (n : ℕ) → n < 34 → IsHeld after n) (replaced : (n : ℕ) → 34 ≤ n → is_held after n ≡ is_marked marking n) where
      same_flags : (n : ℕ) → is_marked marking n ≡ list_any (λ b. eqb b n) reached
      same_flags n =
          elim (is_marked marking n) as (λ b. is_marked marking n ≡ b → b ≡ list_any (λ b. eqb b n) reached) [
            | true ↦ λ is. sym (just_reached n is)
            | false ↦ λ is. elim (list_any (λ b. eqb b n) reached) as (λ b. list_any (λ b. eqb b n) reached ≡ b → false ≡ b) [
              | true ↦ λ any. absurd (false≢true (sym is ∙ any_of reached n any (IsMarked marking) (each_join (IsMarked marking) _ _ committed_marked working_marked)))
              | false ↦ λ any. refl
            ] refl
          ] refl

      -- after a marking the free blocks are the spare ones
      pub free_exactly : free_count after ≡ spare_of rests
      free_exactly = free-spare after limit reached many' system' (λ n far. replaced n far ∙ same_flags n)

      -- a marking changes nothing of what the store stands for
      pub rests_marked : Rests m limit slot_name after committed working s
      rests_marked = record {
        old = rests.old;
        new = rests.new;
        blocks = rests.blocks;
        fewer = rests.fewer;
        inside = rests.inside;
        sure = rests.sure;
        system = system';
        rest = rests.rest;
        fits = rests.fits;
        safe = standing_in (λ n. (IsSafe bits m n × IsMarked marking n) × IsData s.kept n) (IsSafe after m) m.contents m.contents s.kept (λ n h. refl)
            (λ n h. record { held = replaced n h.1.0 ∙ h.0.1; clean = h.0.0.clean }) committed rests.old
            (standing_data (λ n. IsSafe bits m n × IsMarked marking n) m.contents s.kept committed rests.old
            (standing_and (IsSafe bits m) (IsMarked marking) m.contents s.kept committed rests.old rests.safe committed_marked));
        stands = standing_in (λ n. (IsHeld bits n × IsMarked marking n) × IsData limit n) (IsHeld after) m.contents m.contents limit (λ n h. refl)
            (λ n h. replaced n h.1.0 ∙ h.0.1) working rests.new
            (standing_data (λ n. IsHeld bits n × IsMarked marking n) m.contents limit working rests.new
            (standing_and (IsHeld bits) (IsMarked marking) m.contents limit working rests.new rests.stands working_marked));
        gives_old = rests.gives_old;
        gives_new = rests.gives_new;
      }

-- ---- the two markings

module _ (m : Medium) (limit : ℕ) (slot_name : SlotName) (bits : List Bool) (committed working : List Version) (s : State)
    (rests : Rests m limit slot_name bits committed working s)
    (marks cleared : List Bool) (count : length marks ≡ limit) (clear : cleared ≡ replicate (length marks) false) (lent : List Version) (same : lent ≡ committed) where
  is_clear : cleared ≡ replicate limit false
  is_clear = clear ∙ ap (λ n. replicate n false) count

  length_clear : length cleared ≡ limit
  length_clear = ap length is_clear ∙ length-replicate {A = Bool} limit false

  -- what the first one reaches, and where it begins
  abbrev pub reached_old : List ℕ
  reached_old = reach (IsSafe bits m) m.contents s.kept committed rests.old rests.safe

  pub first_reach : AreReached m.contents (length cleared) lent reached_old
  first_reach =
      subst (λ (vs : List Version). AreReached m.contents (length cleared) vs reached_old) (sym same)
      (subst (λ n. AreReached m.contents n committed reached_old) (sym length_clear) (standing_reached (IsSafe bits m) m.contents s.kept limit rests.fewer committed rests.old rests.safe))

  pub first_closed : IsClosed m.contents cleared
  first_closed = subst (IsClosed m.contents) (sym is_clear) (clear_closed m.contents limit)

  -- what the second one reaches, and where it begins
  abbrev pub reached_new : List ℕ
  reached_new = reach (IsHeld bits) m.contents limit working rests.new rests.stands

  module _ (first : List Bool) (mid : Medium) (read : mid ≡ m) (many : length first ≡ length cleared) (lent' : List Version) (same' : lent' ≡ working) where
    pub second_reach : AreReached mid.contents (length first) lent' reached_new
    second_reach =
        subst (λ (n : Medium). AreReached n.contents (length first) lent' reached_new) (sym read)
        (subst (λ (vs : List Version). AreReached m.contents (length first) vs reached_new) (sym same')
        (subst (λ n. AreReached m.contents n working reached_new) (sym (many ∙ length_clear)) (standing_reached (IsHeld bits) m.contents limit limit (omega arith) working rests.new rests.stands)))

    pub second_closed : IsClosed m.contents first → IsClosed mid.contents first
    second_closed closed = subst (λ (n : Medium). IsClosed n.contents first) (sym read) closed

    pub both_marked : (second : List Bool) → MarksMore reached_old cleared first → MarksMore reached_new first second → MarksMore (reached_old ++ reached_new) (replicate limit false) second
    both_marked second one two = subst (λ a. MarksMore (reached_old ++ reached_new) a second) is_clear (more_then reached_old reached_new cleared first second one two)
