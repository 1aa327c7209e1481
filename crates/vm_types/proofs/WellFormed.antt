-- Each step keeps a tree well formed.
use Rattle.std.proofs.Common.{◌≡◌, ℕ, Bool, true, false, List, [], ◌∷◌, ◌++◌, Option, Some, None, is_some, option_map, Ok, bytes_eq, refl, sym, ap, ◌∙◌, subst}
use Rattle.vm_types.specs.declared.answer.Answer.{Answer}
use Rattle.vm_types.specs.declared.command.Command.{Command}
use Rattle.vm_types.specs.declared.command.Command.TheVariants.{New, NewAt, Drop, Put, Remove, Checkpoint, Uncheck, Back, Merge, Post, Commit, Rollback, Reclaim, Grow}
use Rattle.vm_types.specs.declared.refusal.Refusal.{Refusal}
use Rattle.vm_types.specs.Map.{Map, IsMap, with_value, without, merge}
use Rattle.vm_types.specs.Firsts.{without_first}
use Rattle.vm_types.specs.Tree.{Alternative, Tree, named, has_children, changed, fresh}
use Rattle.vm_types.specs.Shape.{HasShape, IsRisingSaved, IsSound, IsWellFormed}
use Rattle.vm_types.specs.Step.{Outcome, or_refuse, refuse_found, refuse_if, new_alternative, step}
use Rattle.vm_types.specs.State.{tree_after}
use Rattle.vm_types.proofs.Keys.{IsMap-with_value, IsMap-without}
use Rattle.vm_types.proofs.Maps.{IsMap-merge}
use Rattle.vm_types.proofs.ShapeLemmas.{HasShape-new, HasShape-drop, KeepsPlace, shape_changed, parent_changed}
use Rattle.vm_types.proofs.SoundLemmas.{each_append, each_without, each_found, each_changed, IsSound-current, IsSound-maps, IsSound-saved, IsSound-unsaved, IsSound-back}

-- the tree of a new store is well formed
pub IsWellFormed-fresh : IsWellFormed fresh
IsWellFormed-fresh = record {
  shape = (refl, refl, tt);
  each = (record { rising = (refl, refl, tt); distinct = tt; unbased = λ none. (refl, tt) }, tt);
}

-- the tree after the outcome is well formed
pub record Stays (tree : Tree) (outcome : Outcome) : Type 0 where
  pub well : IsWellFormed (tree_after tree outcome)

-- changes of maps and checkpoints keep names and parents
keeps_current : {m : Map} → KeepsPlace (λ x. record x { current = m })
keeps_current = record { name = λ x. refl; parent = λ x. refl }

keeps_base : {b : Map} → KeepsPlace (λ x. record x { base = b })
keeps_base = record { name = λ x. refl; parent = λ x. refl }

no_parent : (a : Alternative) (parent : List ℕ) → a.parent ≡ None → a.parent ≡ Some parent → ⊥
no_parent a parent none has = cc

-- an alternative that is found is sound
pub sound_at : (tree : Tree) (name : List ℕ) (a : Alternative) → IsWellFormed tree → named tree name ≡ Some a → IsSound a
sound_at tree name a well found = each_found IsSound (λ x. bytes_eq x.name name) tree a well.each found

-- the alternative that is found is changed, and stays sound
pub IsWellFormed-changed : (tree : Tree) (alt : List ℕ) (f : Alternative → Alternative) (a : Alternative) → IsWellFormed tree → KeepsPlace f → named tree alt ≡ Some a → IsSound (f a) → IsWellFormed (changed tree alt f)
IsWellFormed-changed tree alt f a well keeps found new = record {
  shape = subst HasShape (sym (shape_changed tree alt f keeps)) well.shape;
  each = each_changed IsSound (λ x. bytes_eq x.name alt) f tree a well.each found new;
}

module _ (tree : Tree) (well : IsWellFormed tree) where
  or_refuse_stays : {X : Type 0} (o : Option X) (r : Refusal) (rest : X → Outcome) → ((x : X) → o ≡ Some x → Stays tree (rest x)) → Stays tree (or_refuse o r rest)
  unfolding or_refuse
  or_refuse_stays None r rest h = record { well = well }
  or_refuse_stays (Some x) r rest h = h x refl

  refuse_if_stays : (b : Bool) (r : Refusal) (rest : Outcome) → (b ≡ false → Stays tree rest) → Stays tree (refuse_if b r rest)
  unfolding refuse_if
  refuse_if_stays true r rest h = record { well = well }
  refuse_if_stays false r rest h = h refl

  refuse_found_stays : (o : Option Refusal) (rest : Outcome) → Stays tree rest → Stays tree (refuse_found o rest)
  unfolding refuse_found
  refuse_found_stays None rest h = h
  refuse_found_stays (Some r) rest h = record { well = well }

  changed_stays : (alt : List ℕ) (f : Alternative → Alternative) (answer : Answer) (a : Alternative) → KeepsPlace f → named tree alt ≡ Some a → IsSound (f a) → Stays tree (Ok (changed tree alt f, answer))
  changed_stays alt f answer a keeps found new = record { well = IsWellFormed-changed tree alt f a well keeps found new }

  new_stays : (name parent : List ℕ) (p : Alternative) (records : Map) (answer : Answer) → named tree parent ≡ Some p → is_some (named tree name) ≡ false → IsMap records → Stays tree (Ok (tree ++ new_alternative name p records ∷ [], answer))
  new_stays name parent p records answer found free rising =
      record {
        well = record {
          shape = HasShape-new tree name parent p records well.shape found free;
          each = each_append IsSound tree (new_alternative name p records) well.each (record { rising = (rising, rising, tt); distinct = tt; unbased = λ none. cc });
        };
      }

  drop_stays : (alt parent : List ℕ) (a : Alternative) (answer : Answer) → named tree alt ≡ Some a → a.parent ≡ Some parent → has_children tree alt ≡ false → Stays tree (Ok (without_first (λ x. bytes_eq x.name alt) tree, answer))
  drop_stays alt parent a answer found under alone = record {
    well = record {
      shape = HasShape-drop tree alt parent a well.shape found under alone;
      each = each_without IsSound (λ x. bytes_eq x.name alt) tree well.each;
    };
  }

  post_stays : (alt parent : List ℕ) (a p : Alternative) (answer : Answer) → named tree alt ≡ Some a → a.parent ≡ Some parent → named tree parent ≡ Some p
      → Stays tree (Ok (changed (changed tree parent (λ x. record x { current = a.current })) alt (λ x. record x { base = a.current }), answer))
  post_stays alt parent a p answer found under above =
      let risen = (sound_at tree alt a well found).rising.0 in
      let below = changed tree parent (λ x. record x { current = a.current }) in
      let first : IsWellFormed below = IsWellFormed-changed tree parent (λ x. record x { current = a.current }) p well keeps_current above (IsSound-current p (sound_at tree parent p well above) a.current risen) in
      let parents : option_map (λ x. x.parent) (named below alt) ≡ Some (Some parent) =
      parent_changed tree parent alt (λ x. record x { current = a.current }) keeps_current ∙ ap (option_map (λ x. x.parent)) found ∙ ap (λ o. Some o) under in
      elim (named below alt) as (λ o. named below alt ≡ o → option_map (λ x. x.parent) o ≡ Some (Some parent) → Stays tree (Ok (changed below alt (λ x. record x { base = a.current }), answer))) [
        | None ↦ λ is e. cc
        | Some b ↦ λ is e.
            let has : b.parent ≡ Some parent = cc in
            let sound = sound_at below alt b first is in
            record { well = IsWellFormed-changed below alt (λ x. record x { base = a.current }) b first keeps_base is (IsSound-maps b sound b.current a.current sound.rising.0 risen (λ none. absurd (no_parent b parent none has))) }
      ] refl parents

  -- a step of any command, accepted or refused, leaves a well formed tree
  pub step_stays : (command : Command) → Stays tree (step tree command)
  step_stays (New name parent) = or_refuse_stays _ _ _ (λ p found. refuse_if_stays _ _ _ (λ free. refuse_if_stays _ _ _ (λ _. new_stays name parent p p.current _ found free (sound_at tree parent p well found).rising.0)))
  step_stays (NewAt name parent checkpoint) = or_refuse_stays _ _ _ (λ p found. refuse_if_stays _ _ _ (λ free. or_refuse_stays _ _ _ (λ c there. refuse_if_stays _ _ _ (λ _.
      new_stays name parent p c.current _ found free (each_found IsRisingSaved (λ k. bytes_eq k.name checkpoint) p.saved c (sound_at tree parent p well found).rising.2 there).0))))
  step_stays (Drop alt) = or_refuse_stays _ _ _ (λ a found. or_refuse_stays _ _ _ (λ parent under. refuse_if_stays _ _ _ (λ alone. drop_stays alt parent a _ found under alone)))
  step_stays (Put alt key value) = or_refuse_stays _ _ _ (λ a found.
      let sound = sound_at tree alt a well found in
      changed_stays alt _ _ a (record { name = λ x. refl; parent = λ x. refl }) found (IsSound-current a sound (with_value a.current key value) (IsMap-with_value a.current key value sound.rising.0)))
  step_stays (Remove alt key) = or_refuse_stays _ _ _ (λ a found. or_refuse_stays _ _ _ (λ _ _.
      let sound = sound_at tree alt a well found in
      changed_stays alt _ _ a (record { name = λ x. refl; parent = λ x. refl }) found (IsSound-current a sound (without a.current key) (IsMap-without a.current key sound.rising.0))))
  step_stays (Checkpoint alt name) = or_refuse_stays _ _ _ (λ a found. refuse_if_stays _ _ _ (λ free. refuse_if_stays _ _ _ (λ _.
      changed_stays alt _ _ a (record { name = λ x. refl; parent = λ x. refl }) found (IsSound-saved a (sound_at tree alt a well found) name free))))
  step_stays (Uncheck alt name) = or_refuse_stays _ _ _ (λ a found. or_refuse_stays _ _ _ (λ _ _.
      changed_stays alt _ _ a (record { name = λ x. refl; parent = λ x. refl }) found (IsSound-unsaved a (sound_at tree alt a well found) (λ c. bytes_eq c.name name))))
  step_stays (Back alt name) = or_refuse_stays _ _ _ (λ a found. or_refuse_stays _ _ _ (λ c there.
      changed_stays alt _ _ a (record { name = λ x. refl; parent = λ x. refl }) found (IsSound-back a (sound_at tree alt a well found) name c there)))
  step_stays (Merge alt settled) = or_refuse_stays _ _ _ (λ a found. or_refuse_stays _ _ _ (λ parent under. or_refuse_stays _ _ _ (λ p above. refuse_found_stays _ _ (
      let sound = sound_at tree alt a well found in
      changed_stays alt _ _ a (record { name = λ x. refl; parent = λ x. refl }) found
      (IsSound-maps a sound (merge a.base p.current a.current settled) p.current (IsMap-merge a.base p.current a.current settled sound.rising.0) (sound_at tree parent p well above).rising.0 (λ none. absurd (no_parent a parent none under)))))))
  step_stays (Post alt) = or_refuse_stays _ _ _ (λ a found. or_refuse_stays _ _ _ (λ parent under. or_refuse_stays _ _ _ (λ p above. refuse_if_stays _ _ _ (λ _. post_stays alt parent a p _ found under above))))
  step_stays Commit = record { well = well }
  step_stays Rollback = record { well = well }
  step_stays Reclaim = record { well = well }
  step_stays (Grow blocks) = record { well = well }
