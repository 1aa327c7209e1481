-- A command leaves alone each alternative that it doesn't work on and that no child is posted into.
use Rattle.std.proofs.Common.{◌≡◌, ℕ, Bool, true, false, cond, List, [], ◌∷◌, ◌++◌, Option, Some, None, Result, Ok, Err, option_and_then, bytes_eq, refl, sym, ap, ◌∙◌, if◌then◌else◌}
use Rattle.std.specs.Option.{option_eq, option_or}
use Rattle.std.proofs.lemmas.Slice.Eq.{bytes_eq-Decides}
use Rattle.std.proofs.lemmas.List.Folds.{find-append}
use Rattle.vm_types.specs.declared.answer.Answer.{Answer}
use Rattle.vm_types.specs.declared.command.Command.{Command}
use Rattle.vm_types.specs.declared.command.Command.TheVariants.{New, NewAt, Drop, Put, Remove, Checkpoint, Uncheck, Back, Merge, Post, Commit, Rollback, Reclaim, Grow}
use Rattle.vm_types.specs.declared.refusal.Refusal.{Refusal}
use Rattle.vm_types.specs.Map.{Map}
use Rattle.vm_types.specs.Firsts.{without_first}
use Rattle.vm_types.specs.Tree.{Alternative, Tree, named, changed}
use Rattle.vm_types.specs.Step.{Outcome, or_refuse, refuse_found, refuse_if, new_alternative, step}
use Rattle.vm_types.specs.State.{State, tree_after, is_rollback, next, after}
use Rattle.vm_types.specs.Isolation.{target, posts_into, LeavesAlone}

-- the outcome leaves the alternative of this name as it was
pub record Keeps (tree : Tree) (name : List ℕ) (outcome : Outcome) : Type 0 where
  pub kept : named (tree_after tree outcome) name ≡ named tree name

-- names that are told apart are not both the name of one alternative
apart : (x alt name : List ℕ) → bytes_eq alt name ≡ false → bytes_eq x alt ≡ true → bytes_eq x name ≡ false
apart x alt name h is = ap (λ n. bytes_eq n name) ((bytes_eq-Decides x alt).0 is) ∙ h

or_none : {X : Type 0} (o : Option X) → option_or o None ≡ o
or_none None = refl
or_none (Some x) = refl

module _ (name : List ℕ) where
  -- an alternative of another name is changed
  pub named_changed : (tree : Tree) (alt : List ℕ) (f : Alternative → Alternative) → bytes_eq alt name ≡ false → ((x : Alternative) → (f x).name ≡ x.name) → named (changed tree alt f) name ≡ named tree name
  named_changed [] alt f h same = refl
  named_changed (x ∷ tree) alt f h same =
      elim (bytes_eq x.name alt) as (λ t. bytes_eq x.name alt ≡ t → named (cond t (f x ∷ tree) (x ∷ changed tree alt f)) name ≡ cond (bytes_eq x.name name) (Some x) (named tree name)) [
        | true ↦ λ is.
            let other : bytes_eq x.name name ≡ false = apart x.name alt name h is in
            ap (λ t. cond t (Some (f x)) (named tree name)) (ap (λ n. bytes_eq n name) (same x) ∙ other)
            ∙ sym (ap (λ t. cond t (Some x) (named tree name)) other)
        | false ↦ λ is. ap (λ rest. cond (bytes_eq x.name name) (Some x) rest) (named_changed tree alt f h same)
      ] refl

  -- an alternative of another name is taken out
  pub named_without : (tree : Tree) (alt : List ℕ) → bytes_eq alt name ≡ false → named (without_first (λ x. bytes_eq x.name alt) tree) name ≡ named tree name
  named_without [] alt h = refl
  named_without (x ∷ tree) alt h =
      elim (bytes_eq x.name alt) as (λ t. bytes_eq x.name alt ≡ t → named (cond t tree (x ∷ without_first (λ x. bytes_eq x.name alt) tree)) name ≡ cond (bytes_eq x.name name) (Some x) (named tree name)) [
        | true ↦ λ is. sym (ap (λ t. cond t (Some x) (named tree name)) (apart x.name alt name h is))
        | false ↦ λ is. ap (λ rest. cond (bytes_eq x.name name) (Some x) rest) (named_without tree alt h)
      ] refl

  -- an alternative of another name is added
  pub named_added : (tree : Tree) (a : Alternative) → bytes_eq a.name name ≡ false → named (tree ++ a ∷ []) name ≡ named tree name
  named_added tree a h =
      find-append (λ (x : Alternative). bytes_eq x.name name) tree (a ∷ [])
      ∙ ap (λ t. option_or (named tree name) (cond t (Some a) None)) h
      ∙ or_none (named tree name)

  module _ (tree : Tree) where
    or_refuse_keeps : {X : Type 0} (o : Option X) (r : Refusal) (rest : X → Outcome) → ((x : X) → o ≡ Some x → Keeps tree name (rest x)) → Keeps tree name (or_refuse o r rest)
    unfolding or_refuse
    or_refuse_keeps None r rest h = record { kept = refl }
    or_refuse_keeps (Some x) r rest h = h x refl

    refuse_if_keeps : (b : Bool) (r : Refusal) (rest : Outcome) → Keeps tree name rest → Keeps tree name (refuse_if b r rest)
    unfolding refuse_if
    refuse_if_keeps true r rest h = record { kept = refl }
    refuse_if_keeps false r rest h = h

    refuse_found_keeps : (o : Option Refusal) (rest : Outcome) → Keeps tree name rest → Keeps tree name (refuse_found o rest)
    unfolding refuse_found
    refuse_found_keeps None rest h = h
    refuse_found_keeps (Some r) rest h = record { kept = refl }

    changed_keeps : (alt : List ℕ) (f : Alternative → Alternative) (answer : Answer) → bytes_eq alt name ≡ false → ((x : Alternative) → (f x).name ≡ x.name) → Keeps tree name (Ok (changed tree alt f, answer))
    changed_keeps alt f answer h same = record { kept = named_changed tree alt f h same }

    new_keeps : (alt : List ℕ) (parent : Alternative) (records : Map) (answer : Answer) → bytes_eq alt name ≡ false → Keeps tree name (Ok (tree ++ new_alternative alt parent records ∷ [], answer))
    new_keeps alt parent records answer h = record { kept = named_added tree (new_alternative alt parent records) h }

    -- a command that doesn't work on the alternative, and is no Post of a child of it, leaves it as it was
    pub isolated_step : (command : Command) → target command name ≡ false → posts_into tree command name ≡ false → Keeps tree name (step tree command)
    isolated_step (New alt parent) h p = or_refuse_keeps _ _ _ (λ a _. refuse_if_keeps _ _ _ (refuse_if_keeps _ _ _ (new_keeps alt a a.current _ h)))
    isolated_step (NewAt alt parent checkpoint) h p = or_refuse_keeps _ _ _ (λ a _. refuse_if_keeps _ _ _ (or_refuse_keeps _ _ _ (λ c _. refuse_if_keeps _ _ _ (new_keeps alt a c.current _ h))))
    isolated_step (Drop alt) h p = or_refuse_keeps _ _ _ (λ a _. or_refuse_keeps _ _ _ (λ _ _. refuse_if_keeps _ _ _ (record { kept = named_without tree alt h })))
    isolated_step (Put alt key value) h p = or_refuse_keeps _ _ _ (λ a _. changed_keeps alt _ _ h (λ x. refl))
    isolated_step (Remove alt key) h p = or_refuse_keeps _ _ _ (λ a _. or_refuse_keeps _ _ _ (λ _ _. changed_keeps alt _ _ h (λ x. refl)))
    isolated_step (Checkpoint alt checkpoint) h p = or_refuse_keeps _ _ _ (λ a _. refuse_if_keeps _ _ _ (refuse_if_keeps _ _ _ (changed_keeps alt _ _ h (λ x. refl))))
    isolated_step (Uncheck alt checkpoint) h p = or_refuse_keeps _ _ _ (λ a _. or_refuse_keeps _ _ _ (λ _ _. changed_keeps alt _ _ h (λ x. refl)))
    isolated_step (Back alt checkpoint) h p = or_refuse_keeps _ _ _ (λ a _. or_refuse_keeps _ _ _ (λ _ _. changed_keeps alt _ _ h (λ x. refl)))
    isolated_step (Merge alt settled) h p = or_refuse_keeps _ _ _ (λ a _. or_refuse_keeps _ _ _ (λ _ _. or_refuse_keeps _ _ _ (λ _ _. refuse_found_keeps _ _ (changed_keeps alt _ _ h (λ x. refl)))))
    isolated_step (Post alt) h p =
        or_refuse_keeps _ _ _ (λ a found. or_refuse_keeps _ _ _ (λ parent under. or_refuse_keeps _ _ _ (λ above _. refuse_if_keeps _ _ _ (record {
          kept =
              let other : bytes_eq parent name ≡ false = sym (ap (λ o. option_eq bytes_eq o (Some name)) (ap (λ o. option_and_then (λ (x : Alternative). x.parent) o) found ∙ under)) ∙ p in
              let below = changed tree parent (λ x. record x { current = a.current }) in
              named_changed below alt (λ x. record x { base = a.current }) h (λ x. refl)
              ∙ named_changed tree parent (λ x. record x { current = a.current }) other (λ x. refl);
        }))))
    isolated_step Commit h p = record { kept = refl }
    isolated_step Rollback h p = cc
    isolated_step Reclaim h p = record { kept = refl }
    isolated_step (Grow blocks) h p = record { kept = refl }

  -- nor is it a Rollback, which works on every alternative
  no_rollback : (command : Command) → target command name ≡ false → is_rollback command ≡ false
  no_rollback Rollback h = cc
  no_rollback command h = refl

  -- and so does each list of such commands
  pub isolated : (s : State) (commands : List Command) (answers : List (Result Answer Refusal)) → LeavesAlone s commands answers name → named (after s commands answers).working name ≡ named s.working name
  isolated s [] [] h = refl
  isolated s [] (answer ∷ answers) h = refl
  isolated s (command ∷ commands) [] h = refl
  isolated s (command ∷ commands) (Err refusal ∷ answers) h = isolated s commands answers h.2
  isolated s (command ∷ commands) (Ok answer ∷ answers) h =
      isolated (next s command (Ok answer)) commands answers h.2
      ∙ ap (λ t. named (if t then s.committed else tree_after s.working (step s.working command)) name) (no_rollback command h.0)
      ∙ (isolated_step s.working command h.0 (h.1 refl)).kept
