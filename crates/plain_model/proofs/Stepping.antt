-- What a step on one alternative comes to, where the alternative stands at a place of the tree.
use Rattle.std.proofs.Common.{◌≡◌, ℕ, false, List, [], ◌∷◌, ◌++◌, get_or, set, Option, Some, None, is_some, option_map, Ok, Err, bytes_eq, refl, sym, ap, ◌∙◌, arith}
use Rattle.vm_types.specs.declared.answer.Answer.{Answer}
use Rattle.vm_types.specs.declared.command.Command.TheVariants.{NewAt}
use Rattle.vm_types.specs.declared.refusal.Refusal.{Refusal}
use Rattle.vm_types.specs.declared.refusal.Refusal.TheVariants.{NoSuchCheckpoint, TooMany}
use Rattle.vm_types.specs.Firsts.{IsFirst}
use Rattle.vm_types.specs.State.{tree_after, answer_of}
use Rattle.vm_types.specs.Step.{Outcome, or_refuse, refuse_if, done, new_alternative, step}
use Rattle.vm_types.specs.Tree.{Alternative, Tree, named, saved_as, is_full, changed}
use Rattle.vm_types.specs.Outcomes.{IsOutcome}
use Rattle.vm_types.proofs.Steps.{known, or_refuse-none, or_refuse-some, refuse_if-false}

-- refused, since nothing is found
pub or_refuse-absent : {X : Type 0} (o : Option X) (r : Refusal) (rest : X → Outcome) → is_some o ≡ false → or_refuse o r rest ≡ Err r
or_refuse-absent None r rest h = or_refuse-none None r rest refl
or_refuse-absent (Some x) r rest h = cc

-- what follows is the same for whichever alternative is found
pub known_any : (tree : Tree) (name : List ℕ) (i : ℕ) (body : Alternative → Outcome) (o : Outcome) (r : Refusal) → IsFirst (λ (a : Alternative). bytes_eq a.name name) tree i → ((a : Alternative) → body a ≡ o) → or_refuse (named tree name) r body ≡ o
known_any [] name i body o r first eq = absurd (let h = first.in_range in omega arith)
known_any (x ∷ tree) name i body o r first eq = known first x body o r (eq (get_or (x ∷ tree) i x))

-- accepted: the alternative at the place is changed so
pub changed_here : {tree : Tree} {alt : List ℕ} {i : ℕ} → IsFirst (λ (a : Alternative). bytes_eq a.name alt) tree i
    → (d : Alternative) (outcome : Outcome) (answer : Answer) (f : Alternative → Alternative) (a : Alternative) → a ≡ f (get_or tree i d) → outcome ≡ Ok (changed tree alt f, answer) → IsOutcome outcome tree (set tree i a) (Ok answer)
changed_here {tree = tree} {i = i} first d outcome answer f a new all = record {
  answer = sym (ap answer_of all);
  tree = ap (set tree i) new ∙ sym (first.change f d) ∙ sym (ap (tree_after tree) all);
}

-- where nothing is made of it, nothing is found
unmapped : {X Y : Type 0} (f : X → Y) (o : Option X) → None ≡ option_map f o → o ≡ None
unmapped f None h = refl
unmapped f (Some x) h = cc

module _ {tree : Tree} {parent : List ℕ} {i : ℕ} (first : IsFirst (λ (a : Alternative). bytes_eq a.name parent) tree i) (d : Alternative) (name checkpoint : List ℕ) (free : is_some (named tree name) ≡ false) where
  -- the alternative at the place lacks the checkpoint
  pub new_at_absent : None ≡ option_map (λ c. new_alternative name (get_or tree i d) c.current) (saved_as (get_or tree i d) checkpoint) → step tree (NewAt name parent checkpoint) ≡ Err NoSuchCheckpoint
  new_at_absent none = known first d _ _ _ (refuse_if-false _ _ _ free ∙ or_refuse-none _ _ _ (unmapped _ (saved_as (get_or tree i d) checkpoint) none))

  -- it has the checkpoint, and what follows is known for this child
  pub new_at_there : (child : Alternative) (o : Outcome) → Some child ≡ option_map (λ c. new_alternative name (get_or tree i d) c.current) (saved_as (get_or tree i d) checkpoint)
      → refuse_if (is_full tree) TooMany (done (tree ++ child ∷ [])) ≡ o → step tree (NewAt name parent checkpoint) ≡ o
  new_at_there child o there rest =
      known first d _ o _ (refuse_if-false _ _ _ free ∙ (elim (saved_as (get_or tree i d) checkpoint) as (λ s. Some child ≡ option_map (λ c. new_alternative name (get_or tree i d) c.current) s
      → or_refuse s NoSuchCheckpoint (λ c. refuse_if (is_full tree) TooMany (done (tree ++ new_alternative name (get_or tree i d) c.current ∷ []))) ≡ o) [
        | None ↦ λ is. cc
        | Some c ↦ λ is.
            let same : child ≡ new_alternative name (get_or tree i d) c.current = cc in
            or_refuse-some _ c _ _ refl ∙ ap (λ x. refuse_if (is_full tree) TooMany (done (tree ++ x ∷ []))) (sym same) ∙ rest
      ] there))
