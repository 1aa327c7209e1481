-- What a step comes to, once it is known what is found.
use Rattle.std.proofs.Common.{◌≡◌, ℕ, Bool, true, false, not, List, [], ◌∷◌, ◌++◌, map, length, get_or, set, Option, Some, None, is_some, Ok, Err, bytes_eq, refl, sym, ap, ◌∙◌}
use Rattle.vm_types.specs.declared.key.Key.{Key}
use Rattle.vm_types.specs.declared.answer.Answer.{Answer}
use Rattle.vm_types.specs.declared.answer.Answer.TheVariants.{Done, Merged}
use Rattle.vm_types.specs.declared.command.Side.{Side}
use Rattle.vm_types.specs.declared.command.Command.TheVariants.{New, NewAt, Drop, Put, Remove, Checkpoint, Uncheck, Back, Merge, Post}
use Rattle.vm_types.specs.declared.refusal.Refusal.{Refusal}
use Rattle.vm_types.specs.Map.{get, with_value, without, delta, conflicts, merge, same_map}
use Rattle.vm_types.specs.Firsts.{without_first, IsFirst}
use Rattle.vm_types.specs.Tree.{Saved, Alternative, Tree, named, saved_as, has_children, is_full, changed}
use Rattle.vm_types.specs.Step.{Outcome, or_refuse, refuse_found, refuse_if, done, settled_refusal, new_alternative, step}
use Rattle.vm_types.specs.State.{tree_after, answer_of}
use Rattle.vm_types.specs.Outcomes.{IsOutcome, gone_back}

-- ---- the tests of a step, one by one

pub or_refuse-none : {X : Type 0} (o : Option X) (r : Refusal) (rest : X → Outcome) → o ≡ None → or_refuse o r rest ≡ Err r
unfolding or_refuse
or_refuse-none o r rest h = ap (λ found. or_refuse found r rest) h

pub or_refuse-some : {X : Type 0} (o : Option X) (x : X) (r : Refusal) (rest : X → Outcome) → o ≡ Some x → or_refuse o r rest ≡ rest x
unfolding or_refuse
or_refuse-some o x r rest h = ap (λ found. or_refuse found r rest) h

-- where something is found, and what follows doesn't depend on it
pub or_refuse-any : {X : Type 0} (o : Option X) (r : Refusal) (rest : Outcome) → is_some o ≡ true → or_refuse o r (λ _. rest) ≡ rest
unfolding or_refuse
or_refuse-any None r rest h = cc
or_refuse-any (Some x) r rest h = refl

pub refuse_if-true : (test : Bool) (r : Refusal) (rest : Outcome) → test ≡ true → refuse_if test r rest ≡ Err r
unfolding refuse_if
refuse_if-true test r rest h = ap (λ t. refuse_if t r rest) h

pub refuse_if-false : (test : Bool) (r : Refusal) (rest : Outcome) → test ≡ false → refuse_if test r rest ≡ rest
unfolding refuse_if
refuse_if-false test r rest h = ap (λ t. refuse_if t r rest) h

pub refuse_found-none : (o : Option Refusal) (rest : Outcome) → o ≡ None → refuse_found o rest ≡ rest
unfolding refuse_found
refuse_found-none o rest h = ap (λ found. refuse_found found rest) h

pub refuse_found-some : (o : Option Refusal) (r : Refusal) (rest : Outcome) → o ≡ Some r → refuse_found o rest ≡ Err r
unfolding refuse_found
refuse_found-some o r rest h = ap (λ found. refuse_found found rest) h

-- ---- each command that is accepted

module _ (tree : Tree) where
  pub new_accepted : (name parent : List ℕ) (p : Alternative) → named tree parent ≡ Some p → is_some (named tree name) ≡ false → is_full tree ≡ false → step tree (New name parent) ≡ done (tree ++ new_alternative name p p.current ∷ [])
  new_accepted name parent p found free room = or_refuse-some _ p _ _ found ∙ refuse_if-false _ _ _ free ∙ refuse_if-false _ _ _ room

  pub new_at_accepted : (name parent checkpoint : List ℕ) (p : Alternative) (c : Saved) → named tree parent ≡ Some p → is_some (named tree name) ≡ false → saved_as p checkpoint ≡ Some c → is_full tree ≡ false
      → step tree (NewAt name parent checkpoint) ≡ done (tree ++ new_alternative name p c.current ∷ [])
  new_at_accepted name parent checkpoint p c found free there room = or_refuse-some _ p _ _ found ∙ refuse_if-false _ _ _ free ∙ or_refuse-some _ c _ _ there ∙ refuse_if-false _ _ _ room

  module _ (alt : List ℕ) (a : Alternative) (found : named tree alt ≡ Some a) where
    pub drop_accepted : (parent : List ℕ) → a.parent ≡ Some parent → has_children tree alt ≡ false → step tree (Drop alt) ≡ done (without_first (λ x. bytes_eq x.name alt) tree)
    drop_accepted parent is alone = or_refuse-some _ a _ _ found ∙ or_refuse-some _ parent _ _ is ∙ refuse_if-false _ _ _ alone

    pub put_accepted : (key : Key) (value : List ℕ) → step tree (Put alt key value) ≡ done (changed tree alt (λ x. record x { current = with_value x.current key value }))
    put_accepted key value = or_refuse-some _ a _ _ found

    pub remove_accepted : (key : Key) → is_some (get a.current key) ≡ true → step tree (Remove alt key) ≡ done (changed tree alt (λ x. record x { current = without x.current key }))
    remove_accepted key there = or_refuse-some _ a _ _ found ∙ or_refuse-any _ _ _ there

    pub checkpoint_accepted : (name : List ℕ) → is_some (saved_as a name) ≡ false → is_full tree ≡ false
        → step tree (Checkpoint alt name) ≡ done (changed tree alt (λ x. record x { saved = x.saved ++ record { name = name; current = x.current; base = x.base } ∷ [] }))
    checkpoint_accepted name free room = or_refuse-some _ a _ _ found ∙ refuse_if-false _ _ _ free ∙ refuse_if-false _ _ _ room

    pub uncheck_accepted : (name : List ℕ) → is_some (saved_as a name) ≡ true → step tree (Uncheck alt name) ≡ done (changed tree alt (λ x. record x { saved = without_first (λ c. bytes_eq c.name name) x.saved }))
    uncheck_accepted name there = or_refuse-some _ a _ _ found ∙ or_refuse-any _ _ _ there

    pub back_accepted : (name : List ℕ) (c : Saved) → saved_as a name ≡ Some c → step tree (Back alt name) ≡ done (changed tree alt (λ x. record x { current = c.current; base = c.base }))
    back_accepted name c there = or_refuse-some _ a _ _ found ∙ or_refuse-some _ c _ _ there

    module _ (parent : List ℕ) (p : Alternative) (under : a.parent ≡ Some parent) (above : named tree parent ≡ Some p) where
      pub merge_accepted : (settled : List (Key × Side)) → settled_refusal settled (map (λ c. c.key) (conflicts a.base p.current a.current)) ≡ None
          → step tree (Merge alt settled) ≡ Ok (changed tree alt (λ x. record x { current = merge a.base p.current a.current settled; base = p.current }), Merged (length (delta a.current (merge a.base p.current a.current settled))))
      merge_accepted settled all = or_refuse-some _ a _ _ found ∙ or_refuse-some _ parent _ _ under ∙ or_refuse-some _ p _ _ above ∙ refuse_found-none _ _ all

      pub merge_refused : (settled : List (Key × Side)) (r : Refusal) → settled_refusal settled (map (λ c. c.key) (conflicts a.base p.current a.current)) ≡ Some r → step tree (Merge alt settled) ≡ Err r
      merge_refused settled r one = or_refuse-some _ a _ _ found ∙ or_refuse-some _ parent _ _ under ∙ or_refuse-some _ p _ _ above ∙ refuse_found-some _ r _ one

      pub post_accepted : same_map a.base p.current ≡ true → step tree (Post alt) ≡ done (changed (changed tree parent (λ x. record x { current = a.current })) alt (λ x. record x { base = a.current }))
      post_accepted same = or_refuse-some _ a _ _ found ∙ or_refuse-some _ parent _ _ under ∙ or_refuse-some _ p _ _ above ∙ refuse_if-false _ _ _ (ap not same)

-- ---- a reply and a new tree

-- by what the step comes to
pub IsOutcome-accepted : (outcome : Outcome) (old new : Tree) (answer : Answer) → outcome ≡ Ok (new, answer) → IsOutcome outcome old new (Ok answer)
IsOutcome-accepted outcome old new answer is = record { answer = sym (ap answer_of is); tree = sym (ap (tree_after old) is) }

pub IsOutcome-refused : (outcome : Outcome) (old new : Tree) (r : Refusal) → new ≡ old → outcome ≡ Err r → IsOutcome outcome old new (Err r)
IsOutcome-refused outcome old new r same is = record { answer = sym (ap answer_of is); tree = same ∙ sym (ap (tree_after old) is) }

module _ {tree : Tree} {name : List ℕ} {i : ℕ} (first : IsFirst (λ (a : Alternative). bytes_eq a.name name) tree i) (d : Alternative) where
  -- what follows for the alternative is known
  pub known : (body : Alternative → Outcome) (o : Outcome) (r : Refusal) → body (get_or tree i d) ≡ o → or_refuse (named tree name) r body ≡ o
  known body o r eq = or_refuse-some _ (get_or tree i d) r body (first.found d) ∙ eq

  -- refused, and nothing is changed
  pub refused_here : (body : Alternative → Outcome) (r refusal : Refusal) (tree' : Tree) → tree' ≡ tree → body (get_or tree i d) ≡ Err refusal → IsOutcome (or_refuse (named tree name) r body) tree tree' (Err refusal)
  refused_here body r refusal tree' same eq =
      let all = known body _ r eq in
      record { answer = sym (ap answer_of all); tree = same ∙ sym (ap (tree_after tree) all) }

  -- back at a checkpoint
  pub back_here : (n : List ℕ) (a' : Alternative) → is_some (saved_as (get_or tree i d) n) ≡ true → a' ≡ gone_back (get_or tree i d) (saved_as (get_or tree i d) n) → IsOutcome (step tree (Back name n)) tree (set tree i a') (Ok Done)
  back_here n a' there new =
      elim (saved_as (get_or tree i d) n) as (λ s. saved_as (get_or tree i d) n ≡ s → is_some s ≡ true → a' ≡ gone_back (get_or tree i d) s → IsOutcome (step tree (Back name n)) tree (set tree i a') (Ok Done)) [
        | None ↦ λ is h eq. cc
        | Some c ↦ λ is h eq.
            let all = back_accepted tree name (get_or tree i d) (first.found d) n c is in
            record { answer = sym (ap answer_of all); tree = ap (set tree i) eq ∙ sym (first.change (λ x. record x { current = c.current; base = c.base }) d) ∙ sym (ap (tree_after tree) all) }
      ] refl there new
