-- What a Merge and a Post come to, where the alternative and its parent stand at places of the tree.
use Rattle.std.proofs.Common.{◌≡◌, ◌≢◌, ℕ, Bool, true, List, map, length, get_or, set, None, Ok, bytes_eq, sym, ap, ap₂, ◌∙◌, ⊎_elim, arith}
use Rattle.std.proofs.lemmas.Bool.{cases_eq}
use Rattle.std.proofs.lemmas.Grind.{get_or-set_at}
use Rattle.std.proofs.lemmas.List.{get_or_default, get_or-set_other, length-set}
use Rattle.vm_types.specs.declared.answer.Answer.TheVariants.{Done, Merged}
use Rattle.vm_types.specs.declared.change.Conflict.{Conflict}
use Rattle.vm_types.specs.declared.command.Command.TheVariants.{Merge, Post}
use Rattle.vm_types.specs.declared.command.Side.{Side}
use Rattle.vm_types.specs.declared.key.Key.{Key}
use Rattle.vm_types.specs.Firsts.{IsFirst}
use Rattle.vm_types.specs.Map.{Map, delta, conflicts, merge, same_map}
use Rattle.vm_types.specs.Outcomes.{IsOutcome}
use Rattle.vm_types.specs.Step.{settled_refusal, step}
use Rattle.vm_types.specs.Tree.{Alternative, Tree, changed}
use Rattle.vm_types.proofs.FirstsLemmas.{IsFirst-at, find_passes}
use Rattle.vm_types.proofs.Steps.{merge_accepted, post_accepted, IsOutcome-accepted}
use Rattle.plain_model.specs.Plain.{IsUnder}
use Rattle.plain_model.proofs.Stepping.{changed_here}

module _ {tree : Tree} {alt : List ℕ} {i j : ℕ} (under : IsUnder tree alt i j) where
  -- the alternatives at both places, whichever defaults are named
  child_at : (d e : Alternative) → get_or tree i d ≡ get_or tree i e
  child_at d e = get_or_default tree i d e under.child.in_range

  parent_at : (d e : Alternative) → get_or tree j d ≡ get_or tree j e
  parent_at d e = get_or_default tree j d e under.above.in_range

  -- no name is changed by another parent of the same name
  same_name : (p e : Alternative) → p.name ≡ (get_or tree j e).name → (k : ℕ) → (get_or (set tree j p) k e).name ≡ (get_or tree k e).name
  same_name p e is k =
      ⊎_elim
      (λ (here : k ≡ j). ap (λ (x : Alternative). x.name) (get_or-set_at tree j k p e here under.above.in_range) ∙ is ∙ ap (λ n. (get_or tree n e).name) (sym here))
      (λ (other : k ≢ j). ap (λ (x : Alternative). x.name) (get_or-set_other tree j k p e other))
      (cases_eq k j)

  -- the alternative stands where it stood
  child_kept : (p e : Alternative) → p.name ≡ (get_or tree j e).name → IsFirst (λ (a : Alternative). bytes_eq a.name alt) (set tree j p) i
  child_kept p e is =
      let test : List ℕ → Bool = λ (name : List ℕ). bytes_eq name alt in
      IsFirst-at (λ (a : Alternative). bytes_eq a.name alt) (set tree j p) i e
      (let r = under.child.in_range in omega (arith, length-set tree j p))
      (ap test (same_name p e is i) ∙ find_passes (λ (a : Alternative). bytes_eq a.name alt) tree (get_or tree i e) (under.child.found e))
      (λ k lt. ap test (same_name p e is k) ∙ under.earlier k e lt)

  pub merge_here : (settled : List (Key × Side)) (in_conflict : List Conflict) (merged base : Map) (count : ℕ) (new d₁ d₂ d₃ d₄ e₁ e₂ e₃ : Alternative)
      → in_conflict ≡ conflicts (get_or tree i d₁).base (get_or tree j e₁).current (get_or tree i d₁).current
      → settled_refusal settled (map (λ c. c.key) in_conflict) ≡ None
      → merged ≡ merge (get_or tree i d₂).base (get_or tree j e₂).current (get_or tree i d₂).current settled
      → count ≡ length (delta (get_or tree i d₃).current merged)
      → base ≡ (get_or tree j e₃).current
      → new ≡ record (get_or tree i d₄) { current = merged; base = base }
      → IsOutcome (step tree (Merge alt settled)) tree (set tree i new) (Ok (Merged count))
  merge_here settled in_conflict merged base count new d₁ d₂ d₃ d₄ e₁ e₂ e₃ all none is many from now =
      let a = get_or tree i d₄ in
      let p = get_or tree j e₃ in
      let whole : in_conflict ≡ conflicts a.base p.current a.current = all ∙ ap₂ (λ (x y : Alternative). conflicts x.base y.current x.current) (child_at d₁ d₄) (parent_at e₁ e₃) in
      let same : merged ≡ merge a.base p.current a.current settled = is ∙ ap₂ (λ (x y : Alternative). merge x.base y.current x.current settled) (child_at d₂ d₄) (parent_at e₂ e₃) in
      let counted : count ≡ length (delta a.current (merge a.base p.current a.current settled)) = many ∙ ap₂ (λ (x : Alternative) (m : Map). length (delta x.current m)) (child_at d₃ d₄) same in
      let accepted = merge_accepted tree alt a (under.child.found d₄) under.parent p (under.label d₄) (under.above.found e₃) settled (sym (ap (λ cs. settled_refusal settled (map (λ c. c.key) cs)) whole) ∙ none) in
      changed_here under.child d₄ (step tree (Merge alt settled)) (Merged count) (λ (x : Alternative). record x { current = merge a.base p.current a.current settled; base = p.current }) new
      (now ∙ ap₂ (λ (m b : Map). record a { current = m; base = b }) same from)
      (accepted ∙ ap (λ n. Ok (changed tree alt (λ (x : Alternative). record x { current = merge a.base p.current a.current settled; base = p.current }), Merged n)) (sym counted))

  pub post_here : (current base : Map) (p a d₁ d₂ d₃ d₄ e₁ e₂ : Alternative)
      → same_map (get_or tree i d₁).base (get_or tree j e₁).current ≡ true
      → current ≡ (get_or tree i d₂).current
      → base ≡ (get_or tree i d₃).current
      → p ≡ record (get_or tree j e₂) { current = current }
      → a ≡ record (get_or (set tree j p) i d₄) { base = base }
      → IsOutcome (step tree (Post alt)) tree (set (set tree j p) i a) (Ok Done)
  post_here current base p a d₁ d₂ d₃ d₄ e₁ e₂ merged shown from raised now =
      let own = get_or tree i d₂ in
      let f : Alternative → Alternative = λ (x : Alternative). record x { current = own.current } in
      let g : Alternative → Alternative = λ (x : Alternative). record x { base = own.current } in
      let equal : same_map own.base (get_or tree j e₂).current ≡ true = ap₂ (λ (x y : Alternative). same_map x.base y.current) (child_at d₂ d₁) (parent_at e₂ e₁) ∙ merged in
      let above : set tree j p ≡ changed tree under.parent f = ap (set tree j) (raised ∙ ap (λ m. record (get_or tree j e₂) { current = m }) shown) ∙ sym (under.above.change f e₂) in
      let kept = child_kept p e₂ (ap (λ (x : Alternative). x.name) raised) in
      let below : set (set tree j p) i a ≡ changed (set tree j p) alt g =
      ap (set (set tree j p) i) (now ∙ ap (λ m. record (get_or (set tree j p) i d₄) { base = m }) (from ∙ ap (λ (x : Alternative). x.current) (child_at d₃ d₂))) ∙ sym (kept.change g d₄) in
      let accepted = post_accepted tree alt own (under.child.found d₂) under.parent (get_or tree j e₂) (under.label d₂) (under.above.found e₂) equal in
      IsOutcome-accepted (step tree (Post alt)) tree (set (set tree j p) i a) Done
      (accepted ∙ ap (λ t. Ok (t, Done)) (sym (below ∙ ap (λ t. changed t alt g) above)))
