-- A store that is only read, one query after another, and what is drawn of its alternatives.
use Rattle.std.proofs.Common.{◌≡◌, ◌<◌, ◌≤◌, ◌+◌, ◌++◌, ◌∷◌, ◌∙◌, ℕ, true, None, List, [], Option, Result, Ok, length, take, refl, sym, ap, arith}
use Rattle.std.specs.Prelude.{slice_index_or}
use Rattle.std.proofs.lemmas.List.{get_or-map, length-map, take_all, take_more}
use Rattle.vm_types.specs.declared.refusal.Refusal.{Refusal}
use Rattle.vm_types.specs.Queries.{checkpoints_in}
use Rattle.vm_types.specs.Shape.{saved_names, shape}
use Rattle.vm_types.specs.State.{State}
use Rattle.vm_types.specs.Tree.{Alternative}
use Rattle.vm_disk.proofs.MomentLemmas.{reads_then, same_medium}
use Rattle.vm_store.specs.Store.{Holds, disk_of}
use Rattle.vm_store.specs.Tallies.{tally_in}
use Rattle.vm_store.specs.declared.store.Store.{Store}
use Rattle.vm_cli.specs.program.Branches.{Branch, branch_of, branches_of, numbers}
use Rattle.vm_cli.specs.session.Session.{Passes}
use Rattle.vm_cli.proofs.CountingLemmas.{entry, its_own, listed_all, nothing, within}
use Rattle.vm_cli.proofs.PassLemmas.{grows_both}

module _ {D : Type 0} {members : _} where
  -- one query after another
  pub passes_both : (old mid new : Store D members) → Passes old mid None → Passes mid new None → Passes old new None
  passes_both old mid new first second = record {
    goes = grows_both _ _ _ first.goes second.goes;
    as_long = λ e. second.as_long e ∙ first.as_long e;
    reads = λ honest e. reads_then _ _ _ (first.reads (second.goes.earlier honest) e) (second.reads honest e);
    unchanged = λ e.
        let a = first.unchanged e in
        let b = second.unchanged e in record {
          alloc = b.alloc ∙ a.alloc;
          parts = b.parts ∙ a.parts;
          failed = b.failed ∙ a.failed;
        };
  }

  -- a store that was only read stands for what it stood for
  pub still_holds : (old new : Store D members) → Passes old new None → (members.state (disk_of new)).honest ≡ true → (s : State) → Holds old s → Holds new s
  still_holds old new passes honest s holds =
      let same = passes.unchanged refl in
      rw (same_medium _ _ (passes.reads honest refl), same.parts) holds

module _ {D : Type 0} {members : _} (store : Store D members) (s : State) (holds : Holds store s) (listed : List (List ℕ × Option (List ℕ))) (is : listed ≡ shape s.working) where
  -- all are drawn
  pub drawn_all : (i : ℕ) → length listed ≤ i → (branches : List Branch) → branches ≡ take i (branches_of s.working) → branches ≡ branches_of s.working
  drawn_all i end branches so_far =
      let long = listed_all store s holds listed is in
      let as_many = length-map s.working (branch_of s.working) in
      so_far ∙ take_all i (branches_of s.working) (omega (arith, end, long, as_many))

  module _ (i : ℕ) (lt : i < length listed) (one : List ℕ × Option (List ℕ)) (this : slice_index_or listed i one ≡ one) where
    abbrev a : Alternative
    a = slice_index_or s.working i nothing

    -- one more is drawn
    pub drawn_more : (branch : Branch) → (branch.name ≡ one.0) × (branch.parent ≡ one.1) × (branch.tally ≡ numbers (tally_in s.working one.0)) × (Ok branch.checkpoints ≡ checkpoints_in s.working one.0)
        → (branches : List Branch) → branches ≡ take i (branches_of s.working) → branches ++ branch ∷ [] ≡ take (i + 1) (branches_of s.working)
    drawn_more branch drawn branches so_far =
        let named = entry store s holds listed is i lt one this in
        let name : branch.name ≡ a.name = drawn.0 ∙ ap (λ (e : List ℕ × Option (List ℕ)). e.0) named in
        let parent : branch.parent ≡ a.parent = drawn.1 ∙ ap (λ (e : List ℕ × Option (List ℕ)). e.1) named in
        let tally : branch.tally ≡ numbers (tally_in s.working a.name) = drawn.2 ∙ ap (λ (e : List ℕ × Option (List ℕ)). numbers (tally_in s.working e.0)) named in
        let saved : ◌≡◌ {A = Result (List (List ℕ)) Refusal} (Ok branch.checkpoints) (Ok (saved_names a.saved)) = drawn.3 ∙ its_own store s holds listed is i lt one this in
        let checkpoints : branch.checkpoints ≡ saved_names a.saved = cc in
        let same : branch ≡ branch_of s.working a = λ j. record { name = name j; parent = parent j; tally = tally j; checkpoints = checkpoints j } in
        let there : slice_index_or (branches_of s.working) i branch ≡ branch_of s.working a = get_or-map (branch_of s.working) s.working i nothing branch (within store s holds listed is i lt one this) in
        let as_many = length-map s.working (branch_of s.working) in
        let inside : i < length (branches_of s.working) = omega (arith, within store s holds listed is i lt one this, as_many) in
        ap (λ (bs : List Branch). bs ++ branch ∷ []) so_far
        ∙ ap (λ (b : Branch). take i (branches_of s.working) ++ b ∷ []) (same ∙ sym there)
        ∙ sym (take_more (branches_of s.working) i branch inside)
