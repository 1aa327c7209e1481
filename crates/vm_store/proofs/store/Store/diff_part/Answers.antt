use Rattle.std.proofs.Common.{◌∙◌, Err, List, Ok, Result, ap, inr, refl, sym, rules}
use Rattle.vm_types.specs.declared.refusal.Refusal.{Refusal}
use Rattle.vm_types.specs.Map.{Map}
use Rattle.vm_types.specs.Parts.{changes_part}
use Rattle.vm_types.specs.Places.{place}
use Rattle.vm_types.specs.Versions.{delta_between, delta_from, map_at}
use Rattle.vm_tree.proofs.Looking.{passed_on}
use Rattle.vm_tree.specs.Over.{is_between, tree_over}
use Rattle.vm_store.specs.Parts.{some_of}
use Rattle.vm_store.specs.Roots.{root_at}
use Rattle.vm_store.specs.Sizes.{sizes}
use Rattle.vm_store.specs.declared.version.Version.{Version}
use Rattle.vm_store.proofs.AtLemmas.{at_chosen, at_there}
use Rattle.vm_store.proofs.Listing.{list_refused, wanting}
use Rattle.vm_store.proofs.PartsLemmas.{same_parts}
use Rattle.vm_store.proofs.QueryLemmas.{query_failed, query_lacking, query_listed}
use Rattle.vm_store.proofs.store.Store.diff_part.Goals as goal

pub returns-in_err-ready-clause-query : goal.returns-in_err-ready-clause-query
returns-in_err-ready-clause-query g c =
    query_failed _ _ _ c.in_err-ready.ensures.err.1 (passed_on _ c.from_residual.ensures.1 ∙ ap Err c.in_err-ready.ensures.err.0)

pub returns-in_err-from-clause-query : goal.returns-in_err-from-clause-query
returns-in_err-from-clause-query g c =
    let is = passed_on _ c.from_residual-in_err-from.ensures.1 in
    query_lacking _ _ _ _ c.in_ok-ready.ensures.ok (search (rules, same_parts)) refl c.args.first.now _ c.in_err-from.ensures.root is
    (λ s holds lacks. rw is (inr (ap (λ (m : Result Map Refusal). some_of (changes_part (place c.args.low) (place c.args.high)) (delta_between m (map_at s.working c.args.second.now))) lacks)))

pub returns-in_err-to-clause-query : goal.returns-in_err-to-clause-query
returns-in_err-to-clause-query g c =
    let is = passed_on _ c.from_residual-in_err-to.ensures.1 in
    query_lacking _ _ _ _ c.in_ok-ready.ensures.ok (search (rules, same_parts)) refl c.args.second.now _
    (c.in_err-to.ensures.root ∙ ap (λ (vs : List Version). root_at vs c.args.second.now) c.in_ok-from.ensures.same) is
    (λ s holds lacks.
    let first = at_there _ _ _ _ _ _ s holds.rests c.args.first.now c.in_ok-from.from (sym c.in_ok-from.ensures.root) in
    rw is (inr (ap (λ (m : Result Map Refusal). some_of (changes_part (place c.args.low) (place c.args.high)) (delta_between m (map_at s.working c.args.second.now))) first.is ∙ ap (λ (n : Result Map Refusal). some_of (changes_part (place c.args.low) (place c.args.high)) (delta_from first.records n)) lacks)))

pub returns-in_err-changed_part-clause-query : goal.returns-in_err-changed_part-clause-query
returns-in_err-changed_part-clause-query g c =
    let is = passed_on _ c.from_residual-in_err-changed_part.ensures.1 in
    query_listed _ _ _ _ _ c.in_ok-ready.ensures.ok (search (rules, same_parts)) c.in_err-changed_part.ensures.looks is
    (λ honest well s holds.
    let first = at_there _ _ _ _ _ _ s holds.rests c.args.first.now c.in_ok-from.from (sym c.in_ok-from.ensures.root) in
    let second = at_there _ _ _ _ _ _ s holds.rests c.args.second.now c.in_ok-to.to (sym (c.in_ok-to.ensures.root ∙ ap (λ (vs : List Version). root_at vs c.args.second.now) c.in_ok-from.ensures.same)) in
    rw is
    (wanting _ _ _ (ap (λ (m : Result Map Refusal). some_of (changes_part (place c.args.low) (place c.args.high)) (delta_between m (map_at s.working c.args.second.now))) first.is ∙ ap (λ (n : Result Map Refusal). some_of (changes_part (place c.args.low) (place c.args.high)) (delta_from first.records n)) second.is)
    (list_refused c.in_err-changed_part.field-0.0 _ ⊥ (c.in_err-changed_part.ensures.changes honest sizes _ _ _ _ first.stands.rooted second.stands.rooted))))

pub returns-clause-query : goal.returns-clause-query
returns-clause-query g c =
    query_listed _ _ _ _ _ c.in_ok-ready.ensures.ok (search (rules, same_parts)) c.in_ok-changed_part.ensures.looks refl
    (λ honest well s holds.
    let first = at_there _ _ _ _ _ _ s holds.rests c.args.first.now c.in_ok-from.from (sym c.in_ok-from.ensures.root) in
    let second = at_there _ _ _ _ _ _ s holds.rests c.args.second.now c.in_ok-to.to (sym (c.in_ok-to.ensures.root ∙ ap (λ (vs : List Version). root_at vs c.args.second.now) c.in_ok-from.ensures.same)) in
    ap (λ (m : Result Map Refusal). some_of (changes_part (place c.args.low) (place c.args.high)) (delta_between m (map_at s.working c.args.second.now))) first.is ∙ ap (λ (n : Result Map Refusal). some_of (changes_part (place c.args.low) (place c.args.high)) (delta_from first.records n)) second.is
    ∙ ap Ok (sym (c.in_ok-changed_part.ensures.changes honest sizes _ _ _ _ first.stands.rooted second.stands.rooted)))

pub returns-clause-bound : goal.returns-clause-bound
returns-clause-bound g c honest s holds =
    let first = at_chosen _ _ _ _ _ _ s holds.rests (λ root n lies. tree_over (is_between (place c.args.low) (place c.args.high)) sizes _ _ root n lies.stands_in lies.rooted) c.args.first.now c.in_ok-from.from (sym c.in_ok-from.ensures.root) in
    let second = at_chosen _ _ _ _ _ _ s holds.rests (λ root n lies. tree_over (is_between (place c.args.low) (place c.args.high)) sizes _ _ root n lies.stands_in lies.rooted) c.args.second.now c.in_ok-to.to (sym (c.in_ok-to.ensures.root ∙ ap (λ (vs : List Version). root_at vs c.args.second.now) c.in_ok-from.ensures.same)) in
    rw (first.2, second.2) (c.in_ok-changed_part.ensures.bound honest sizes first.0 second.0 _ _ first.1.rooted second.1.rooted)

pub returns-in_err-changed_part-clause-bound : goal.returns-in_err-changed_part-clause-bound
returns-in_err-changed_part-clause-bound g c honest s holds =
    let first = at_chosen _ _ _ _ _ _ s holds.rests (λ root n lies. tree_over (is_between (place c.args.low) (place c.args.high)) sizes _ _ root n lies.stands_in lies.rooted) c.args.first.now c.in_ok-from.from (sym c.in_ok-from.ensures.root) in
    let second = at_chosen _ _ _ _ _ _ s holds.rests (λ root n lies. tree_over (is_between (place c.args.low) (place c.args.high)) sizes _ _ root n lies.stands_in lies.rooted) c.args.second.now c.in_ok-to.to (sym (c.in_ok-to.ensures.root ∙ ap (λ (vs : List Version). root_at vs c.args.second.now) c.in_ok-from.ensures.same)) in
    rw (first.2, second.2) (c.in_err-changed_part.ensures.bound honest sizes first.0 second.0 _ _ first.1.rooted second.1.rooted)
