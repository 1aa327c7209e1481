use Rattle.std.proofs.Common.{◌∙◌, Err, List, Ok, Result, ap, inr, refl, sym, rules}
use Rattle.vm_types.specs.declared.refusal.Refusal.{Refusal}
use Rattle.vm_types.specs.Map.{Map}
use Rattle.vm_types.specs.Versions.{delta_between, delta_from, map_at}
use Rattle.vm_tree.proofs.Looking.{passed_on}
use Rattle.vm_store.specs.Roots.{root_at}
use Rattle.vm_store.specs.Sizes.{sizes}
use Rattle.vm_store.specs.declared.version.Version.{Version}
use Rattle.vm_store.proofs.AtLemmas.{at_rooted, at_there}
use Rattle.vm_store.proofs.Listing.{list_refused, wanting}
use Rattle.vm_store.proofs.PartsLemmas.{same_parts}
use Rattle.vm_store.proofs.QueryLemmas.{query_failed, query_lacking, query_listed}
use Rattle.vm_store.proofs.store.Store.diff.Goals as goal

pub returns-in_err-ready-clause-query : goal.returns-in_err-ready-clause-query
returns-in_err-ready-clause-query g c =
    query_failed _ _ _ c.in_err-ready.ensures.err.1 (passed_on _ c.from_residual.ensures.1 ∙ ap Err c.in_err-ready.ensures.err.0)

pub returns-in_err-before-clause-query : goal.returns-in_err-before-clause-query
returns-in_err-before-clause-query g c =
    let is = passed_on _ c.from_residual-in_err-before.ensures.1 in
    query_lacking _ _ _ _ c.in_ok-ready.ensures.ok (search (rules, same_parts)) refl c.args.first.now _ c.in_err-before.ensures.root is
    (λ s holds lacks. rw is (inr (ap (λ (m : Result Map Refusal). delta_between m (map_at s.working c.args.second.now)) lacks)))

pub returns-in_err-after-clause-query : goal.returns-in_err-after-clause-query
returns-in_err-after-clause-query g c =
    let is = passed_on _ c.from_residual-in_err-after.ensures.1 in
    query_lacking _ _ _ _ c.in_ok-ready.ensures.ok (search (rules, same_parts)) refl c.args.second.now _
    (c.in_err-after.ensures.root ∙ ap (λ (vs : List Version). root_at vs c.args.second.now) c.in_ok-before.ensures.same) is
    (λ s holds lacks.
    let first = at_there _ _ _ _ _ _ s holds.rests c.args.first.now c.in_ok-before.before (sym c.in_ok-before.ensures.root) in
    rw is (inr (ap (λ (m : Result Map Refusal). delta_between m (map_at s.working c.args.second.now)) first.is ∙ ap (delta_from first.records) lacks)))

pub returns-in_err-changed-clause-query : goal.returns-in_err-changed-clause-query
returns-in_err-changed-clause-query g c =
    let is = passed_on _ c.from_residual-in_err-changed.ensures.1 in
    query_listed _ _ _ _ _ c.in_ok-ready.ensures.ok (search (rules, same_parts)) c.in_err-changed.ensures.looks is
    (λ honest well s holds.
    let first = at_there _ _ _ _ _ _ s holds.rests c.args.first.now c.in_ok-before.before (sym c.in_ok-before.ensures.root) in
    let second = at_there _ _ _ _ _ _ s holds.rests c.args.second.now c.in_ok-after.after (sym (c.in_ok-after.ensures.root ∙ ap (λ (vs : List Version). root_at vs c.args.second.now) c.in_ok-before.ensures.same)) in
    rw is
    (wanting _ _ _ (ap (λ (m : Result Map Refusal). delta_between m (map_at s.working c.args.second.now)) first.is ∙ ap (delta_from first.records) second.is)
    (list_refused c.in_err-changed.field-0.0 _ ⊥ (c.in_err-changed.ensures.changes honest sizes _ _ _ _ first.stands.rooted second.stands.rooted))))

pub returns-clause-query : goal.returns-clause-query
returns-clause-query g c =
    query_listed _ _ _ _ _ c.in_ok-ready.ensures.ok (search (rules, same_parts)) c.in_ok-changed.ensures.looks refl
    (λ honest well s holds.
    let first = at_there _ _ _ _ _ _ s holds.rests c.args.first.now c.in_ok-before.before (sym c.in_ok-before.ensures.root) in
    let second = at_there _ _ _ _ _ _ s holds.rests c.args.second.now c.in_ok-after.after (sym (c.in_ok-after.ensures.root ∙ ap (λ (vs : List Version). root_at vs c.args.second.now) c.in_ok-before.ensures.same)) in
    ap (λ (m : Result Map Refusal). delta_between m (map_at s.working c.args.second.now)) first.is ∙ ap (delta_from first.records) second.is
    ∙ ap Ok (sym (c.in_ok-changed.ensures.changes honest sizes _ _ _ _ first.stands.rooted second.stands.rooted)))

pub returns-clause-bound : goal.returns-clause-bound
returns-clause-bound g c honest s holds =
    let first = at_rooted _ _ _ _ _ _ s holds.rests c.args.first.now c.in_ok-before.before (sym c.in_ok-before.ensures.root) in
    let second = at_rooted _ _ _ _ _ _ s holds.rests c.args.second.now c.in_ok-after.after (sym (c.in_ok-after.ensures.root ∙ ap (λ (vs : List Version). root_at vs c.args.second.now) c.in_ok-before.ensures.same)) in
    c.in_ok-changed.ensures.bound honest sizes first.0 second.0 _ _ first.1 second.1

pub returns-in_err-changed-clause-bound : goal.returns-in_err-changed-clause-bound
returns-in_err-changed-clause-bound g c honest s holds =
    let first = at_rooted _ _ _ _ _ _ s holds.rests c.args.first.now c.in_ok-before.before (sym c.in_ok-before.ensures.root) in
    let second = at_rooted _ _ _ _ _ _ s holds.rests c.args.second.now c.in_ok-after.after (sym (c.in_ok-after.ensures.root ∙ ap (λ (vs : List Version). root_at vs c.args.second.now) c.in_ok-before.ensures.same)) in
    c.in_err-changed.ensures.bound honest sizes first.0 second.0 _ _ first.1 second.1
