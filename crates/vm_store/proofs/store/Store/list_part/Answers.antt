use Rattle.std.proofs.Common.{◌∙◌, Err, Ok, Result, ap, inr, refl, sym, rules}
use Rattle.vm_types.specs.declared.refusal.Refusal.{Refusal}
use Rattle.vm_types.specs.Map.{Map}
use Rattle.vm_types.specs.Parts.{part}
use Rattle.vm_types.specs.Places.{place}
use Rattle.vm_tree.proofs.Looking.{passed_on}
use Rattle.vm_tree.specs.Over.{is_between, tree_over}
use Rattle.vm_store.specs.Parts.{some_of}
use Rattle.vm_store.specs.Sizes.{sizes}
use Rattle.vm_store.proofs.AtLemmas.{at_chosen, at_there}
use Rattle.vm_store.proofs.Listing.{list_refused, wanting}
use Rattle.vm_store.proofs.PartsLemmas.{same_parts}
use Rattle.vm_store.proofs.QueryLemmas.{query_failed, query_lacking, query_listed}
use Rattle.vm_store.proofs.store.Store.list_part.Goals as goal

pub returns-in_err-ready-clause-query : goal.returns-in_err-ready-clause-query
returns-in_err-ready-clause-query g c =
    query_failed _ _ _ c.in_err-ready.ensures.err.1 (passed_on _ c.from_residual.ensures.1 ∙ ap Err c.in_err-ready.ensures.err.0)

pub returns-in_err-root-clause-query : goal.returns-in_err-root-clause-query
returns-in_err-root-clause-query g c =
    let is = passed_on _ c.from_residual-in_err-root.ensures.1 in
    query_lacking _ _ _ _ c.in_ok-ready.ensures.ok (search (rules, same_parts)) refl c.args.at.now _ c.in_err-root.ensures.root is
    (λ s holds lacks. rw is (inr (ap (λ (m : Result Map Refusal). some_of (part (place c.args.low) (place c.args.high)) m) lacks)))

pub returns-in_err-scan_part-clause-query : goal.returns-in_err-scan_part-clause-query
returns-in_err-scan_part-clause-query g c =
    let is = passed_on _ c.from_residual-in_err-scan_part.ensures.1 in
    query_listed _ _ _ _ _ c.in_ok-ready.ensures.ok (search (rules, same_parts)) c.in_err-scan_part.ensures.looks is
    (λ honest well s holds.
    let at = at_there _ _ _ _ _ _ s holds.rests c.args.at.now c.in_ok-root.root (sym c.in_ok-root.ensures.root) in
    rw is
    (wanting _ _ _ (ap (λ (m : Result Map Refusal). some_of (part (place c.args.low) (place c.args.high)) m) at.is)
    (list_refused c.in_err-scan_part.field-0.0 _ ⊥ (c.in_err-scan_part.ensures.records sizes honest at.records at.stands.stands_in at.stands.rooted))))

pub returns-clause-query : goal.returns-clause-query
returns-clause-query g c =
    query_listed _ _ _ _ _ c.in_ok-ready.ensures.ok (search (rules, same_parts)) c.in_ok-scan_part.ensures.looks refl
    (λ honest well s holds.
    let at = at_there _ _ _ _ _ _ s holds.rests c.args.at.now c.in_ok-root.root (sym c.in_ok-root.ensures.root) in
    ap (λ (m : Result Map Refusal). some_of (part (place c.args.low) (place c.args.high)) m) at.is
    ∙ ap Ok (sym (c.in_ok-scan_part.ensures.records sizes honest at.records at.stands.stands_in at.stands.rooted)))

pub returns-clause-bound : goal.returns-clause-bound
returns-clause-bound g c honest s holds =
    let tree = at_chosen _ _ _ _ _ _ s holds.rests (λ root n lies. tree_over (is_between (place c.args.low) (place c.args.high)) sizes _ _ root n lies.stands_in lies.rooted) c.args.at.now c.in_ok-root.root (sym c.in_ok-root.ensures.root) in
    rw tree.2 (c.in_ok-scan_part.ensures.bound honest sizes tree.0 _ tree.1.rooted)

pub returns-in_err-scan_part-clause-bound : goal.returns-in_err-scan_part-clause-bound
returns-in_err-scan_part-clause-bound g c honest s holds =
    let tree = at_chosen _ _ _ _ _ _ s holds.rests (λ root n lies. tree_over (is_between (place c.args.low) (place c.args.high)) sizes _ _ root n lies.stands_in lies.rooted) c.args.at.now c.in_ok-root.root (sym c.in_ok-root.ensures.root) in
    rw tree.2 (c.in_err-scan_part.ensures.bound honest sizes tree.0 _ tree.1.rooted)
