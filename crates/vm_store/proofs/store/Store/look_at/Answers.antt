use Rattle.std.proofs.Common.{◌∙◌, Ok, Err, Result, inl, inr, ap, refl, sym, rules}
use Rattle.vm_types.specs.declared.refusal.Refusal.{Refusal}
use Rattle.vm_types.specs.declared.refusal.Refusal.TheVariants.{Memory}
use Rattle.vm_types.specs.Map.{Map}
use Rattle.vm_types.specs.Versions.{value_within}
use Rattle.vm_tree.specs.Faults.{refusal_of}
use Rattle.vm_tree.proofs.Looking.{looks_of, passed_on}
use Rattle.vm_store.specs.Answers.{copied_answer}
use Rattle.vm_store.specs.Sizes.{sizes}
use Rattle.vm_store.proofs.AtLemmas.{at_there, not_of_versions}
use Rattle.vm_store.proofs.PartsLemmas.{same_parts}
use Rattle.vm_store.proofs.QueryLemmas.{query_failed, query_lacking, query_passed}
use Rattle.vm_store.proofs.store.Store.look_at.Goals as goal

pub returns-in_err-ready-clause-query : goal.returns-in_err-ready-clause-query
returns-in_err-ready-clause-query g c =
    query_failed _ _ _ c.in_err-ready.ensures.err.1 (passed_on _ c.from_residual.ensures.1 ∙ ap Err c.in_err-ready.ensures.err.0)

pub returns-in_err-root-clause-query : goal.returns-in_err-root-clause-query
returns-in_err-root-clause-query g c =
    let is = passed_on _ c.from_residual-in_err-root.ensures.1 in
    query_lacking _ _ _ _ c.in_ok-ready.ensures.ok (search (rules, same_parts)) refl c.args.at.now _ c.in_err-root.ensures.root is
    (λ s holds lacks. inr (ap copied_answer is ∙ sym (ap (λ (m : Result Map Refusal). value_within m c.args.key) lacks)))

pub returns-in_err-root-clause-no_memory : goal.returns-in_err-root-clause-no_memory
returns-in_err-root-clause-no_memory g c memory =
    let is = passed_on _ c.from_residual-in_err-root.ensures.1 in
    not_of_versions c.args.self.now.parts.working c.args.at.now _ Memory (λ e. cc) (λ e. cc) (sym c.in_err-root.ensures.root) (cc (is, memory))

pub returns-in_err-get-clause-query : goal.returns-in_err-get-clause-query
returns-in_err-get-clause-query g c =
    let is = passed_on _ c.from_residual-in_err-get.ensures.1 in
    query_passed _ _ _ _ _ c.in_ok-ready.ensures.ok (search (rules, same_parts)) (looks_of c.in_err-get.ensures.looks) is
    (λ honest well s holds.
    let at = at_there _ _ _ _ _ _ s holds.rests c.args.at.now c.in_ok-root.root (sym c.in_ok-root.ensures.root) in
    inl (ap copied_answer is ∙ ap Err (ap refusal_of (c.in_err-get.ensures.value sizes honest at.records at.stands.stands_in at.stands.rooted))))

pub returns-clause-query : goal.returns-clause-query
returns-clause-query g c =
    query_passed _ _ _ _ _ c.in_ok-ready.ensures.ok (search (rules, same_parts)) (looks_of c.in_ok-get.ensures.looks) refl
    (λ honest well s holds.
    let at = at_there _ _ _ _ _ _ s holds.rests c.args.at.now c.in_ok-root.root (sym c.in_ok-root.ensures.root) in
    inr (ap Ok (c.in_ok-get.ensures.value sizes honest at.records at.stands.stands_in at.stands.rooted) ∙ sym (ap (λ (m : Result Map Refusal). value_within m c.args.key) at.is)))
