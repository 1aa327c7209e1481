use Rattle.std.proofs.Common.{ℕ, List, Option, Result, refl, subst, sym}
use Rattle.vm_types.specs.declared.refusal.Refusal.{Refusal}
use Rattle.vm_types.specs.Versions.{value_at}
use Rattle.vm_tree.proofs.Looking.{passed_on}
use Rattle.vm_store.specs.Answers.{IsDueOrDevice}
use Rattle.vm_store.proofs.QueryLemmas.{query_fault, query_given}
use Rattle.vm_store.proofs.store.Store.get_at.Goals as goal

pub returns-in_err-value-clause-query : goal.returns-in_err-value-clause-query
returns-in_err-value-clause-query g c =
    let is = passed_on _ c.from_residual.ensures.1 in
    query_fault _ _ _ _ _ _ _ c.in_err-value.ensures.query refl is
    (λ s due. subst (λ (r : Result (Option (List ℕ)) Refusal). IsDueOrDevice r (value_at s.working c.args.at.now c.args.key)) (sym is) due)

pub returns-clause-query : goal.returns-clause-query
returns-clause-query g c = query_given _ _ _ _ _ _ c.in_ok-value.ensures.query (λ s due. rw c.copy_of.ensures due)
