use Rattle.std.proofs.Common.{ℕ, List, Option, Result, subst}
use Rattle.vm_types.specs.declared.refusal.Refusal.{Refusal}
use Rattle.vm_types.proofs.AtLemmas.{value_current}
use Rattle.vm_store.specs.Answers.{IsDueOrDevice}
use Rattle.vm_store.proofs.QueryLemmas.{query_same}
use Rattle.vm_store.proofs.store.Store.get.Goals as goal

pub returns-clause-query : goal.returns-clause-query
returns-clause-query g c =
    query_same _ _ _ _ _ c.get_at.ensures.query
    (λ s due. subst (λ (d : Result (Option (List ℕ)) Refusal). IsDueOrDevice c.get_at.result d) (value_current s.working c.args.alt.now c.args.key) due)
