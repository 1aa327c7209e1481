use Rattle.std.proofs.Common.{List, Result, subst}
use Rattle.vm_types.specs.declared.change.Change.{Change}
use Rattle.vm_types.specs.declared.refusal.Refusal.{Refusal}
use Rattle.vm_types.specs.Queries.{IsListing}
use Rattle.vm_types.proofs.AtLemmas.{changes_current}
use Rattle.vm_store.proofs.QueryLemmas.{query_same}
use Rattle.vm_store.proofs.store.Store.changes.Goals as goal

pub returns-clause-query : goal.returns-clause-query
returns-clause-query g c =
    query_same _ _ _ _ _ c.diff.ensures.query (λ s due. subst (λ (d : Result (List Change) Refusal). IsListing c.diff.result d) (changes_current s.working c.args.alt.now) due)

pub returns-clause-bound : goal.returns-clause-bound
returns-clause-bound g c = c.diff.ensures.bound
