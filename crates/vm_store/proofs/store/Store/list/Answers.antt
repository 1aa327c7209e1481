use Rattle.std.proofs.Common.{Result, subst}
use Rattle.vm_types.specs.declared.refusal.Refusal.{Refusal}
use Rattle.vm_types.specs.Map.{Map}
use Rattle.vm_types.specs.Queries.{IsListing}
use Rattle.vm_types.proofs.AtLemmas.{records_current}
use Rattle.vm_store.proofs.QueryLemmas.{query_same}
use Rattle.vm_store.proofs.store.Store.list.Goals as goal

pub returns : goal.returns
returns g c =
    record { query = query_same _ _ _ _ _ c.list_at.ensures.query (λ s due. subst (λ (d : Result Map Refusal). IsListing c.list_at.result d) (records_current s.working c.args.alt.now) due) }
