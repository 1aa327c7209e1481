use Rattle.std.proofs.Common.{◌≤◌, subst, sym}
use Rattle.vm_store.specs.Rest.{spare_of}
use Rattle.vm_store.proofs.MarkedLemmas.{free_at_most}
use Rattle.vm_store.proofs.store.Store.free.Goals as goal

pub returns-clause-spare : goal.returns-clause-spare
returns-clause-spare g c s holds = subst (λ n. n ≤ spare_of holds.rests) (sym c.free_count.ensures.count) (free_at_most _ _ _ _ _ _ s c.args.self.now.parts.bits holds.rests)
