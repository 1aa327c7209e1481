use Rattle.vm_store.proofs.AddedLemmas.{numbers_more}
use Rattle.vm_store.proofs.store.recovery.root_numbers.Goals as goal

pub loop-entry-preserved : goal.loop-entry-preserved
loop-entry-preserved c = numbers_more _ _ c.entry-item.result _ _ c.loop-entry-test.true c.entry-item.is c.loop-entry.invariant c.in-Ok.ensures.items
