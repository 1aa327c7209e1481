use Rattle.std.proofs.Common.{refl, arith}
use Rattle.vm_store.proofs.AddedLemmas.{versions_few}
use Rattle.vm_store.proofs.EarliestLemmas.{earliest_first}
use Rattle.vm_store.proofs.versions.Versions.of_entries.Goals as goal

pub invariant_of-result : goal.invariant_of-result
invariant_of-result c =
    let few = versions_few _ _ _ _ _ c.requires.roots c.requires.few c.in_ok-list.ensures.items c.add_versions.ensures.items refl in
    (few, omega (arith, c.in_ok-list.ensures.capacity, c.add_versions.ensures.room), earliest_first _)
