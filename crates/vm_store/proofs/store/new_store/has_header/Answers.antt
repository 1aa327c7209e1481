use Rattle.vm_disk.proofs.MomentLemmas.{read_on}
use Rattle.vm_store.proofs.OpeningLemmas.{settles}
use Rattle.vm_store.proofs.store.new_store.has_header.Goals as goal

pub returns-in_default-clause-moments : goal.returns-in_default-clause-moments
returns-in_default-clause-moments g c honest = settles _ _ _ (c.sync.ensures.honest honest)

pub returns-in_default-read-clause-moments : goal.returns-in_default-read-clause-moments
returns-in_default-read-clause-moments g c honest =
    read_on _ _ _ _ _ _ _ (settles _ _ _ (c.sync.ensures.honest (c.read.ensures.any.earlier honest))) (c.read.ensures.honest honest)

pub returns-clause-moments : goal.returns-clause-moments
returns-clause-moments g c honest =
    read_on _ _ _ _ _ _ _ (settles _ _ _ (c.sync.ensures.honest (c.read.ensures.any.earlier honest))) (c.read.ensures.honest honest)
