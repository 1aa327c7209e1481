use Rattle.vm_disk.proofs.MomentLemmas.{then_reads}
use Rattle.vm_store.proofs.OpeningLemmas.{settles, settled, settled_then}
use Rattle.vm_store.proofs.store.recovery.find_slot.Goals as goal

pub returns-in_default-clause-moments : goal.returns-in_default-clause-moments
returns-in_default-clause-moments g c honest = settles _ _ _ (c.sync.ensures.honest honest)

pub returns-then-blocks-lt-MIN_BLOCKS-clause-moments : goal.returns-then-blocks-lt-MIN_BLOCKS-clause-moments
returns-then-blocks-lt-MIN_BLOCKS-clause-moments g c honest = settles _ _ _ (c.sync.ensures.honest honest)

pub returns-in-Ok-Some-clause-moments : goal.returns-in-Ok-Some-clause-moments
returns-in-Ok-Some-clause-moments g c honest =
    then_reads _ _ _ _ (settles _ _ _ (c.sync.ensures.honest (c.slot_in_use.ensures.any.earlier honest))) (c.slot_in_use.ensures.reads honest)

pub returns-in-Ok-Some-clause-synced : goal.returns-in-Ok-Some-clause-synced
returns-in-Ok-Some-clause-synced g c honest other =
    settled_then _ _ _ (settled _ _ _ _ c.in-Ok.is (c.sync.ensures.honest (c.slot_in_use.ensures.any.earlier honest))) (c.slot_in_use.ensures.reads honest)

pub returns-in-Ok-None-clause-moments : goal.returns-in-Ok-None-clause-moments
returns-in-Ok-None-clause-moments g c honest =
    then_reads _ _ _ _ (settles _ _ _ (c.sync.ensures.honest (c.slot_in_use.ensures.any.earlier honest))) (c.slot_in_use.ensures.reads honest)

pub returns-in-Ok-None-clause-synced : goal.returns-in-Ok-None-clause-synced
returns-in-Ok-None-clause-synced g c honest other =
    settled_then _ _ _ (settled _ _ _ _ c.in-Ok.is (c.sync.ensures.honest (c.slot_in_use.ensures.any.earlier honest))) (c.slot_in_use.ensures.reads honest)

pub returns-in-Err-clause-moments : goal.returns-in-Err-clause-moments
returns-in-Err-clause-moments g c honest =
    then_reads _ _ _ _ (settles _ _ _ (c.sync.ensures.honest (c.slot_in_use.ensures.any.earlier honest))) (c.slot_in_use.ensures.reads honest)
