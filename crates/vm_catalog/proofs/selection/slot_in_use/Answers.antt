use Rattle.vm_disk.proofs.MomentLemmas.{read_once, reads_then}
use Rattle.vm_catalog.proofs.selection.slot_in_use.Goals as goal

pub returns-in_err-read-clause-reads : goal.returns-in_err-read-clause-reads
returns-in_err-read-clause-reads g c honest = read_once _ _ _ _ _ (c.read.ensures.honest honest)

pub returns-then-not-is_header-clause-reads : goal.returns-then-not-is_header-clause-reads
returns-then-not-is_header-clause-reads g c honest = read_once _ _ _ _ _ (c.read.ensures.honest honest)

pub returns-in_err-read-2-clause-reads : goal.returns-in_err-read-2-clause-reads
returns-in_err-read-2-clause-reads g c honest =
    reads_then _ _ _ (read_once _ _ _ _ _ (c.read.ensures.honest (c.read-2.ensures.any.earlier honest))) (read_once _ _ _ _ _ (c.read-2.ensures.honest honest))

pub returns-clause-reads : goal.returns-clause-reads
returns-clause-reads g c honest =
    reads_then _ _ _ (read_once _ _ _ _ _ (c.read.ensures.honest (c.read-2.ensures.any.earlier honest))) (read_once _ _ _ _ _ (c.read-2.ensures.honest honest))
