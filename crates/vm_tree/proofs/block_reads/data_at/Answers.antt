use Rattle.vm_disk.proofs.MomentLemmas.{read_once}
use Rattle.std.proofs.Common.{rules}
use Rattle.vm_tree.proofs.block_reads.data_at.Goals as goal

pub returns-clause-looks : goal.returns-clause-looks
returns-clause-looks g c = record { goes = search rules; reads = λ honest. read_once _ _ _ _ _ (c.read.ensures.honest honest); once = search rules }

pub returns-in_err-read-clause-looks : goal.returns-in_err-read-clause-looks
returns-in_err-read-clause-looks g c = record { goes = search rules; reads = λ honest. read_once _ _ _ _ _ (c.read.ensures.honest honest); once = search rules }
