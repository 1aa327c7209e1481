use Rattle.std.proofs.Common.{length}
use Rattle.vm_block.proofs.HeadLemmas.{some_same}
use Rattle.vm_block.proofs.LeafLemmas.{leaf_headed}
use Rattle.vm_block.proofs.look.records_len.Goals as goal

pub returns-in-Some-clause-only : goal.returns-in-Some-clause-only
returns-in-Some-clause-only c rs leaf = some_same (length rs) c.in-Some.count (c.in-Some.ensures.only (length rs) (leaf_headed c.args.bytes.now rs leaf))

pub returns-in-None-clause-only : goal.returns-in-None-clause-only
returns-in-None-clause-only c rs leaf = absurd (cc (c.in-None.ensures.only (length rs) (leaf_headed c.args.bytes.now rs leaf)))
