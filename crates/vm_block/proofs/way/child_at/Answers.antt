use Rattle.std.proofs.Common.{arith}
use Rattle.vm_block.proofs.WayLemmas.{child_read}
use Rattle.vm_block.proofs.way.child_at.Goals as goal

pub returns-clause-child : goal.returns-clause-child
returns-clause-child c level cs node lt =
    child_read c.args.bytes.now level cs c.args.i c.read_child.result _ node lt c.read_child.ensures.fits (omega arith) c.read_child.ensures.spelled
