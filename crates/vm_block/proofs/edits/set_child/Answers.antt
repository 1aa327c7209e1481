use Rattle.std.proofs.Common.{◌+◌, ◌*◌, refl, arith}
use Rattle.std.proofs.lemmas.Slice.{take-put_mid_below}
use Rattle.vm_block.proofs.WayLemmas.{child_set}
use Rattle.vm_block.proofs.edits.set_child.Goals as goal

pub returns-clause-child : goal.returns-clause-child
returns-clause-child c level cs node lt =
    child_set c.args.bytes.now _ level cs c.args.index c.args.child _ node lt ((omega arith, omega arith), omega arith) refl c.write_child.ensures

pub returns-clause-head : goal.returns-clause-head
returns-clause-head c = take-put_mid_below (16 + 14 * c.args.index) _ c.args.bytes.now _ 16 (omega arith) (omega (arith, c.told-bytes, c.requires))
