use Rattle.std.proofs.Common.{refl}
use Rattle.std.proofs.lemmas.List.{get_or_default}
use Rattle.vm_block.specs.Node.{child_bytes}
use Rattle.vm_block.proofs.Rows.{rows_written}
use Rattle.vm_block.proofs.node.write_children.Goals as goal

pub loop-i-preserved : goal.loop-i-preserved
loop-i-preserved c =
    rows_written child_bytes 14 c.args.children.now c.loop-i.i _ c.args.out.now c.loop-i.out _ _ c.loop-i-test.true (get_or_default c.args.children.now c.loop-i.i _ _ c.loop-i-test.true) c.loop-i.invariant c.requires c.loop-i.auto.out refl c.write_child.ensures
