use Rattle.std.proofs.Common.{refl}
use Rattle.byteorder.specs.Endian.{little_bytes}
use Rattle.vm_block.specs.Leaf.{key_bytes}
use Rattle.vm_block.specs.Node.{child_bytes}
use Rattle.vm_block.proofs.Pieces.{then_writes}
use Rattle.vm_block.proofs.node.write_child.Goals as goal

pub returns : goal.returns
unfolding child_bytes
returns c =
    then_writes (key_bytes c.args.child.low) (little_bytes 4 c.args.child.block) c.args.out.now _ _ 10 _ 4 14 c.write_key.ensures refl refl c.write_u32.ensures refl
