use Rattle.std.proofs.Common.{◌++◌, refl, codes}
use Rattle.byteorder.specs.Endian.{little_bytes}
use Rattle.vm_block.specs.Node.{node_head}
use Rattle.vm_block.proofs.Pieces.{then_writes}
use Rattle.vm_block.proofs.node.write_node_head.Goals as goal

pub returns : goal.returns
unfolding node_head
returns c =
    let front = codes "NODE" in
    let level = little_bytes 4 c.args.level in
    let count = little_bytes 4 c.args.count in
    let second = then_writes front level c.args.out.now _ _ 4 _ 4 8 c.put.ensures refl refl c.write_u32.ensures refl in
    let third = then_writes (front ++ level) count c.args.out.now _ _ 8 _ 4 12 second refl refl c.write_u32-2.ensures refl in
    then_writes (front ++ level ++ count) (little_bytes 4 0) c.args.out.now _ _ 12 _ 4 16 third refl refl c.write_u32-3.ensures refl
