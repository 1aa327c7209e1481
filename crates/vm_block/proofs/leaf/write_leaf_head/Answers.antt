use Rattle.std.proofs.Common.{◌++◌, refl}
use Rattle.std.specs.Prelude.{codes}
use Rattle.byteorder.specs.Endian.{little_bytes}
use Rattle.vm_block.specs.Leaf.{leaf_head}
use Rattle.vm_block.proofs.Pieces.{then_writes}
use Rattle.vm_block.proofs.leaf.write_leaf_head.Goals as goal

pub returns : goal.returns
unfolding leaf_head
returns c =
    let front = codes "LEF3" in
    let zero = little_bytes 4 0 in
    let count = little_bytes 4 c.args.count in
    let second = then_writes front zero c.args.out.now _ _ 4 _ 4 8 c.put.ensures refl refl c.write_u32.ensures refl in
    let third = then_writes (front ++ zero) count c.args.out.now _ _ 8 _ 4 12 second refl refl c.write_u32-2.ensures refl in
    then_writes (front ++ zero ++ count) zero c.args.out.now _ _ 12 _ 4 16 third refl refl c.write_u32-3.ensures refl
