use Rattle.std.proofs.Common.{refl}
use Rattle.byteorder.specs.Endian.{little_bytes}
use Rattle.vm_block.specs.Leaf.{key_bytes}
use Rattle.vm_block.specs.Leaf.{bound_bytes}
use Rattle.vm_block.proofs.Pieces.{then_writes}
use Rattle.vm_block.proofs.bounds.write_bound.Goals as goal

pub returns : goal.returns
unfolding bound_bytes
returns c =
    then_writes (key_bytes c.args.bound.key) (little_bytes 2 c.args.bound.end) c.args.out.now _ _ 10 _ 2 12 c.write_key.ensures refl refl c.write_u16.ensures refl
