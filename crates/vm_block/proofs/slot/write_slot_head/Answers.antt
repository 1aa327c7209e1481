use Rattle.std.proofs.Common.{◌++◌, codes, replicate, refl}
use Rattle.byteorder.specs.Endian.{little_bytes}
use Rattle.vm_block.specs.declared.header.TheConstants.{FORMAT}
use Rattle.vm_block.specs.Padding.{zeros}
use Rattle.vm_block.specs.Slot.{head_bytes}
use Rattle.vm_block.proofs.Pieces.{then_writes}
use Rattle.vm_block.proofs.slot.write_slot_head.Goals as goal

pub returns : goal.returns
unfolding head_bytes zeros
returns c =
    let old = c.args.out.now in
    let letters = codes "SLOT" in
    let number = little_bytes 4 FORMAT in
    let blocks = little_bytes 4 c.args.head.blocks in
    let entries = little_bytes 4 c.args.head.entries in
    let first = then_writes letters number old _ _ 4 _ 4 8 c.put.ensures refl refl c.write_u32.ensures refl in
    let second = then_writes (letters ++ number) blocks old _ _ 8 _ 4 12 first refl refl c.write_u32-2.ensures refl in
    let third = then_writes (letters ++ number ++ blocks) entries old _ _ 12 _ 4 16 second refl refl c.write_u32-3.ensures refl in
    then_writes (letters ++ number ++ blocks ++ entries) (replicate 112 0) old _ _ 16 _ 112 128 third refl refl c.put-2.ensures refl
