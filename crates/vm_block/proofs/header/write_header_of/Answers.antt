use Rattle.std.proofs.Common.{◌≡◌, ◌-◌, ◌++◌, codes, drop, length, ap, refl, ◌∙◌, arith, length-append, length-drop}
use Rattle.byteorder.specs.Endian.{little_bytes}
use Rattle.vm_block.specs.Header.{header_bytes_of}
use Rattle.vm_block.proofs.Pieces.{then_writes, then_zeros}
use Rattle.vm_block.proofs.header.write_header_of.Goals as goal

pub returns : goal.returns
unfolding header_bytes_of
returns c =
    let old = c.args.out.now in
    let letters = codes "ALTSTORE" in
    let format = little_bytes 4 c.args.format in
    let size = little_bytes 4 4096 in
    let far : 4088 ≡ length c.put.new.out - 8 = omega (arith, c.put.auto.out, c.told-out) in
    let first = then_writes letters format old c.put.new.out c.write_u32.new.buf 8 4088 4 12 c.put.ensures refl far c.write_u32.ensures refl in
    let long = ap length first ∙ length-append (letters ++ format) (drop 12 old) in
    let second = then_writes (letters ++ format) size old _ c.write_u32-2.new.buf 12 4084 4 16 first refl (omega (arith, long, length-drop 12 old, c.told-out)) c.write_u32-2.ensures refl in
    let longer = ap length second ∙ length-append ((letters ++ format) ++ size) (drop 16 old) in
    then_zeros (letters ++ (format ++ size)) old _ c.put_zeros.new.out 16 4080 4096 second refl c.told-out (omega arith) (omega (arith, longer, length-drop 16 old, c.told-out)) c.put_zeros.ensures
