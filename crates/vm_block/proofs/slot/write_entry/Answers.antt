use Rattle.std.proofs.Common.{◌∷◌, [], ◌++◌, drop, replicate, ap, refl, ◌∙◌, arith}
use Rattle.byteorder.specs.Endian.{little_bytes}
use Rattle.vm_block.specs.Slot.{tag_of, name_bytes, owner_bytes}
use Rattle.vm_block.proofs.Pieces.{Written, written_on}
use Rattle.vm_block.proofs.SlotLemmas.{entry_written}
use Rattle.vm_block.proofs.slot.write_entry.Goals as goal

pub returns : goal.returns
returns c =
    let e = c.args.entry.now in
    let old = c.args.out.now in
    let tagged : Written old c.put.new.out (tag_of e.kind ∷ []) 1 = record { is = c.put.ensures ∙ ap (λ t. (t ∷ []) ++ drop 1 old) c.tag.ensures; long = refl } in
    let named = written_on (name_bytes e.name) c.write_name.new.out _ 33 tagged (omega arith) refl c.write_name.ensures c.write_name.auto.out in
    let owned = written_on (owner_bytes e.owner) c.write_owner.new.out _ 33 named (omega arith) refl c.write_owner.ensures c.write_owner.auto.out in
    let current = written_on (little_bytes 4 e.current) c.write_u32.new.buf _ 4 owned (omega arith) refl c.write_u32.ensures c.write_u32.auto.buf in
    let base = written_on (little_bytes 4 e.base) c.write_u32-2.new.buf _ 4 current (omega arith) refl c.write_u32-2.ensures c.write_u32-2.auto.buf in
    let whole = written_on (replicate 53 0) c.put-2.new.out _ 53 base (omega arith) refl c.put-2.ensures c.put-2.auto.out in
    entry_written e old _ named.long owned.long whole
