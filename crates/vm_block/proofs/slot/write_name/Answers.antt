use Rattle.std.proofs.Common.{refl}
use Rattle.vm_block.proofs.SlotLemmas.{name_written}
use Rattle.vm_block.proofs.slot.write_name.Goals as goal

pub returns : goal.returns
returns c =
    name_written c.args.name.now c.as_bytes.result.now c.padded.result.now c.args.out.now _ _ _ c.put.ensures c.as_bytes.ensures.bytes refl c.padded.ensures.bytes c.as_bytes.ensures.name.few c.put-2.ensures
