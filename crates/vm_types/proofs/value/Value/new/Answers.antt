use Rattle.std.proofs.Common.{arith, refl}
use Rattle.vm_types.specs.Bytes.{longest}
use Rattle.vm_types.proofs.BytesLemmas.{IsPadded-written}
use Rattle.vm_types.proofs.value.Value.new.Goals as goal

pub invariant_of-result : goal.invariant_of-result
invariant_of-result c = IsPadded-written longest c.args.bytes.now c.copy_from_slice.new.self _ (omega arith) c.copy_from_slice.ensures.after refl
