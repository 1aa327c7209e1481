use Rattle.std.proofs.Common.{refl, subst, sym}
use Rattle.vm_types.specs.Name.{IsName}
use Rattle.vm_types.proofs.BytesLemmas.{IsPadded-written, take-written}
use Rattle.vm_types.proofs.name.Name.new.Goals as goal

pub invariant_of-result : goal.invariant_of-result
invariant_of-result c = record {
  padding = IsPadded-written 32 c.args.bytes.now c.copy_from_slice.new.self _ (c.is_name.ensures.0 c.if-not-is_name.false).few c.copy_from_slice.ensures.after refl;
  name = subst IsName (sym (take-written c.args.bytes.now c.copy_from_slice.new.self _ _ c.copy_from_slice.ensures.after refl)) (c.is_name.ensures.0 c.if-not-is_name.false);
}
