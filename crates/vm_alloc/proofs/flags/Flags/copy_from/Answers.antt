use Rattle.std.proofs.Common.{◌∙◌, arith}
use Rattle.vm_alloc.proofs.FlagLemmas.{same_many, flags_copied, packed_copied}
use Rattle.vm_alloc.proofs.flags.Flags.copy_from.Goals as goal

pub copy_from_slice-requires : goal.copy_from_slice-requires
copy_from_slice-requires c =
    omega (arith, same_many _ _ c.args.self.now _ _ c.args.other.now c.self.view_is c.other.view_is c.requires)

pub returns : goal.returns
returns c =
    flags_copied _ _ _ _ c.args.other.now c.other.view_is (c.copy_from_slice.ensures.items ∙ c.as_slice.ensures.value)
    (same_many _ _ c.args.self.now _ _ c.args.other.now c.self.view_is c.other.view_is c.requires)

pub invariant_of-self : goal.invariant_of-self
invariant_of-self c =
    packed_copied _ _ _ _ c.other.invariant (c.copy_from_slice.ensures.items ∙ c.as_slice.ensures.value)
    (same_many _ _ c.args.self.now _ _ c.args.other.now c.self.view_is c.other.view_is c.requires)
