use Rattle.std.proofs.Common.{◌∙◌}
use Rattle.vm_alloc.proofs.FlagLemmas.{word_inside, flag_read}
use Rattle.vm_alloc.proofs.flags.Flags.get.Goals as goal

pub bit-requires : goal.bit-requires
bit-requires c = rw c.as_slice.ensures.value (word_inside _ _ c.args.self.now c.args.n c.self.view_is c.self.invariant c.requires)

pub returns : goal.returns
returns c = c.bit.ensures ∙ flag_read _ _ _ c.args.self.now c.args.n c.self.view_is c.as_slice.ensures.value c.requires
