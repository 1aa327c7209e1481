use Rattle.std.proofs.Common.{arith}
use Rattle.vm_alloc.proofs.FlagLemmas.{bits_below, flags_before, flag_found, many_flags}
use Rattle.vm_alloc.proofs.flags.Flags.first_clear.Goals as goal

pub first_clear_bit-requires-clause-set : goal.first_clear_bit-requires-clause-set
first_clear_bit-requires-clause-set c = bits_below _ _ _ c.args.from c.args.self.now c.self.view_is c.as_slice.ensures.value c.requires

pub returns-clause-before : goal.returns-clause-before
returns-clause-before c =
    flags_before _ _ _ _ c.min.result c.args.self.now c.self.view_is c.as_slice.ensures.value c.min.ensures c.first_clear_bit.ensures.before

pub returns-clause-found : goal.returns-clause-found
returns-clause-found c =
    flag_found _ _ _ _ c.min.result c.args.self.now c.self.view_is c.as_slice.ensures.value c.min.ensures c.self.invariant c.first_clear_bit.ensures.found

pub returns-clause-within : goal.returns-clause-within
returns-clause-within c = omega (arith, c.min.ensures, many_flags _ _ c.args.self.now c.self.view_is)
