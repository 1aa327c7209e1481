use Rattle.std.proofs.Common.{◌∙◌, ℕ, List, length, get_or, false, ap, sym, arith}
use Rattle.std.proofs.lemmas.List.{with_items_is}
use Rattle.vm_alloc.specs.Flags.{flags_of}
use Rattle.vm_alloc.proofs.FlagLemmas.{flags_both, length-flags_of, many_flags, packed_both, same_many}
use Rattle.vm_alloc.proofs.flags.Flags.clear_but.Goals as goal

pub clear_bits_but-requires : goal.clear_bits_but-requires
clear_bits_but-requires c =
    let many = same_many _ _ c.args.self.now _ _ c.args.others.now c.self.view_is c.others.view_is c.requires in
    omega (arith, many, c.self.invariant.fits, c.others.invariant.fits, ap length c.as_slice.ensures.value, ap length c.as_mut_slice.ensures.value)

pub returns-clause-count : goal.returns-clause-count
returns-clause-count c = length-flags_of _ c.self.inside.count ∙ sym (many_flags _ _ c.args.self.now c.self.view_is)

pub returns-clause-both : goal.returns-clause-both
returns-clause-both c k =
    ap (λ (words : List ℕ). get_or (flags_of words c.self.inside.count) k false) (with_items_is c.self.inside.words c.clear_bits_but.new.words (omega arith))
    ∙ flags_both _ _ _ _ c.clear_bits_but.new.words _ _ c.args.self.now c.args.others.now c.self.view_is c.others.view_is c.requires c.as_mut_slice.ensures.value c.as_slice.ensures.value c.clear_bits_but.ensures k

pub invariant_of-self : goal.invariant_of-self
invariant_of-self c =
    rw (with_items_is c.self.inside.words c.clear_bits_but.new.words (omega arith))
    (packed_both _ _ _ _ c.self.inside.count c.self.invariant c.as_mut_slice.ensures.value (omega arith) c.clear_bits_but.ensures)
