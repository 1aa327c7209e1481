use Rattle.std.proofs.Common.{◌∙◌, ℕ, false, List, ap, arith}
use Rattle.std.proofs.lemmas.List.{with_items_is}
use Rattle.vm_alloc.specs.Flags.{flags_of}
use Rattle.vm_alloc.specs.Words.{is_bit_set}
use Rattle.vm_alloc.proofs.FlagLemmas.{word_inside, many_flags, packed_set, flag_written}
use Rattle.vm_alloc.proofs.flags.Flags.unset.Goals as goal

pub unset_bit-requires : goal.unset_bit-requires
unset_bit-requires c = rw c.as_mut_slice.ensures.value (word_inside _ _ c.args.self.now c.args.n c.self.view_is c.self.invariant c.requires)

pub returns : goal.returns
returns c =
    ap (λ (words : List ℕ). flags_of words c.self.inside.count) (with_items_is c.self.inside.words c.unset_bit.new.words (omega arith))
    ∙ flag_written c.self.inside.words.items c.as_mut_slice.result.now c.unset_bit.new.words c.self.inside.count c.args.self.now c.args.n false
    c.self.view_is c.as_mut_slice.ensures.value c.requires c.unset_bit.ensures.same c.unset_bit.ensures.others

pub invariant_of-self : goal.invariant_of-self
invariant_of-self c =
    rw (with_items_is c.self.inside.words c.unset_bit.new.words (omega arith))
    (packed_set c.self.inside.words.items _ c.self.inside.count c.self.invariant (omega arith) (λ k past.
    c.unset_bit.ensures.others k (omega (arith, c.requires, many_flags _ _ c.args.self.now c.self.view_is))
    ∙ ap (λ (words : List ℕ). is_bit_set words k) c.as_mut_slice.ensures.value))
