use Rattle.std.proofs.Common.{◌≡◌, ◌∙◌, ℕ, ◌+◌, ◌/◌, List, length, ap, arith}
use Rattle.std.proofs.lemmas.List.{with_items_is, length-take}
use Rattle.vm_alloc.specs.Flags.{flags_of}
use Rattle.vm_alloc.proofs.FlagLemmas.{flags_shorter, many_flags, packed_shorter}
use Rattle.vm_alloc.proofs.flags.Flags.truncate.Goals as goal
use Rattle.vm_alloc.proofs.flags.Flags.truncate.Goals.{After-as_mut_slice}

-- there are just as many words as the flags that stay need
word_count : (c : After-as_mut_slice) → length c.as_mut_slice.result.now ≡ (c.args.count + 63) / 64
word_count c =
    let many = many_flags _ _ c.args.self.now c.self.view_is in
    omega (arith, ap length c.as_mut_slice.ensures.value, ap length c.truncate.ensures.items, length-take c.div_ceil.result c.self.inside.words.items, c.self.invariant.fits, c.div_ceil.ensures, many, c.requires)

pub clear_bits_from-requires : goal.clear_bits_from-requires
clear_bits_from-requires c = let many = word_count (goal.at.clear_bits_from-requires c).After-as_mut_slice in omega (arith, many)

pub returns : goal.returns
returns c =
    ap (λ (words : List ℕ). flags_of words c.args.count) (with_items_is c.truncate.new.self c.clear_bits_from.new.words (omega arith))
    ∙ flags_shorter c.self.inside.words.items c.as_mut_slice.result.now c.clear_bits_from.new.words c.self.inside.count c.args.count c.div_ceil.result c.args.self.now
    c.self.view_is c.requires (omega (arith, c.div_ceil.ensures)) (c.as_mut_slice.ensures.value ∙ c.truncate.ensures.items) c.clear_bits_from.ensures.before

pub invariant_of-self : goal.invariant_of-self
invariant_of-self c =
    let many = many_flags _ _ c.args.self.now c.self.view_is in
    let fits = word_count (goal.at.invariant_of-self c).After-as_mut_slice in
    rw (with_items_is c.truncate.new.self c.clear_bits_from.new.words (omega arith))
    (packed_shorter c.self.inside.words.items c.clear_bits_from.new.words c.self.inside.count c.args.count c.self.invariant (omega (arith, many, c.requires))
    (omega (arith, fits)) c.clear_bits_from.ensures.behind)
