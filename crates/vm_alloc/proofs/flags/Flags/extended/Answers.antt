use Rattle.std.proofs.Common.{◌≡◌, ◌≤◌, ◌∙◌, ℕ, ◌++◌, ◌-◌, List, ap, take, replicate, arith, rules}
use Rattle.std.proofs.lemmas.List.{take_all}
use Rattle.std.specs.Prelude.{vec_len}
use Rattle.vm_alloc.proofs.FlagLemmas.{many_flags, packed_longer, flags_longer}
use Rattle.vm_alloc.proofs.flags.Flags.extended.Goals as goal

not_fewer : (c : goal.In_ok-resize) → c.self.inside.count ≤ c.args.count
not_fewer c = omega (arith, c.requires.longer, many_flags _ _ c.args.self.now c.self.view_is)

-- how many words of zeros are added
more : goal.In_ok-resize → ℕ
more c = c.div_ceil-2.result - vec_len c.extend_from_slice.new.self

longer_words : (c : goal.In_ok-resize) → c.resize.new.self.items ≡ c.self.inside.words.items ++ replicate (more c) 0
unfolding more
longer_words c =
    let words : List ℕ = c.self.inside.words.items in
    let copied : c.extend_from_slice.new.self.items ≡ words = search rules in
    c.in_ok-resize.ensures.items
    ∙ ap (λ (ws : List ℕ). take c.div_ceil-2.result ws ++ replicate (more c) 0) copied
    ∙ ap (λ (ws : List ℕ). ws ++ replicate (more c) 0) (take_all c.div_ceil-2.result words (omega (arith, not_fewer c, c.self.invariant.fits, c.div_ceil-2.ensures)))

pub invariant_of-result : goal.invariant_of-result
invariant_of-result c =
    packed_longer c.self.inside.words.items _ c.self.inside.count c.args.count _ c.self.invariant (not_fewer c) c.requires.few (longer_words c)
    (omega (arith, c.in_ok-resize.ensures.len, c.div_ceil-2.ensures))

pub returns : goal.returns
returns c =
    flags_longer c.self.inside.words.items _ c.self.inside.count c.args.count _ c.args.self.now c.self.view_is c.self.invariant (not_fewer c) (longer_words c)
