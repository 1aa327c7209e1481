use Rattle.std.proofs.Common.{◌+◌, ◌-◌, ◌*◌, ◌∷◌, drop, sym, ap, ◌∙◌, subst, refl, arith}
use Rattle.std.proofs.lemmas.Bool.{false≢true}
use Rattle.vm_block.specs.Bounds.{IsSound, bounds_of}
use Rattle.vm_block.proofs.BoundLemmas.{bound_part, bounds_of-from, sound_step}
use Rattle.vm_block.proofs.bounds.bounds_end.Goals as goal

pub returns-then-not-is_next-clause-only : goal.returns-then-not-is_next-clause-only
returns-then-not-is_next-clause-only c sound =
    let bytes = c.args.bytes.now in
    let i = c.loop-i.i in
    let bound = c.read_bound-bound.result in
    let here = bound_part i _ bytes bound refl c.read_bound-bound.ensures.spelled in
    let rest = bounds_of-from c.args.count i bytes c.loop-i-test.true ∙ ap (λ b. b ∷ bounds_of (c.args.count - (i + 1)) (drop (12 * (i + 1)) bytes)) here in
    absurd (false≢true (sym c.if-not-is_next.true ∙ c.is_next.ensures.1 (subst (IsSound c.loop-i.low c.loop-i.from) rest (c.loop-i.invariant.sound.0 sound)).0))

pub loop-i-preserved : goal.loop-i-preserved
loop-i-preserved c =
    let bytes = c.args.bytes.now in
    let i = c.loop-i.i in
    let bound = c.read_bound-bound.result in
    let here = bound_part i _ bytes bound refl c.read_bound-bound.ensures.spelled in
    let after = bounds_of (c.args.count - (i + 1)) (drop (12 * (i + 1)) bytes) in
    let rest = bounds_of-from c.args.count i bytes c.loop-i-test.true ∙ ap (λ b. b ∷ after) here in
    let step = sound_step c.loop-i.low c.loop-i.from c.place-low.result c.from-from.result bound after _ rest (c.is_next.ensures.0 c.if-not-is_next.false) c.place-low.ensures.place c.from-from.ensures in
    let so_far = c.loop-i.invariant in record {
      small = omega (arith, c.from-from.ensures, c.read_bound-bound.ensures.fits.1);
      low_small = omega (arith, c.place-low.ensures.small);
      sound = (λ s. step.0.0 (so_far.sound.0 s), λ t. so_far.sound.1 (step.0.1 t));
      last = so_far.last ∙ step.1;
    }
