use Rattle.std.proofs.Common.{◌≡◌, ◌+◌, ◌-◌, sym, ap, ◌∙◌, arith}
use Rattle.vm_block.specs.Split.{larger, with_coming}
use Rattle.vm_block.proofs.SplitLemmas.{best_more, length_coming, total_is}
use Rattle.vm_block.proofs.split.best_cut.Goals as goal
use Rattle.vm_block.proofs.split.best_cut.Goals.{then-size-least, else-size-least}

pub larger_size-least-requires-clause-within : goal.larger_size-least-requires-clause-within
larger_size-least-requires-clause-within c = omega arith

pub loop-h-init : goal.loop-h-init
loop-h-init c =
    let coming = c.args.coming.now in
    record {
      above = omega arith;
      within = omega arith;
      found = λ rs r leaf many long.
          let all = with_coming coming r rs in
          let total = total_is rs r coming.index coming.next (coming.index + 1 + (coming.count - coming.next)) c.front_size-total.result (omega (arith, many, c.requires)) (omega (arith, many)) (c.front_size-total.ensures.only rs r leaf many long) in
          let first = c.larger_size-least.ensures.only rs r leaf many long total in
          (first, λ h some lt within. let one : 1 ≡ h = omega (arith, some, lt) in omega (arith, first, ap (λ m. larger m all) one));
    }

pub loop-h-preserved : goal.loop-h-preserved
loop-h-preserved c =
    let coming = c.args.coming.now in
    let so_far = c.loop-h.invariant in
    elim c.if-size-least.branch [
      | then-size-least w ↦ record {
        above = omega (arith, w.best-is, c.loop-h.auto.h);
        within = omega (arith, w.best-is, c.loop-h-test.true);
        found = λ rs r leaf many long.
            let all = with_coming coming r rs in
            let total = total_is rs r coming.index coming.next (coming.index + 1 + (coming.count - coming.next)) c.front_size-total.result (omega (arith, many, c.requires)) (omega (arith, many)) (c.front_size-total.ensures.only rs r leaf many long) in
            let here = c.larger_size-size.ensures.only rs r leaf many long total in (
              w.least-is ∙ here ∙ ap (λ m. larger m all) (sym w.best-is),
              best_more all c.loop-h.least c.if-size-least.least c.larger_size-size.result c.loop-h.h (omega (arith, w.least-is, w.if-size-least.true)) (omega (arith, w.least-is)) here (so_far.found rs r leaf many long).1,
            );
      }
      | else-size-least w ↦ record {
        above = omega (arith, w.best-is, so_far.above);
        within = omega (arith, w.best-is, so_far.within);
        found = λ rs r leaf many long.
            let all = with_coming coming r rs in
            let total = total_is rs r coming.index coming.next (coming.index + 1 + (coming.count - coming.next)) c.front_size-total.result (omega (arith, many, c.requires)) (omega (arith, many)) (c.front_size-total.ensures.only rs r leaf many long) in
            let here = c.larger_size-size.ensures.only rs r leaf many long total in (
              w.least-is ∙ (so_far.found rs r leaf many long).0 ∙ ap (λ m. larger m all) (sym w.best-is),
              best_more all c.loop-h.least c.if-size-least.least c.larger_size-size.result c.loop-h.h (omega (arith, w.least-is)) (omega (arith, w.least-is, w.if-size-least.false)) here (so_far.found rs r leaf many long).1,
            );
      }
    ]

pub returns-clause-only : goal.returns-clause-only
returns-clause-only c rs r leaf many long h some within =
    let coming = c.args.coming.now in
    let so_far = c.loop-h.invariant.found rs r leaf many long in
    let count = length_coming rs r coming.index coming.next (coming.index + 1 + (coming.count - coming.next)) (omega (arith, many, c.requires)) (omega (arith, many)) in
    omega (arith, so_far.0, so_far.1 h some (omega (arith, count, within, c.loop-h-test.false)) within)
