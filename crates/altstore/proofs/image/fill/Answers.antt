use Rattle.std.proofs.Common.{◌∙◌, ap, arith, refl}
use Rattle.vm_sums.specs.Sums.{summed}
use Rattle.altstore.proofs.ImageLemmas.{block_at, one_more}
use Rattle.altstore.proofs.image.fill.Goals as goal

pub loop-n-preserved : goal.loop-n-preserved
loop-n-preserved c =
    let wrote = c.in-Ok.ensures.honest refl in
    record {
      as_many = wrote.count ∙ c.loop-n.invariant.as_many;
      count = c.loop-n.invariant.count;
      most = (let test = c.loop-n-test.true in omega arith);
      filled = one_more _ _ c.loop-n.n _ _ wrote.written wrote.others c.loop-n.invariant.filled (c.exchange_sum.ensures ∙ ap (summed c.loop-n.n) (c.copy_from_slice.ensures.after ∙ block_at c.args.image.now c.loop-n.n));
    }
