use Rattle.std.proofs.Common.{false, ap, get_or, rules}
use Rattle.vm_disk.proofs.FillLemmas.{block_refilled}
use Rattle.vm_disk.proofs.memory.Platter.refill.Goals as goal

pub loop-n-preserved : goal.loop-n-preserved
loop-n-preserved c =
    let so_far = c.loop-n.invariant in record {
      keeps = search rules;
      filled = λ k. block_refilled _ _ _ _ _ _ _ _ (ap (λ dirty. get_or dirty.items k false) so_far.keeps.dirty) c.loop-n-test.true (so_far.filled k) (c.refill_block.ensures.filled k);
    }
