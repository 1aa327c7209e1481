use Rattle.std.proofs.Common.{◌≡◌, true, is_ok, arith}
use Rattle.vm_disk.proofs.FillLemmas.{one_more, one_longer}
use Rattle.vm_disk.proofs.memory.fill_up.Goals as goal

pub loop-item-preserved : goal.loop-item-preserved
loop-item-preserved g c =
    let so_far = c.loop-item.invariant in
    let size = c.loop-item.items.ok.0 in
    let fine : is_ok c.push.result ≡ true = c.push.ensures.succeeds (omega (arith, size, so_far.capacity)) in
    let longer = one_longer _ _ _ _ c.push.ensures.items fine in
    record {
      items = one_more _ _ _ _ _ so_far.items so_far.least c.push.ensures.items fine;
      capacity = omega (arith, so_far.capacity, c.push.ensures.capacity);
      most = omega (arith, longer, size);
      least = omega (arith, longer, so_far.least);
    }
