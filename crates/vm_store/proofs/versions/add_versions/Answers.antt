use Rattle.std.proofs.Common.{arith}
use Rattle.vm_store.proofs.AddedLemmas.{versions_more}
use Rattle.vm_store.proofs.versions.add_versions.Goals as goal

pub loop-i-preserved : goal.loop-i-preserved
loop-i-preserved c =
    let so_far = c.loop-i.invariant in
    let done = c.in-Ok.ensures in
    record {
      items = versions_more _ _ _ c.index-entries-i.result _ _ _ _ c.loop-i-test.true c.requires.roots c.index-entries-i.is so_far.items done.items;
      count = omega (arith, done.len, so_far.count);
      room = omega (arith, done.capacity, so_far.room);
    }
