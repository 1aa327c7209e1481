use Rattle.std.proofs.Common.{arith, rules}
use Rattle.vm_alloc.proofs.HeldLemmas.{free_inside, free_less}
use Rattle.vm_tree.proofs.Touching.{dirtied, free_written, lowest_taken, spared_kept}
use Rattle.vm_tree.proofs.block_writes.write_free.Goals as goal

pub returns-in-Ok-clause-writes : goal.returns-in-Ok-clause-writes
returns-in-Ok-clause-writes g c = record {
  goes = search rules;
  still = search rules;
  lowest = lowest_taken c.args.held.now _ c.in-Some.block (free_inside c.args.held.now c.in-Some.block c.in-Some.ensures.free) c.in-Some.ensures.lowest c.in-Some.ensures.taken c.in-Some.ensures.still;
  taken = rw c.in-Some.ensures.taken (omega (arith, free_less c.args.held.now c.in-Some.block c.in-Some.ensures.free));
  moments = λ honest spared wider may. spared_kept spared _ _ _ wider (free_written _ _ _ _ _ _ c.in-Some.ensures.free (c.write.ensures.honest honest));
  unsynced = λ honest. let writes = c.write.ensures.honest honest in dirtied _ _ _ writes.time writes.dirty writes.count writes.others_dirty writes.sure;
  reads = search rules;
}

pub returns-in-Err-clause-writes : goal.returns-in-Err-clause-writes
returns-in-Err-clause-writes g c = record {
  goes = search rules;
  still = search rules;
  lowest = lowest_taken c.args.held.now _ c.in-Some.block (free_inside c.args.held.now c.in-Some.block c.in-Some.ensures.free) c.in-Some.ensures.lowest c.in-Some.ensures.taken c.in-Some.ensures.still;
  taken = rw c.in-Some.ensures.taken (omega (arith, free_less c.args.held.now c.in-Some.block c.in-Some.ensures.free));
  moments = λ honest spared wider may. spared_kept spared _ _ _ wider (free_written _ _ _ _ _ _ c.in-Some.ensures.free (c.write.ensures.honest honest));
  unsynced = λ honest. let writes = c.write.ensures.honest honest in dirtied _ _ _ writes.time writes.dirty writes.count writes.others_dirty writes.sure;
  reads = search rules;
}
