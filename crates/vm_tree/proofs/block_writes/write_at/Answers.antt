use Rattle.std.proofs.Common.{arith, rules}
use Rattle.vm_alloc.proofs.HeldLemmas.{holds_same}
use Rattle.vm_tree.proofs.Touching.{dirtied, lowest_none, own_written}
use Rattle.vm_tree.proofs.block_writes.write_at.Goals as goal

pub returns-in-Ok-clause-writes : goal.returns-in-Ok-clause-writes
returns-in-Ok-clause-writes g c = record {
  goes = search rules;
  still = holds_same _;
  lowest = lowest_none _;
  taken = omega arith;
  moments = λ honest spared wider may. own_written spared c.in-Some.place _ _ _ _ (rw c.in-Some.is at may) (c.write.ensures.honest honest);
  unsynced = λ honest. let writes = c.write.ensures.honest honest in dirtied _ _ _ writes.time writes.dirty writes.count writes.others_dirty writes.sure;
  reads = search rules;
}

pub returns-in-Err-clause-writes : goal.returns-in-Err-clause-writes
returns-in-Err-clause-writes g c = record {
  goes = search rules;
  still = holds_same _;
  lowest = lowest_none _;
  taken = omega arith;
  moments = λ honest spared wider may. own_written spared c.in-Some.place _ _ _ _ (rw c.in-Some.is at may) (c.write.ensures.honest honest);
  unsynced = λ honest. let writes = c.write.ensures.honest honest in dirtied _ _ _ writes.time writes.dirty writes.count writes.others_dirty writes.sure;
  reads = search rules;
}
