use Rattle.std.proofs.Common.{inl, arith, rules}
use Rattle.vm_tree.proofs.Touching.{dirtied}
use Rattle.vm_check.proofs.RenumberLemmas.{assigned_on, goes_same, only_assigned}
use Rattle.vm_check.proofs.CopySteps.{never_synced, next_written, untouched}
use Rattle.vm_check.proofs.tree_copy.put_copy.Goals as goal

pub returns-then-number_of-ne0-clause-puts : goal.returns-then-number_of-ne0-clause-puts
returns-then-number_of-ne0-clause-puts g c = record {
  goes = search rules;
  touches = untouched _ _ c.args.numbers.now;
  unsynced = never_synced _;
  numbers = goes_same c.args.numbers.now;
  full = λ is. cc;
  lacks = λ is. cc;
  only = λ k is. inl is;
  assigned = λ is. cc;
  twice = λ b is. omega (arith, c.number_of.ensures, c.if-number_of-ne0.true);
}

pub returns-then-number-limit-clause-puts : goal.returns-then-number-limit-clause-puts
returns-then-number-limit-clause-puts g c = record {
  goes = search rules;
  touches = untouched _ _ c.args.numbers.now;
  unsynced = never_synced _;
  numbers = goes_same c.args.numbers.now;
  full = λ is. omega (arith, c.next-number.ensures);
  lacks = λ is. omega (arith, c.number_of.ensures, c.if-number_of-ne0.false);
  only = λ k is. inl is;
  assigned = λ is. cc;
  twice = λ b is. cc;
}

pub returns-clause-puts : goal.returns-clause-puts
returns-clause-puts g c = record {
  goes = search rules;
  touches = λ honest. next_written _ _ _ _ _ c.args.limit _ _ c.next-number.ensures (omega (arith, c.assign.ensures.next)) (omega (arith, c.if-number-limit.false)) (c.write.ensures.honest honest);
  unsynced = λ honest. let writes = c.write.ensures.honest honest in dirtied _ _ _ writes.time writes.dirty writes.count writes.others_dirty writes.sure;
  numbers = assigned_on _ _ _ c.assign.ensures c.requires.known (omega (arith, c.requires.least)) (omega (arith, c.number_of.ensures, c.if-number_of-ne0.false));
  full = λ is. cc;
  lacks = λ is. cc;
  only = only_assigned _ _ _ c.assign.ensures;
  assigned = λ is. c.assign.ensures;
  twice = λ b is. cc;
}

pub returns-in_default-clause-puts : goal.returns-in_default-clause-puts
returns-in_default-clause-puts g c = record {
  goes = search rules;
  touches = λ honest. next_written _ _ _ _ _ c.args.limit _ _ c.next-number.ensures (omega arith) (omega (arith, c.if-number-limit.false)) (c.write.ensures.honest honest);
  unsynced = λ honest. let writes = c.write.ensures.honest honest in dirtied _ _ _ writes.time writes.dirty writes.count writes.others_dirty writes.sure;
  numbers = goes_same c.args.numbers.now;
  full = λ is. cc;
  lacks = λ is. cc;
  only = λ k is. inl is;
  assigned = λ is. cc;
  twice = λ b is. cc;
}
