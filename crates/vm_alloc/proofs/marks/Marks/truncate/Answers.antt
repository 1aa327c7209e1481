use Rattle.std.proofs.Common.{ap, arith, length}
use Rattle.vm_alloc.proofs.CountLemmas.{counted_fewer}
use Rattle.vm_alloc.proofs.HeldLemmas.{free_split_from}
use Rattle.vm_alloc.proofs.marks.Marks.truncate.Goals as goal

pub overflow_sub-self : goal.overflow_sub-self
overflow_sub-self c = omega (arith, c.self.invariant.count, c.count_clear.ensures, free_split_from 34 c.args.blocks c.self.inside.flags (omega arith))

pub invariant_of-self : goal.invariant_of-self
invariant_of-self c =
    let many = ap length c.self.view_is in
    counted_fewer c.self.inside.flags _ _ c.args.blocks _ c.self.invariant c.requires.enough (omega (arith, many, c.requires.fewer)) c.truncate.ensures c.count_clear.ensures
