use Rattle.std.proofs.Common.{ap, arith, length}
use Rattle.vm_alloc.proofs.CountLemmas.{tallied_fewer}
use Rattle.vm_alloc.proofs.HeldLemmas.{free_split}
use Rattle.vm_alloc.proofs.held.Held.truncate.Goals as goal

pub overflow_sub-self : goal.overflow_sub-self
overflow_sub-self c = omega (arith, c.self.invariant.count, c.count_clear.ensures, free_split c.args.blocks c.self.inside.flags)

pub invariant_of-self : goal.invariant_of-self
invariant_of-self c =
    let many = ap length c.self.view_is in
    rw c.min-self-inside.ensures (tallied_fewer c.self.inside.flags _ _ _ c.args.blocks _ c.self.invariant c.requires.enough (omega (arith, many, c.requires.fewer)) c.truncate.ensures c.count_clear.ensures)
