use Rattle.std.proofs.Common.{arith, sym}
use Rattle.vm_alloc.proofs.FlagLemmas.{many_flags}
use Rattle.vm_alloc.proofs.flags.Flags.len.Goals as goal

pub returns-clause-count : goal.returns-clause-count
returns-clause-count c = sym (many_flags _ _ _ c.self.view_is)

pub returns-clause-few : goal.returns-clause-few
returns-clause-few c = omega (arith, many_flags _ _ _ c.self.view_is)
