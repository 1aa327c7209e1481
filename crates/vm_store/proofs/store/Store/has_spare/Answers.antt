use Rattle.vm_tree.proofs.Looking.{passed_on}
use Rattle.vm_store.proofs.FirstLemmas.{marks_failed, marks_none, marks_told}
use Rattle.vm_store.proofs.SpareTests.{enough, told}
use Rattle.vm_store.proofs.MarkedLemmas.{free_at_most}
use Rattle.vm_store.proofs.store.Store.has_spare.Goals as goal

pub returns-then-has_free-clause-spare : goal.returns-then-has_free-clause-spare
returns-then-has_free-clause-spare g c honest s holds =
    enough c.has_free.result _ _ _ c.has_free.ensures c.if-has_free.true (free_at_most _ _ _ _ _ _ s c.args.self.now.parts.bits holds.rests)

pub returns-clause-spare : goal.returns-clause-spare
returns-clause-spare g c honest s holds = told c.has_free-2.result _ _ _ c.has_free-2.ensures (c.in_ok-mark_all.ensures.exact honest s holds)

pub returns-then-has_free-clause-marking : goal.returns-then-has_free-clause-marking
returns-then-has_free-clause-marking g c = marks_none _ _

pub returns-then-self-clause-marking : goal.returns-then-self-clause-marking
returns-then-self-clause-marking g c = marks_none _ _

pub returns-in_err-mark_all-clause-marking : goal.returns-in_err-mark_all-clause-marking
returns-in_err-mark_all-clause-marking g c = rw (passed_on _ c.from_residual.ensures.1) (marks_failed _ c.in_err-mark_all.ensures.marking)

pub returns-clause-marking : goal.returns-clause-marking
returns-clause-marking g c = marks_told _ _ c.in_ok-mark_all.ensures.marking
