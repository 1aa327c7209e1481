use Rattle.vm_store.proofs.OpeningLemmas.{ok_so, roots_trees}
use Rattle.vm_store.proofs.store.recovery.walk_trees.Goals as goal

pub returns-in-Whole-clause-whole : goal.returns-in-Whole-clause-whole
returns-in-Whole-clause-whole g c whole honest = ok_so c.verify.result _ _ (λ found f. roots_trees _ _ _ _ f.blocks f.are) (c.verify.ensures.found honest)

pub returns-in-Survey-clause-whole : goal.returns-in-Survey-clause-whole
returns-in-Survey-clause-whole g c whole honest = ok_so c.survey.result _ _ (λ found f. roots_trees _ _ _ _ f.blocks f.are) (c.survey.ensures.verifies.found honest)
