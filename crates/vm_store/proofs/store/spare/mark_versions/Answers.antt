use Rattle.std.proofs.Common.{◌∙◌, arith}
use Rattle.vm_disk.proofs.MomentLemmas.{same_medium}
use Rattle.vm_tree.proofs.Looking.{looks_on, passed_on}
use Rattle.vm_store.specs.Sizes.{sizes}
use Rattle.vm_store.proofs.ReachLemmas.{reached_more, reached_fault, marks_both, fault_both, all_marked, all_closed}
use Rattle.vm_store.proofs.store.spare.mark_versions.Goals as goal

pub returns-in_err-mark-clause-looks : goal.returns-in_err-mark-clause-looks
returns-in_err-mark-clause-looks g c =
    rw (passed_on _ c.from_residual.ensures.1) (looks_on c.loop-version.invariant.looks c.in_err-mark.ensures.marking.looks (λ is. is))

pub returns-in_err-mark-clause-marked : goal.returns-in_err-mark-clause-marked
returns-in_err-mark-clause-marked g c honest bs joined closed =
    let so_far = c.loop-version.invariant in
    rw (passed_on _ c.from_residual.ensures.1)
    (reached_fault _ _ _ _ c.version-item.result c.loop-version-test.true c.version-item.is _ _ _ (so_far.marked (c.in_err-mark.ensures.marking.looks.goes.earlier honest))
    (fault_both _ _ _ _ c.version-item.result _ _ (same_medium _ _ (so_far.looks.reads (c.in_err-mark.ensures.marking.looks.goes.earlier honest))) so_far.many (λ ds. c.in_err-mark.ensures.marked honest sizes ds)) bs joined closed)

pub loop-version-preserved : goal.loop-version-preserved
loop-version-preserved g c =
    let so_far = c.loop-version.invariant in
    record {
      looks = looks_on so_far.looks c.in_ok-mark.ensures.marking.looks (λ is. cc);
      many = c.mark.ensures.marking.growing.same_length ∙ so_far.many;
      marked = λ honest. reached_more _ _ _ _ c.version-item.result c.loop-version-test.true c.version-item.is _ _ _ (so_far.marked (c.in_ok-mark.ensures.marking.looks.goes.earlier honest))
          (marks_both _ _ _ _ c.version-item.result _ _ (same_medium _ _ (so_far.looks.reads (c.in_ok-mark.ensures.marking.looks.goes.earlier honest))) so_far.many
          (λ ds. c.in_ok-mark.ensures.marked honest sizes ds) (λ ds. c.in_ok-mark.ensures.closed honest sizes ds));
    }

pub returns-clause-marked : goal.returns-clause-marked
returns-clause-marked g c honest bs joined closed = all_marked _ _ _ _ bs _ _ c.loop-version-test.false (c.loop-version.invariant.marked honest) joined closed

pub returns-clause-closed : goal.returns-clause-closed
returns-clause-closed g c honest bs joined closed = all_closed _ _ _ _ bs _ _ c.loop-version-test.false (c.loop-version.invariant.marked honest) joined closed
