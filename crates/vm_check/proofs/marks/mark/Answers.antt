use Rattle.std.proofs.Common.{List, inl, refl, sym, subst, ◌∙◌, arith}
use Rattle.vm_disk.proofs.MomentLemmas.{same_medium}
use Rattle.vm_alloc.proofs.HeldLemmas.{holds_same}
use Rattle.vm_tree.proofs.Looking.{passed_on}
use Rattle.vm_check.specs.Marks.{IsUnder, MarksMore}
use Rattle.vm_check.proofs.MarkingLemmas.{marking_on, marking_unread}
use Rattle.vm_check.proofs.MarkLemmas.{same_more}
use Rattle.vm_check.proofs.RootLemmas.{in_blocks, root_more, root_fault, roots_marked, roots_closed}
use Rattle.vm_check.proofs.OnlyLemmas.{only_all, root_sound, root_only_more, root_only_fault}
use Rattle.vm_check.proofs.marks.mark.Goals as goal

pub loop-root-init : goal.loop-root-init
loop-root-init g c = record {
  marking = marking_unread (λ is. cc) (omega arith) (holds_same _);
  many = sym c.blocks-blocks.ensures.count;
  marked = λ honest sizes bs none closed. subst (λ (ds : List _). MarksMore ds c.args.marks.now c.args.marks.now) (sym none) (same_more _ c.args.marks.now tt);
  only = λ honest sizes bs none n is. inl is;
}

pub returns-in_err-mark_root-clause-marked : goal.returns-in_err-mark_root-clause-marked
returns-in_err-mark_root-clause-marked g c honest sizes bs under closed =
    let so_far = c.loop-root.invariant in
    rw (passed_on _ c.from_residual.ensures.1) (root_fault sizes _ _ _ _ _ _ _ _ _ (same_medium _ _ (so_far.marking.looks.reads (c.in_err-mark_root.ensures.marking.looks.goes.earlier honest))) c.loop-root-test.true (so_far.marked (c.in_err-mark_root.ensures.marking.looks.goes.earlier honest) sizes)
    (λ ds. c.in_err-mark_root.ensures.marked honest sizes ds) bs (in_blocks _ _ _ _ _ _ c.blocks-blocks.ensures.count under) closed)

pub loop-root-preserved : goal.loop-root-preserved
loop-root-preserved g c =
    let so_far = c.loop-root.invariant in
    record {
      marking = marking_on so_far.marking refl c.in_ok-mark_root.ensures.marking (λ is. cc) (λ is. refl);
      many = c.mark_root.ensures.marking.growing.same_length ∙ so_far.many;
      marked = λ honest sizes. root_more sizes _ _ _ _ _ _ _ _ _ (same_medium _ _ (so_far.marking.looks.reads (c.mark_root.ensures.marking.looks.goes.earlier honest))) c.loop-root-test.true (so_far.marked (c.mark_root.ensures.marking.looks.goes.earlier honest) sizes)
          (λ ds. c.in_ok-mark_root.ensures.marked honest sizes ds);
      only = λ honest sizes. root_only_more sizes _ _ _ _ _ _ (same_medium _ _ (so_far.marking.looks.reads (c.mark_root.ensures.marking.looks.goes.earlier honest))) c.loop-root-test.true _ _ _ (so_far.only (c.mark_root.ensures.marking.looks.goes.earlier honest) sizes)
          (λ ds. c.mark_root.ensures.only honest sizes ds);
    }

pub returns-clause-marked : goal.returns-clause-marked
returns-clause-marked g c honest sizes bs under closed =
    roots_marked sizes _ _ _ _ bs _ _ c.loop-root-test.false (c.loop-root.invariant.marked honest sizes) (in_blocks _ _ _ _ _ _ c.blocks-blocks.ensures.count under) closed

pub returns-clause-closed : goal.returns-clause-closed
returns-clause-closed g c honest sizes bs under closed =
    roots_closed sizes _ _ _ bs _ _ under closed
    (roots_marked sizes _ _ _ _ bs _ _ c.loop-root-test.false (c.loop-root.invariant.marked honest sizes) (in_blocks _ _ _ _ _ _ c.blocks-blocks.ensures.count under) closed)

pub returns-in_err-mark_root-clause-sound : goal.returns-in_err-mark_root-clause-sound
returns-in_err-mark_root-clause-sound g c honest sizes bs under =
    let so_far = c.loop-root.invariant in
    rw (passed_on _ c.from_residual.ensures.1) (root_sound sizes _ _ _ _ _ _ (same_medium _ _ (so_far.marking.looks.reads (c.in_err-mark_root.ensures.marking.looks.goes.earlier honest))) c.loop-root-test.true _ _ (in_blocks _ _ _ _ _ _ c.blocks-blocks.ensures.count under)
    (λ ds. c.in_err-mark_root.ensures.sound honest sizes ds))

pub returns-in_err-mark_root-clause-only : goal.returns-in_err-mark_root-clause-only
returns-in_err-mark_root-clause-only g c honest sizes bs under =
    let so_far = c.loop-root.invariant in
    root_only_fault sizes _ _ _ _ _ _ (same_medium _ _ (so_far.marking.looks.reads (c.in_err-mark_root.ensures.marking.looks.goes.earlier honest))) c.loop-root-test.true _ _ _ (so_far.only (c.in_err-mark_root.ensures.marking.looks.goes.earlier honest) sizes) (λ ds. c.in_err-mark_root.ensures.only honest sizes ds) bs
    (in_blocks _ _ _ _ _ _ c.blocks-blocks.ensures.count under)

pub returns-clause-only : goal.returns-clause-only
returns-clause-only g c honest sizes bs under =
    only_all (IsUnder sizes _ _) _ _ bs _ _ c.loop-root-test.false (c.loop-root.invariant.only honest sizes) (in_blocks _ _ _ _ _ _ c.blocks-blocks.ensures.count under)

pub returns-in_err-mark_root-clause-marking : goal.returns-in_err-mark_root-clause-marking
returns-in_err-mark_root-clause-marking g c =
    rw (passed_on _ c.from_residual.ensures.1) (marking_on c.loop-root.invariant.marking refl c.in_err-mark_root.ensures.marking (λ is. is) (λ is. is))
