use Rattle.std.proofs.Common.{◌<◌, ℕ, List, length, inl, refl, sym, subst, ◌∙◌, arith}
use Rattle.std.proofs.lemmas.Bool.{false≢true}
use Rattle.vm_disk.proofs.MomentLemmas.{same_medium}
use Rattle.vm_alloc.proofs.HeldLemmas.{holds_same, taken_holds_more}
use Rattle.vm_alloc.specs.Held.{HoldsMore}
use Rattle.vm_block.specs.Node.{IsNode}
use Rattle.vm_tree.proofs.Descent.{subtree_top, node_read}
use Rattle.vm_tree.proofs.TreeLemmas.{leaf_opens}
use Rattle.vm_tree.proofs.Looking.{passed_on}
use Rattle.vm_check.specs.Marks.{MarksMore, MarksOnly}
use Rattle.vm_check.proofs.InnerLemmas.{node_inner}
use Rattle.vm_check.proofs.MarkLemmas.{IsBelow, leaf_marked, ok_fine, top_within, same_more, under_marked, same_children, node_start, node_marked, node_fault, child_more}
use Rattle.vm_check.proofs.MarkingLemmas.{marking_on, marking_read, marking_unread}
use Rattle.vm_check.proofs.OnlyLemmas.{only_set, only_top, only_all, child_sound, child_only_more, child_only_fault}
use Rattle.vm_check.proofs.marks.+mark_below.Goals as goal

pub mark_node-returns-then-not-is_data-clause-marked : goal.mark_node-returns-then-not-is_data-clause-marked
mark_node-returns-then-not-is_data-clause-marked g t c honest sizes rs bs tree closed =
    absurd (false≢true (sym c.if-not-is_data.true ∙ c.is_data.ensures.1 (subtree_top sizes _ _ _ _ rs bs tree)))

pub mark_node-returns-then-is_set-clause-marked : goal.mark_node-returns-then-is_set-clause-marked
mark_node-returns-then-is_set-clause-marked g t c honest sizes rs bs tree closed =
    same_more bs _ (under_marked sizes _ _ _ _ closed _ _ rs bs (omega arith) tree (c.is_set.ensures.0 c.if-is_set.true))

pub mark_node-returns-then-not-is_data-clause-marking : goal.mark_node-returns-then-not-is_data-clause-marking
mark_node-returns-then-not-is_data-clause-marking g t c = marking_unread (λ is. cc) (omega arith) (holds_same _)

pub mark_node-returns-then-is_set-clause-marking : goal.mark_node-returns-then-is_set-clause-marking
mark_node-returns-then-is_set-clause-marking g t c = marking_unread (λ is. cc) (omega arith) (holds_same _)

pub mark_node-returns-in_err-count-clause-marking : goal.mark_node-returns-in_err-count-clause-marking
mark_node-returns-in_err-count-clause-marking g t c =
    rw (passed_on _ c.from_residual.ensures.1) (marking_read c.in_err-count.ensures.looks (c.is_data.ensures.0 c.if-not-is_data.false) c.set.ensures c.requires.fit.bits
    (λ is. false≢true (sym c.if-is_set.false ∙ c.is_set.ensures.1 is)) (λ is. cc) (λ done. absurd (false≢true done)))

pub mark_node-loop-i-init : goal.mark_node-loop-i-init
mark_node-loop-i-init g t c =
    let grows = subst (HoldsMore c.args.marks.now) (sym c.set.ensures) (taken_holds_more c.args.marks.now c.args.block) in
    record {
      marking = marking_read c.in_ok-count.ensures.looks (c.is_data.ensures.0 c.if-not-is_data.false) c.set.ensures c.requires.fit.bits (λ is. false≢true (sym c.if-is_set.false ∙ c.is_set.ensures.1 is)) (λ is. cc)
          (λ done honest.
          let form = c.in_ok-count.ensures.count in node_inner _ c.args.level form.children (subst (λ (bytes : List ℕ). IsNode bytes c.args.level form.children) (c.in_ok-count.ensures.found honest).bytes_are form.node));
      since = λ honest. honest;
      many = grows.same_length ∙ c.requires.fit.bits;
      marked = λ honest sizes cs node count bs none closed. subst (λ (ds : List _). MarksMore ds c.set.new.self c.set.new.self) (sym none) (same_more _ c.set.new.self tt);
      only = λ honest sizes cs node count bs none n is. inl is;
    }

pub mark_node-returns-in_err-mark_below-clause-marking : goal.mark_node-returns-in_err-mark_below-clause-marking
mark_node-returns-in_err-mark_below-clause-marking g t c =
    rw (passed_on _ c.from_residual-in_err-mark_below.ensures.1) (marking_on c.loop-i.invariant.marking refl c.in_err-mark_below.ensures.marking (λ is. is) (λ is. is))

pub mark_node-returns-in_err-mark_below-clause-marked : goal.mark_node-returns-in_err-mark_below-clause-marked
mark_node-returns-in_err-mark_below-clause-marked g t c honest sizes rs bs tree closed =
    let so_far = c.loop-i.invariant in
    let inside = subtree_top sizes _ _ _ _ rs bs tree in
    let form = c.in_ok-count.ensures.count in
    let start = node_start sizes _ _ _ _ rs bs form.children (omega (arith, c.requires.inner)) tree (λ ds at. same_children _ _ _ form.children ds (c.in_ok-count.ensures.found (so_far.since (c.in_err-mark_below.ensures.marking.looks.goes.earlier honest))).bytes_are form.node at.node) in
    let lt : c.loop-i.i < length form.children = omega (arith, c.loop-i-test.true, form.many) in
    let is = c.child_at-child.ensures.child _ form.children form.node lt in
    rw (passed_on _ c.from_residual-in_err-mark_below.ensures.1) (node_fault sizes _ _ _ _ _ _ bs form.children c.child_at-child.result _ _ _ _ (same_medium _ _ (so_far.marking.looks.reads (c.in_err-mark_below.ensures.marking.looks.goes.earlier honest))) (omega (arith, inside.1, c.requires.fit.bits)) c.set.ensures (omega (arith, c.requires.inner))
    lt is start closed (so_far.marked (c.in_err-mark_below.ensures.marking.looks.goes.earlier honest) sizes form.children form.node (sym form.many)) (λ qs ds. c.in_err-mark_below.ensures.marked honest sizes qs ds))

pub mark_node-loop-i-preserved : goal.mark_node-loop-i-preserved
mark_node-loop-i-preserved g t c =
    let so_far = c.loop-i.invariant in
    record {
      marking = marking_on so_far.marking refl c.in_ok-mark_below.ensures.marking (λ is. cc) (λ is. refl);
      since = λ honest. so_far.since (c.mark_below.ensures.marking.looks.goes.earlier honest);
      many = c.mark_below.ensures.marking.growing.same_length ∙ so_far.many;
      marked = λ honest sizes cs node count.
          let lt : c.loop-i.i < length cs = omega (arith, c.loop-i-test.true, count) in
          child_more sizes _ _ _ _ cs _ c.child_at-child.result _ _ _ (same_medium _ _ (so_far.marking.looks.reads (c.mark_below.ensures.marking.looks.goes.earlier honest))) lt (c.child_at-child.ensures.child _ cs node lt)
          (so_far.marked (c.mark_below.ensures.marking.looks.goes.earlier honest) sizes cs node count)
          (λ rs ds. c.in_ok-mark_below.ensures.marked honest sizes rs ds);
      only = λ honest sizes cs node count.
          let lt : c.loop-i.i < length cs = omega (arith, c.loop-i-test.true, count) in
          child_only_more sizes _ _ _ _ cs _ c.child_at-child.result (same_medium _ _ (so_far.marking.looks.reads (c.mark_below.ensures.marking.looks.goes.earlier honest))) lt (c.child_at-child.ensures.child _ cs node lt) _ _ _
          (so_far.only (c.mark_below.ensures.marking.looks.goes.earlier honest) sizes cs node count)
          (λ rs ds. c.mark_below.ensures.only honest sizes rs ds);
    }

pub mark_node-returns-clause-marked : goal.mark_node-returns-clause-marked
mark_node-returns-clause-marked g t c honest sizes rs bs tree closed =
    let inside = subtree_top sizes _ _ _ _ rs bs tree in
    let form = c.in_ok-count.ensures.count in
    let start = node_start sizes _ _ _ _ rs bs form.children (omega (arith, c.requires.inner)) tree (λ ds at. same_children _ _ _ form.children ds (c.in_ok-count.ensures.found (c.loop-i.invariant.since honest)).bytes_are form.node at.node) in
    node_marked sizes _ _ _ _ _ bs _ _ _ _ (omega (arith, inside.1, c.requires.fit.bits)) c.set.ensures (omega (arith, c.requires.inner)) (omega (arith, c.loop-i-test.false, form.many)) start closed
    (c.loop-i.invariant.marked honest sizes form.children form.node (sym form.many))

pub mark_node-returns-in_err-count-clause-marked : goal.mark_node-returns-in_err-count-clause-marked
mark_node-returns-in_err-count-clause-marked g t c honest sizes rs bs tree closed =
    let at = node_read sizes _ _ _ _ rs bs (omega (arith, c.requires.inner)) tree in
    rw (passed_on _ c.from_residual.ensures.1) (c.in_err-count.ensures.only honest at.0 at.1)

pub mark_node-returns-then-not-is_data-clause-sound : goal.mark_node-returns-then-not-is_data-clause-sound
mark_node-returns-then-not-is_data-clause-sound g t c honest sizes rs bs tree =
    absurd (false≢true (sym c.if-not-is_data.true ∙ c.is_data.ensures.1 (subtree_top sizes _ _ _ _ rs bs tree)))

pub mark_node-returns-in_err-count-clause-sound : goal.mark_node-returns-in_err-count-clause-sound
mark_node-returns-in_err-count-clause-sound g t c honest sizes rs bs tree =
    let at = node_read sizes _ _ _ _ rs bs (omega (arith, c.requires.inner)) tree in
    rw (passed_on _ c.from_residual.ensures.1) (c.in_err-count.ensures.only honest at.0 at.1)

pub mark_node-returns-in_err-mark_below-clause-sound : goal.mark_node-returns-in_err-mark_below-clause-sound
mark_node-returns-in_err-mark_below-clause-sound g t c honest sizes rs bs tree =
    let so_far = c.loop-i.invariant in
    let form = c.in_ok-count.ensures.count in
    let start = node_start sizes _ _ _ _ rs bs form.children (omega (arith, c.requires.inner)) tree (λ ds at. same_children _ _ _ form.children ds (c.in_ok-count.ensures.found (so_far.since (c.in_err-mark_below.ensures.marking.looks.goes.earlier honest))).bytes_are form.node at.node) in
    let lt : c.loop-i.i < length form.children = omega (arith, c.loop-i-test.true, form.many) in
    let is = c.child_at-child.ensures.child _ form.children form.node lt in
    rw (passed_on _ c.from_residual-in_err-mark_below.ensures.1) (child_sound sizes _ _ _ _ form.children _ c.child_at-child.result (same_medium _ _ (so_far.marking.looks.reads (c.in_err-mark_below.ensures.marking.looks.goes.earlier honest))) lt is _ _ start.joined (λ qs ds. c.in_err-mark_below.ensures.sound honest sizes qs ds))

pub mark_node-returns-in_err-count-clause-only : goal.mark_node-returns-in_err-count-clause-only
mark_node-returns-in_err-count-clause-only g t c honest sizes rs bs tree = only_set _ bs _ _ c.set.ensures (top_within sizes _ _ _ _ rs bs tree)

pub mark_node-returns-in_err-mark_below-clause-only : goal.mark_node-returns-in_err-mark_below-clause-only
mark_node-returns-in_err-mark_below-clause-only g t c honest sizes rs bs tree =
    let so_far = c.loop-i.invariant in
    let form = c.in_ok-count.ensures.count in
    let start = node_start sizes _ _ _ _ rs bs form.children (omega (arith, c.requires.inner)) tree (λ ds at. same_children _ _ _ form.children ds (c.in_ok-count.ensures.found (so_far.since (c.in_err-mark_below.ensures.marking.looks.goes.earlier honest))).bytes_are form.node at.node) in
    let lt : c.loop-i.i < length form.children = omega (arith, c.loop-i-test.true, form.many) in
    let is = c.child_at-child.ensures.child _ form.children form.node lt in
    only_top _ start.under bs _ _ _ c.set.ensures start.first
    (child_only_fault sizes _ _ _ _ form.children _ c.child_at-child.result (same_medium _ _ (so_far.marking.looks.reads (c.in_err-mark_below.ensures.marking.looks.goes.earlier honest))) lt is _ _ _ (so_far.only (c.in_err-mark_below.ensures.marking.looks.goes.earlier honest) sizes form.children form.node (sym form.many))
    (λ qs ds. c.in_err-mark_below.ensures.only honest sizes qs ds) start.under start.joined)

pub mark_node-returns-clause-only : goal.mark_node-returns-clause-only
mark_node-returns-clause-only g t c honest sizes rs bs tree =
    let form = c.in_ok-count.ensures.count in
    let start = node_start sizes _ _ _ _ rs bs form.children (omega (arith, c.requires.inner)) tree (λ ds at. same_children _ _ _ form.children ds (c.in_ok-count.ensures.found (c.loop-i.invariant.since honest)).bytes_are form.node at.node) in
    only_top _ start.under bs _ _ _ c.set.ensures start.first (only_all (IsBelow sizes _ _ _) form.children _ start.under _ _ (omega (arith, c.loop-i-test.false, form.many)) (c.loop-i.invariant.only honest sizes form.children form.node (sym form.many)) start.joined)

pub mark_below-returns-then-level-eq0-clause-marking : goal.mark_below-returns-then-level-eq0-clause-marking
mark_below-returns-then-level-eq0-clause-marking g t c = marking_unread c.mark_leaf.ensures.device c.mark_leaf.ensures.fewer c.mark_leaf.ensures.growing

pub mark_below-returns-then-level-eq0-clause-marked : goal.mark_below-returns-then-level-eq0-clause-marked
mark_below-returns-then-level-eq0-clause-marked g t c honest sizes rs bs tree closed =
    let at = leaf_opens sizes _ _ _ _ rs bs c.if-level-eq0.true tree in
    leaf_marked c.mark_leaf.result c.args.block bs c.args.marks.now c.mark_leaf.new.marks at.first (c.mark_leaf.ensures.sound at.place) c.mark_leaf.ensures.growing c.mark_leaf.ensures.marked c.mark_leaf.ensures.only

pub mark_below-returns-then-level-eq0-clause-sound : goal.mark_below-returns-then-level-eq0-clause-sound
mark_below-returns-then-level-eq0-clause-sound g t c honest sizes rs bs tree =
    let at = leaf_opens sizes _ _ _ _ rs bs c.if-level-eq0.true tree in
    ok_fine c.mark_leaf.result (c.mark_leaf.ensures.sound at.place)

pub mark_below-returns-then-level-eq0-clause-only : goal.mark_below-returns-then-level-eq0-clause-only
mark_below-returns-then-level-eq0-clause-only g t c honest sizes rs bs tree =
    let at = leaf_opens sizes _ _ _ _ rs bs c.if-level-eq0.true tree in
    subst (λ (ds : List ℕ). MarksOnly ds c.args.marks.now c.mark_leaf.new.marks) (sym at.first) c.mark_leaf.ensures.only
