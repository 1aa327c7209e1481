use Rattle.std.proofs.Common.{◌≡◌, ◌-◌, ◌<◌, ◌≤◌, ◌++◌, ℕ, List, length, drop, get_or, inr, refl, sym, ap, subst, ◌∙◌, arith}
use Rattle.std.proofs.lemmas.Bool.{false≢true}
use Rattle.vm_disk.specs.Disk.{block}
use Rattle.vm_alloc.specs.Marks.{IsMarked}
use Rattle.vm_disk.proofs.MomentLemmas.{same_medium}
use Rattle.vm_block.specs.Node.{IsNode}
use Rattle.vm_block.specs.declared.node.Child.{Child}
use Rattle.vm_block.proofs.NodeLemmas.{node_one}
use Rattle.vm_tree.specs.Tree.{Subtree}
use Rattle.vm_tree.proofs.Descent.{node_read, node_under, subtree_top}
use Rattle.vm_tree.proofs.Looking.{looks_once, passed_on}
use Rattle.vm_check.specs.TreeCopy.{ChildCopied, IsUpTo, NodeCopied}
use Rattle.vm_check.specs.Renumbering.{count_of, number_at}
use Rattle.vm_check.proofs.CopyLemmas.{child_here, child_on, child_under, children_here, copied_back, copied_in, copies_block, fresh_still, node_here, node_over, only_after, only_put, ups_then, ups_up}
use Rattle.vm_check.proofs.CopySoFar.{so_far_length, so_far_more, so_far_next}
use Rattle.vm_check.proofs.CopySteps.{same_fault, step_fails, step_none, step_on, step_put, step_read}
use Rattle.vm_check.proofs.ReachedLemmas.{child_each, marked_put, marked_so, marked_then, node_each, none_copied}
use Rattle.vm_check.proofs.tree_copy.+copy_below.Goals as goal

pub copy_children-returns-in_err-block-clause-step : goal.copy_children-returns-in_err-block-clause-step
copy_children-returns-in_err-block-clause-step g t c =
    rw (passed_on _ c.from_residual.ensures.1) (step_on c.loop-i.invariant.step refl c.in_err-block.ensures.step (λ is. cc) (λ is. cc) (λ is. cc) (λ is. cc))

pub copy_children-returns-in_err-block-clause-sound : goal.copy_children-returns-in_err-block-clause-sound
copy_children-returns-in_err-block-clause-sound g t c source sizes above cs rs bs node many below b is =
    let so_far = c.loop-i.invariant in
    let lt : c.loop-i.i < length cs = omega (arith, c.loop-i-test.true, many) in
    let d = c.child_at-child.result in
    let at = so_far.nodes above cs node many in
    let child = c.child_at-child.ensures.child above _ at.holds (omega (arith, lt, so_far_length at (omega (arith, lt)))) in
    let under = child_under (Subtree sizes _ c.args.blocks c.args.level) cs rs bs c.loop-i.i d lt below in
    let same = same_medium _ _ (so_far.step.looks.reads (c.in_err-block.ensures.step.looks.goes.earlier source)) in
    c.in_err-block.ensures.sound source sizes under.0 under.1 (child_here same sizes c.args.blocks c.args.level (get_or cs c.loop-i.i d) d under.0 under.1 (sym child ∙ so_far_next at d lt) under.2) b (same_fault _ _ _ c.from_residual.ensures.1 is)

pub copy_children-returns-in_err-block-clause-reached : goal.copy_children-returns-in_err-block-clause-reached
copy_children-returns-in_err-block-clause-reached g t c source sizes above cs rs bs node many below marks each =
    let so_far = c.loop-i.invariant in
    let lt : c.loop-i.i < length cs = omega (arith, c.loop-i-test.true, many) in
    let d = c.child_at-child.result in
    let at = so_far.nodes above cs node many in
    let child = c.child_at-child.ensures.child above _ at.holds (omega (arith, lt, so_far_length at (omega (arith, lt)))) in
    let under = child_each (IsMarked marks) (Subtree sizes _ c.args.blocks c.args.level) cs rs bs c.loop-i.i d lt below each in
    let before = c.in_err-block.ensures.step.looks.goes.earlier source in
    let same = same_medium _ _ (so_far.step.looks.reads before) in
    marked_then marks _ _ _ (so_far.reached before sizes above cs rs bs node many below marks each)
    (c.in_err-block.ensures.reached source sizes under.0 under.1 (child_here same sizes c.args.blocks c.args.level (get_or cs c.loop-i.i d) d under.0 under.1 (sym child ∙ so_far_next at d lt) under.2) marks under.3)
    (λ is. same_fault _ _ _ c.from_residual.ensures.1 is)

pub copy_children-loop-i-preserved : goal.copy_children-loop-i-preserved
copy_children-loop-i-preserved g t c =
    let so_far = c.loop-i.invariant in
    let more = c.in_ok-block.ensures in
    let d = c.child_at-child.result in
    let to : ℕ → Child = λ n. record { low = d.low; block = n } in
    record {
      step = step_on so_far.step refl more.step (λ is. cc) (λ is. cc) (λ is. cc) (λ is. refl);
      only = λ source. ups_then (same_medium _ _ (so_far.step.looks.reads (more.step.looks.goes.earlier source))) c.args.level c.args.numbers.now c.loop-i.numbers c.copy_below.new.numbers (so_far.only (more.step.looks.goes.earlier source)) (more.only source);
      reached = λ source sizes above cs rs bs node many below marks each.
          let lt : c.loop-i.i < length cs = omega (arith, c.loop-i-test.true, many) in
          let at = so_far.nodes above cs node many in
          let child = c.child_at-child.ensures.child above _ at.holds (omega (arith, lt, so_far_length at (omega (arith, lt)))) in
          let under = child_each (IsMarked marks) (Subtree sizes _ c.args.blocks c.args.level) cs rs bs c.loop-i.i d lt below each in
          let before = more.step.looks.goes.earlier source in
          let same = same_medium _ _ (so_far.step.looks.reads before) in
          marked_then marks _ _ _ (so_far.reached before sizes above cs rs bs node many below marks each)
          (more.reached source sizes under.0 under.1 (child_here same sizes c.args.blocks c.args.level (get_or cs c.loop-i.i d) d under.0 under.1 (sym child ∙ so_far_next at d lt) under.2) marks under.3)
          (λ is. cc);
      nodes = λ above cs node many.
          let lt : c.loop-i.i < length cs = omega (arith, c.loop-i-test.true, many) in
          let at = so_far.nodes above cs node many in
          let within : c.loop-i.i < length (at.done ++ drop c.loop-i.i cs) = omega (arith, lt, so_far_length at (omega (arith, lt))) in
          let child = c.child_at-child.ensures.child above _ at.holds within in
          so_far_more at (λ _ _. Unit {0}) (IsNode c.set_child.new.bytes above) d (to c.in_ok-block.block) (λ a b is. tt) lt tt
          (node_over _ _ above _ c.loop-i.i (to c.in_ok-block.block) d at.holds within (sym (ap (λ (e : Child). e.low) child)) (omega arith) (c.set_child.ensures.child above _ at.holds within));
      copied = λ above cs node many source target before.
          let lt : c.loop-i.i < length cs = omega (arith, c.loop-i-test.true, many) in
          let same = same_medium _ _ (so_far.step.looks.reads (more.step.looks.goes.earlier source)) in
          let at = so_far.copied above cs node many (more.step.looks.goes.earlier source) (more.step.goes.earlier target) before in
          let within : c.loop-i.i < length (at.1.done ++ drop c.loop-i.i cs) = omega (arith, lt, so_far_length at.1 (omega (arith, lt))) in
          let child = c.child_at-child.ensures.child above _ at.1.holds within in
          let next = more.copied source target (copied_in same _ c.args.limit c.loop-i.numbers at.0) in
          let here : ChildCopied c.copy_below.new.numbers d (to c.in_ok-block.block) = (omega (arith, next.1.0, next.1.1), ap to next.1.1) in (
            copied_back same _ c.args.limit c.copy_below.new.numbers next.0,
            so_far_more at.1 (ChildCopied c.copy_below.new.numbers) (IsNode c.set_child.new.bytes above) d (to c.in_ok-block.block) (child_on more.step.numbers) lt
                (subst (λ (e : Child). ChildCopied c.copy_below.new.numbers e (to c.in_ok-block.block)) (sym child ∙ so_far_next at.1 d lt) here)
                (node_over _ _ above _ c.loop-i.i (to c.in_ok-block.block) d at.1.holds within (sym (ap (λ (e : Child). e.low) child)) (omega arith) (c.set_child.ensures.child above _ at.1.holds within)),
          );
    }

pub copy_node-returns-then-not-is_data-clause-sound : goal.copy_node-returns-then-not-is_data-clause-sound
copy_node-returns-then-not-is_data-clause-sound g t c source sizes rs bs tree b is =
    false≢true (sym c.if-not-is_data.true ∙ c.is_data.ensures.1 (subtree_top sizes _ _ _ _ rs bs tree))

pub copy_node-returns-in_err-count-clause-step : goal.copy_node-returns-in_err-count-clause-step
copy_node-returns-in_err-count-clause-step g t c =
    rw (passed_on _ c.from_residual.ensures.1) (step_read _ _ (looks_once c.in_err-count.ensures.looks) (λ is. cc) (λ is. cc) (λ is. cc) (λ is. cc))

pub copy_node-returns-in_err-count-clause-sound : goal.copy_node-returns-in_err-count-clause-sound
copy_node-returns-in_err-count-clause-sound g t c source sizes rs bs tree b is =
    let at = node_read sizes _ _ _ _ rs bs (omega (arith, c.requires.inner)) tree in
    let device = c.in_err-count.ensures.only source at.0 at.1 in
    cc (device, passed_on _ c.from_residual.ensures.1, is)

pub copy_node-returns-in_err-copy_children-clause-step : goal.copy_node-returns-in_err-copy_children-clause-step
copy_node-returns-in_err-copy_children-clause-step g t c =
    rw (passed_on _ c.from_residual-in_err-copy_children.ensures.1) (step_fails (looks_once c.in_ok-count.ensures.looks) c.in_err-copy_children.ensures.step (λ is. cc) (λ is. cc) (λ is. cc) (λ is. cc))

pub copy_node-returns-in_err-copy_children-clause-sound : goal.copy_node-returns-in_err-copy_children-clause-sound
copy_node-returns-in_err-copy_children-clause-sound g t c source sizes rs bs tree b is =
    let up : 0 < c.args.level = omega (arith, c.requires.inner) in
    let at = node_read sizes _ _ _ _ rs bs up tree in
    let under = node_under sizes _ _ c.args.level _ rs bs at.0 up tree (λ ds other. (node_one _ c.args.level c.args.level at.0 ds at.1.node other.node).1) in
    let before = c.in_err-copy_children.ensures.step.looks.goes.earlier source in
    let read = c.in_ok-count.ensures.only before at.0 at.1 in
    let same = same_medium _ _ (c.in_ok-count.ensures.looks.reads before) in
    c.in_err-copy_children.ensures.sound source sizes c.args.level at.0 rs under.0 read.0 read.1 (children_here same sizes c.args.blocks (c.args.level - 1) at.0 rs under.0 under.1) b
    (same_fault _ _ _ c.from_residual-in_err-copy_children.ensures.1 is)

pub copy_node-returns-clause-step : goal.copy_node-returns-clause-step
copy_node-returns-clause-step g t c =
    step_put (looks_once c.in_ok-count.ensures.looks) (c.in_ok-count.ensures.looks.once.one (c.is_data.ensures.0 c.if-not-is_data.false)) c.in_ok-copy_children.ensures.step refl c.put_copy.ensures.puts
    (λ is. absurd (c.put_copy.ensures.device is)) (λ is. is) (λ is. is) (λ is. is)

pub copy_node-returns-clause-copied : goal.copy_node-returns-clause-copied
copy_node-returns-clause-copied g t c source target so_far =
    let before = c.in_ok-copy_children.ensures.step.looks.goes.earlier source in
    let found = c.in_ok-count.ensures.found before in
    let form = c.in_ok-count.ensures.count in
    let same = same_medium _ _ (c.in_ok-count.ensures.looks.reads before) in
    let nodes = c.in_ok-copy_children.ensures.copied c.args.level form.children form.node form.many source (c.put_copy.ensures.puts.goes.earlier target) (copied_in same _ c.args.limit c.args.numbers.now so_far) in
    let inside : c.args.block < count_of c.copy_children.new.numbers = omega (arith, (c.is_data.ensures.0 c.if-not-is_data.false).1, c.requires.fit.known, c.in_ok-copy_children.ensures.step.numbers.same_count) in
    copies_block _ _ _ _ _ _ _ _ c.put_copy.result inside (copied_back same _ c.args.limit c.copy_children.new.numbers nodes.0) (c.put_copy.ensures.put target)
    (inr (subst (λ (bytes : List _). NodeCopied c.copy_children.new.numbers bytes c.copy_children.new.bytes) found.bytes_are nodes.1))

pub copy_node-returns-clause-only : goal.copy_node-returns-clause-only
copy_node-returns-clause-only g t c source =
    let before = c.in_ok-copy_children.ensures.step.looks.goes.earlier source in
    let found = c.in_ok-count.ensures.found before in
    let form = c.in_ok-count.ensures.count in
    let same = same_medium _ _ (c.in_ok-count.ensures.looks.reads before) in
    let node = subst (λ (bytes : List _). IsNode bytes c.args.level form.children) found.bytes_are form.node in
    let here : c.args.level ≤ c.args.level = omega arith in
    only_after _ c.args.numbers.now c.copy_children.new.numbers c.put_copy.new.numbers c.put_copy.result (ups_up same (c.args.level - 1) c.args.level c.args.numbers.now c.copy_children.new.numbers (omega arith) (c.in_ok-copy_children.ensures.only source))
    (only_put (λ n. IsUpTo c.args.level (block (g.S.Disk.state c.args.source.now).now.contents n)) _ _ _ _ _ _ c.put_copy.result c.put_copy.ensures.puts (inr (c.args.level, form.children, here, node)))

pub copy_node-returns-clause-sound : goal.copy_node-returns-clause-sound
copy_node-returns-clause-sound g t c source sizes rs bs tree b is =
    let up : 0 < c.args.level = omega (arith, c.requires.inner) in
    let at = node_read sizes _ _ _ _ rs bs up tree in
    let before = c.in_ok-copy_children.ensures.step.looks.goes.earlier source in
    let same = same_medium _ _ (c.in_ok-count.ensures.looks.reads before) in
    let none : number_at c.args.numbers.now c.args.block ≡ 0 = omega (arith, c.number_of-number.ensures, c.if-number-ne0.false) in
    fresh_still _ c.args.numbers.now c.copy_children.new.numbers c.args.block (c.in_ok-copy_children.ensures.only source) none
    (node_here same c.args.block (c.args.level - 1) c.args.level at.0 (omega (arith, up)) at.1.node) (c.put_copy.ensures.puts.twice b is)

pub copy_node-returns-then-not-is_data-clause-reached : goal.copy_node-returns-then-not-is_data-clause-reached
copy_node-returns-then-not-is_data-clause-reached g t c source sizes rs bs tree marks each = none_copied marks c.args.numbers.now (λ is. cc)

pub copy_node-returns-then-number-ne0-clause-reached : goal.copy_node-returns-then-number-ne0-clause-reached
copy_node-returns-then-number-ne0-clause-reached g t c source sizes rs bs tree marks each = none_copied marks c.args.numbers.now (λ is. cc)

pub copy_node-returns-in_err-count-clause-reached : goal.copy_node-returns-in_err-count-clause-reached
copy_node-returns-in_err-count-clause-reached g t c source sizes rs bs tree marks each = none_copied marks c.args.numbers.now (λ is. cc (passed_on _ c.from_residual.ensures.1, is))

pub copy_node-returns-in_err-copy_children-clause-reached : goal.copy_node-returns-in_err-copy_children-clause-reached
copy_node-returns-in_err-copy_children-clause-reached g t c source sizes rs bs tree marks each =
    let up : 0 < c.args.level = omega (arith, c.requires.inner) in
    let at = node_read sizes _ _ _ _ rs bs up tree in
    let under = node_each (IsMarked marks) sizes _ _ c.args.level _ rs bs at.0 up tree (λ ds other. (node_one _ c.args.level c.args.level at.0 ds at.1.node other.node).1) each in
    let before = c.in_err-copy_children.ensures.step.looks.goes.earlier source in
    let read = c.in_ok-count.ensures.only before at.0 at.1 in
    let same = same_medium _ _ (c.in_ok-count.ensures.looks.reads before) in
    marked_so marks _ _ (c.in_err-copy_children.ensures.reached source sizes c.args.level at.0 rs under.0 read.0 read.1 (children_here same sizes c.args.blocks (c.args.level - 1) at.0 rs under.0 under.1) marks under.3)
    (λ is. same_fault _ _ _ c.from_residual-in_err-copy_children.ensures.1 is)

pub copy_node-returns-clause-reached : goal.copy_node-returns-clause-reached
copy_node-returns-clause-reached g t c source sizes rs bs tree marks each =
    let up : 0 < c.args.level = omega (arith, c.requires.inner) in
    let at = node_read sizes _ _ _ _ rs bs up tree in
    let under = node_each (IsMarked marks) sizes _ _ c.args.level _ rs bs at.0 up tree (λ ds other. (node_one _ c.args.level c.args.level at.0 ds at.1.node other.node).1) each in
    let before = c.in_ok-copy_children.ensures.step.looks.goes.earlier source in
    let read = c.in_ok-count.ensures.only before at.0 at.1 in
    let same = same_medium _ _ (c.in_ok-count.ensures.looks.reads before) in
    marked_then marks _ _ _ (c.in_ok-copy_children.ensures.reached source sizes c.args.level at.0 rs under.0 read.0 read.1 (children_here same sizes c.args.blocks (c.args.level - 1) at.0 rs under.0 under.1) marks under.3)
    (marked_put marks c.put_copy.ensures.puts (at.1.inside.0, under.2)) (λ is. is)

pub copy_node-returns-then-not-is_data-clause-step : goal.copy_node-returns-then-not-is_data-clause-step
copy_node-returns-then-not-is_data-clause-step g t c = step_none _ _ _ (λ is. cc) (λ is. cc) (λ is. cc)

pub copy_node-returns-then-number-ne0-clause-step : goal.copy_node-returns-then-number-ne0-clause-step
copy_node-returns-then-number-ne0-clause-step g t c = step_none _ _ _ (λ is. cc) (λ is. cc) (λ is. cc)
