use Rattle.std.proofs.Common.{inl, inr, ◌<◌, Option, refl, sym, ap, ◌∙◌, subst, arith, length}
use Rattle.std.specs.Prelude.{IsSome}
use Rattle.std.proofs.Math.ListN.{length-set}
use Rattle.std.proofs.lemmas.Bool.{false≢true}
use Rattle.vm_disk.proofs.MomentLemmas.{same_medium}
use Rattle.vm_block.proofs.FormLemmas.{leaf_or_node}
use Rattle.vm_block.proofs.NodeLemmas.{node_one}
use Rattle.vm_tree.proofs.HandLemmas.{hand_node, hand_records}
use Rattle.vm_tree.specs.Root.{sizes_of}
use Rattle.vm_check.specs.Visits.{span_at, met_of}
use Rattle.vm_check.specs.declared.verification.Span.{Span}
use Rattle.vm_block.specs.declared.node.Child.{Child}
use Rattle.vm_check.proofs.KnownLemmas.{level_one, node_level, subtree_level}
use Rattle.vm_check.proofs.ChildLemmas.{leaf_top, node_top, top_form}
use Rattle.vm_check.proofs.SpanLemmas.{keys_same, keys_differ}
use Rattle.vm_check.proofs.SurveyLemmas.{begins_wrong, child_is_reached, child_exit_fits, child_exit_misfits, child_exit_none, child_exit_number, children_exit, children_more, children_start, ends_too_high, formless, leaf_exit_surveyed, misplaced, node_noted_exit, node_span_exit, not_device, none_found, noted_again, noted_new, of_wrong_level, level_met, walks_none, walks_noted, walks_on, walks_read}
use Rattle.vm_check.proofs.WalkLemmas.{leaf_as, node_as, lowest_first, leaf_exit, node_exit, node_fault, children_none, children_done, children_fault, child_agrees_at, child_is_data, child_more_on, child_sub}
use Rattle.vm_check.proofs.verification.+walk.Goals as goal
use Rattle.vm_check.proofs.verification.+walk.Goals.{visit-then-span-least-via-then-span-least, visit-then-span-least-via-else-span-least+then-span-most}
use Rattle.vm_check.proofs.verification.+walk.Goals.{visit-then-level-least-via-then-level-least, visit-then-level-least-via-else-level-least+then-level-most, visit-then-level-least-via-else-level-least+else-level-most+then-count}
use Rattle.vm_check.proofs.verification.+walk.Goals.{visit_child-then-ne-via-then-ne, visit_child-then-ne-via-else-ne+then-not-is_below_next}

-- # What a walk keeps

pub visit-returns-then-span-least-clause-walks : goal.visit-returns-then-span-least-clause-walks
visit-returns-then-span-least-clause-walks g t c = walks_noted (walks_none (λ is. is)) c.note.ensures (λ is. cc)

pub visit-returns-in-Err-Device-clause-walks : goal.visit-returns-in-Err-Device-clause-walks
visit-returns-in-Err-Device-clause-walks g t c =
    walks_read c.form_at.ensures.looks c.requires.inside c.set.ensures c.requires.fit.bits (λ is. false≢true (sym c.if-is_set.false ∙ c.is_set.ensures.1 is)) (λ is. cc)

pub visit-returns-in-Err-Damaged-clause-walks : goal.visit-returns-in-Err-Damaged-clause-walks
visit-returns-in-Err-Damaged-clause-walks g t c =
    walks_noted (walks_read c.form_at.ensures.looks c.requires.inside c.set.ensures c.requires.fit.bits (λ is. false≢true (sym c.if-is_set.false ∙ c.is_set.ensures.1 is)) (λ is. is)) c.note-in-Err-Damaged.ensures (λ is. cc)

pub visit-returns-then-least-gt0-clause-walks : goal.visit-returns-then-least-gt0-clause-walks
visit-returns-then-least-gt0-clause-walks g t c =
    walks_noted (walks_read c.form_at.ensures.looks c.requires.inside c.set.ensures c.requires.fit.bits (λ is. false≢true (sym c.if-is_set.false ∙ c.is_set.ensures.1 is)) (λ is. is)) c.note-then-least-gt0.ensures (λ is. cc)

pub visit-returns-then-level-least-clause-walks : goal.visit-returns-then-level-least-clause-walks
visit-returns-then-level-least-clause-walks g t c =
    walks_noted (walks_read c.form_at.ensures.looks c.requires.inside c.set.ensures c.requires.fit.bits (λ is. false≢true (sym c.if-is_set.false ∙ c.is_set.ensures.1 is)) (λ is. is)) c.note-then-level-least.ensures (λ is. cc)

pub visit-returns-else-least-gt0-clause-walks : goal.visit-returns-else-least-gt0-clause-walks
visit-returns-else-least-gt0-clause-walks g t c =
    walks_read c.form_at.ensures.looks c.requires.inside c.set.ensures c.requires.fit.bits (λ is. false≢true (sym c.if-is_set.false ∙ c.is_set.ensures.1 is)) (λ is. cc)

pub visit-returns-in_err-high-in-Node-clause-walks : goal.visit-returns-in_err-high-in-Node-clause-walks
visit-returns-in_err-high-in-Node-clause-walks g t c =
    walks_on (walks_read c.form_at.ensures.looks c.requires.inside c.set.ensures c.requires.fit.bits (λ is. false≢true (sym c.if-is_set.false ∙ c.is_set.ensures.1 is)) (λ is. is)) c.in_err-high-in-Node.ensures.walks (λ is. refl)

pub visit-returns-then-has-2-clause-walks : goal.visit-returns-then-has-2-clause-walks
visit-returns-then-has-2-clause-walks g t c =
    walks_on (walks_read c.form_at.ensures.looks c.requires.inside c.set.ensures c.requires.fit.bits (λ is. false≢true (sym c.if-is_set.false ∙ c.is_set.ensures.1 is)) (λ is. is)) c.in_ok-high-in-Node.ensures.walks (λ is. is)

pub visit-returns-else-has-2-clause-walks : goal.visit-returns-else-has-2-clause-walks
visit-returns-else-has-2-clause-walks g t c =
    walks_on (walks_read c.form_at.ensures.looks c.requires.inside c.set.ensures c.requires.fit.bits (λ is. false≢true (sym c.if-is_set.false ∙ c.is_set.ensures.1 is)) (λ is. is)) c.in_ok-high-in-Node.ensures.walks (λ is. is)

pub visit_child-returns-then-not-is_data-clause-walks : goal.visit_child-returns-then-not-is_data-clause-walks
visit_child-returns-then-not-is_data-clause-walks g t c = walks_noted (walks_none (λ is. is)) c.note_listing.ensures (λ is. cc)

pub visit_child-returns-then-ne-clause-walks : goal.visit_child-returns-then-ne-clause-walks
visit_child-returns-then-ne-clause-walks g t c = walks_noted c.in_ok-span.ensures.walks c.note.ensures (λ is. cc)

pub visit_children-returns-in_err-high-clause-walks : goal.visit_children-returns-in_err-high-clause-walks
visit_children-returns-in_err-high-clause-walks g t c = walks_on c.loop-i.invariant.walks c.in_err-high.ensures.walks (λ is. refl)

-- # What is found if nothing was noted

pub visit-returns-then-has-clause-found : goal.visit-returns-then-has-clause-found
visit-returns-then-has-clause-found g t c honest levels known none =
    false≢true (subst (λ (z : Option _). IsSome z) none (c.args.notes.now.told _ (c.has.ensures.0 c.if-has.true)))

pub visit-returns-then-has-2-clause-found : goal.visit-returns-then-has-2-clause-found
visit-returns-then-has-2-clause-found g t c honest levels known none =
    false≢true (subst (λ (z : Option _). IsSome z) none (c.visit_children.new.notes.told _ (c.has-in-Node.ensures.0 c.if-has-2.true)))

pub visit-returns-else-least-gt0-clause-found : goal.visit-returns-else-least-gt0-clause-found
visit-returns-else-least-gt0-clause-found g t c honest levels known none =
    let inside = c.requires.inside in
    let form = rw c.in-Leaf.is at c.in-Ok.ensures.form in
    leaf_exit _ _ _ _ _ _ form.0 _ _ _ _ _
    (record {
      keeps = c.keep.ensures;
      is = c.set.ensures;
      inside = omega (arith, inside.1, c.requires.fit.bits);
      room = omega (arith, inside.1, c.requires.fit.room);
      fresh = λ is. false≢true (sym c.if-is_set.false ∙ c.is_set.ensures.1 is);
      found = record {
        inside = inside;
        leaf = leaf_as _ _ form.0 (c.in-Ok.ensures.found honest) form.1;
        level = c.leaf_span-span.ensures.level;
        lowest = c.leaf_span-span.ensures.low form.0 (hand_records (sym c.at_hand.ensures) form.1);
        highest = c.leaf_span-span.ensures.high form.0 (hand_records (sym c.at_hand.ensures) form.1) form.2;
      };
    })
    (omega (arith, c.if-least-gt0.false)) known

pub visit-returns-else-has-2-clause-found : goal.visit-returns-else-has-2-clause-found
visit-returns-else-has-2-clause-found g t c honest levels known none =
    let inside = c.requires.inside in
    let form = rw c.in-Node.is at c.in-Ok.ensures.form in
    let first = record (span_at c.args.spans.now c.args.block) { level = c.in-Node.level } in
    let lowest : Child = record { low = c.lowest_key-low.result; block = 0 } in
    rw c.node_span-span.ensures (node_exit _ _ _ _ _ _ _ form.0 lowest first _ _ _ _ _ _ _ (c.keep-in-Node.ensures ∙ ap (λ (s : Span). met_of s) c.node_span-span.ensures) (same_medium _ _ (c.form_at.ensures.looks.reads (c.in_ok-high-in-Node.ensures.walks.looks.goes.earlier honest)))
    (record {
      is = c.set.ensures;
      inside = omega (arith, inside.1, c.requires.fit.bits);
      room = omega (arith, inside.1, c.requires.fit.room);
      fresh = λ is. false≢true (sym c.if-is_set.false ∙ c.is_set.ensures.1 is);
      data_block = inside;
      node = node_as _ _ _ form.0 (c.in-Ok.ensures.found (c.in_ok-high-in-Node.ensures.walks.looks.goes.earlier honest)) form.1;
      few = omega (arith, c.if-count.false, form.2);
      at_least = c.if-level-least.false;
      at_most = c.if-level-most.false;
    })
    (c.visit_children.auto.spans ∙ length-set c.args.spans.now c.args.block (met_of first)) refl (lowest_first _ form.0 lowest (c.lowest_key-low.ensures.node _ form.0 (hand_node (sym c.at_hand-in-Node.ensures) form.1)))
    (λ here. c.in_ok-high-in-Node.ensures.found honest levels _ form.0 (hand_node (sym c.at_hand-in-Node.ensures) form.1) form.2 here none) known)

-- # In a tree nothing is noted

pub visit-returns-then-span-least-clause-only : goal.visit-returns-then-span-least-clause-only
visit-returns-then-span-least-clause-only g t c honest levels l rs bs known least most tree rises none =
    let same = level_one _ l _ (subtree_level _ _ _ l _ rs bs tree) (known.formed _ (c.is_set.ensures.0 c.if-is_set.true)) in
    elim c.then-span-least.branch [
      | visit-then-span-least-via-then-span-least w ↦ absurd (omega (arith, same, ap (λ (s : Span). s.level) c.span_met-span.ensures, w.if-span-least.true, least))
      | visit-then-span-least-via-else-span-least+then-span-most w ↦ absurd (omega (arith, same, ap (λ (s : Span). s.level) c.span_met-span.ensures, w.if-span-most.true, most))
    ]

pub visit-returns-in-Err-Damaged-clause-only : goal.visit-returns-in-Err-Damaged-clause-only
visit-returns-in-Err-Damaged-clause-only g t c honest levels l rs bs known least most tree rises none =
    absurd (not_device _ _ c.in-Err-Damaged.field-0-is (top_form _ _ _ l _ rs bs _ tree (λ qs leaf. c.in-Err-Damaged.ensures.leaf honest qs leaf) (λ level cs node. c.in-Err-Damaged.ensures.node honest level cs node)))

pub visit-returns-then-least-gt0-clause-only : goal.visit-returns-then-least-gt0-clause-only
visit-returns-then-least-gt0-clause-only g t c honest levels l rs bs known least most tree rises none =
    let form = rw c.in-Leaf.is at c.in-Ok.ensures.form in
    let level = leaf_top _ _ _ l _ form.0 rs bs (leaf_as _ _ form.0 (c.in-Ok.ensures.found honest) form.1) tree in
    absurd (omega (arith, level, c.if-least-gt0.true, least))

pub visit-returns-then-level-least-clause-only : goal.visit-returns-then-level-least-clause-only
visit-returns-then-level-least-clause-only g t c honest levels l rs bs known least most tree rises none =
    let form = rw c.in-Node.is at c.in-Ok.ensures.form in
    let top = node_top _ _ _ l _ _ form.0 rs bs (node_as _ _ _ form.0 (c.in-Ok.ensures.found honest) form.1) tree in
    elim c.then-level-least.branch [
      | visit-then-level-least-via-then-level-least w ↦ absurd (omega (arith, top.same_level, w.if-level-least.true, least))
      | visit-then-level-least-via-else-level-least+then-level-most w ↦ absurd (omega (arith, top.same_level, w.if-level-most.true, most))
      | visit-then-level-least-via-else-level-least+else-level-most+then-count w ↦ absurd (omega (arith, top.few, w.if-count.true, form.2))
    ]

pub visit-returns-in_err-high-in-Node-clause-only : goal.visit-returns-in_err-high-in-Node-clause-only
visit-returns-in_err-high-in-Node-clause-only g t c honest levels l rs bs known least most tree rises none =
    let inside = c.requires.inside in
    let form = rw c.in-Node.is at c.in-Ok.ensures.form in
    let first = record (span_at c.args.spans.now c.args.block) { level = c.in-Node.level } in
    node_fault _ _ _ _ _ _ _ l form.0 first _ _ _ rs bs _ (same_medium _ _ (c.form_at.ensures.looks.reads (c.visit_children.ensures.walks.looks.goes.earlier honest)))
    (record {
      is = c.set.ensures;
      inside = omega (arith, inside.1, c.requires.fit.bits);
      room = omega (arith, inside.1, c.requires.fit.room);
      fresh = λ is. false≢true (sym c.if-is_set.false ∙ c.is_set.ensures.1 is);
      data_block = inside;
      node = node_as _ _ _ form.0 (c.in-Ok.ensures.found (c.visit_children.ensures.walks.looks.goes.earlier honest)) form.1;
      few = omega (arith, c.if-count.false, form.2);
      at_least = c.if-level-least.false;
      at_most = c.if-level-most.false;
    })
    known tree (λ ds here under. c.visit_children.ensures.only honest levels _ form.0 rs ds (hand_node (sym c.at_hand-in-Node.ensures) form.1) form.2 here under rises none)

pub visit-returns-then-has-2-clause-only : goal.visit-returns-then-has-2-clause-only
visit-returns-then-has-2-clause-only g t c honest levels l rs bs known least most tree rises none =
    let inside = c.requires.inside in
    let form = rw c.in-Node.is at c.in-Ok.ensures.form in
    let first = record (span_at c.args.spans.now c.args.block) { level = c.in-Node.level } in
    node_fault _ _ _ _ _ _ _ l form.0 first _ _ _ rs bs _ (same_medium _ _ (c.form_at.ensures.looks.reads (c.visit_children.ensures.walks.looks.goes.earlier honest)))
    (record {
      is = c.set.ensures;
      inside = omega (arith, inside.1, c.requires.fit.bits);
      room = omega (arith, inside.1, c.requires.fit.room);
      fresh = λ is. false≢true (sym c.if-is_set.false ∙ c.is_set.ensures.1 is);
      data_block = inside;
      node = node_as _ _ _ form.0 (c.in-Ok.ensures.found (c.visit_children.ensures.walks.looks.goes.earlier honest)) form.1;
      few = omega (arith, c.if-count.false, form.2);
      at_least = c.if-level-least.false;
      at_most = c.if-level-most.false;
    })
    known tree (λ ds here under. c.visit_children.ensures.only honest levels _ form.0 rs ds (hand_node (sym c.at_hand-in-Node.ensures) form.1) form.2 here under rises none)

pub visit-returns-else-has-2-clause-only : goal.visit-returns-else-has-2-clause-only
visit-returns-else-has-2-clause-only g t c honest levels l rs bs known least most tree rises none =
    let inside = c.requires.inside in
    let form = rw c.in-Node.is at c.in-Ok.ensures.form in
    let first = record (span_at c.args.spans.now c.args.block) { level = c.in-Node.level } in
    node_fault _ _ _ _ _ _ _ l form.0 first _ _ _ rs bs _ (same_medium _ _ (c.form_at.ensures.looks.reads (c.visit_children.ensures.walks.looks.goes.earlier honest)))
    (record {
      is = c.set.ensures;
      inside = omega (arith, inside.1, c.requires.fit.bits);
      room = omega (arith, inside.1, c.requires.fit.room);
      fresh = λ is. false≢true (sym c.if-is_set.false ∙ c.is_set.ensures.1 is);
      data_block = inside;
      node = node_as _ _ _ form.0 (c.in-Ok.ensures.found (c.visit_children.ensures.walks.looks.goes.earlier honest)) form.1;
      few = omega (arith, c.if-count.false, form.2);
      at_least = c.if-level-least.false;
      at_most = c.if-level-most.false;
    })
    known tree (λ ds here under. c.visit_children.ensures.only honest levels _ form.0 rs ds (hand_node (sym c.at_hand-in-Node.ensures) form.1) form.2 here under rises none)

-- # What is known where the walk goes on

pub visit-returns-then-span-least-clause-surveyed : goal.visit-returns-then-span-least-clause-surveyed
visit-returns-then-span-least-clause-surveyed g t c honest on levels ns s reached wrong =
    let met = c.is_set.ensures.0 c.if-is_set.true in
    let level = level_met _ _ _ _ _ _ _ _ _ met (λ is. false≢true (sym c.if-has.false ∙ c.has.ensures.1 is)) s in
    let same = ap (λ (s : Span). s.level) c.span_met-span.ensures in
    noted_again _ _ _ _ _ _ _ _ _ _ _ (omega (arith, c.requires.inside.1, c.requires.fit.noted)) c.note.ensures met
    (of_wrong_level _ _ _ _ _ _ c.requires.inside (wrong _ level (elim c.then-span-least.branch [
      | visit-then-span-least-via-then-span-least w ↦ inl (omega (arith, same, w.if-span-least.true))
      | visit-then-span-least-via-else-span-least+then-span-most w ↦ inr (omega (arith, same, w.if-span-most.true))
    ]))) s

pub visit-returns-in-Err-Damaged-clause-surveyed : goal.visit-returns-in-Err-Damaged-clause-surveyed
visit-returns-in-Err-Damaged-clause-surveyed g t c honest on levels ns s reached wrong =
    let inside = c.requires.inside in
    noted_new _ _ _ _ _ _ _ _ _ _ _ _ (omega (arith, inside.1, c.requires.fit.noted)) (omega (arith, inside.1, c.requires.fit.bits)) c.note-in-Err-Damaged.ensures c.set.ensures
    (formless _ _ _ _ _ _ inside
    (λ rs leaf. not_device _ _ c.in-Err-Damaged.field-0-is (c.in-Err-Damaged.ensures.leaf honest rs (record { inside = inside; leaf = leaf })))
    (λ level cs node few. not_device _ _ c.in-Err-Damaged.field-0-is (c.in-Err-Damaged.ensures.node honest level cs (record { inside = inside; node = node })))) s

pub visit-returns-then-least-gt0-clause-surveyed : goal.visit-returns-then-least-gt0-clause-surveyed
visit-returns-then-least-gt0-clause-surveyed g t c honest on levels ns s reached wrong =
    let inside = c.requires.inside in
    let form = rw c.in-Leaf.is at c.in-Ok.ensures.form in
    noted_new _ _ _ _ _ _ _ _ _ _ _ _ (omega (arith, inside.1, c.requires.fit.noted)) (omega (arith, inside.1, c.requires.fit.bits)) c.note-then-least-gt0.ensures c.set.ensures
    (of_wrong_level _ _ _ _ _ _ inside (wrong 0 (form.0, leaf_as _ _ form.0 (c.in-Ok.ensures.found honest) form.1) (inl c.if-least-gt0.true))) s

pub visit-returns-then-level-least-clause-surveyed : goal.visit-returns-then-level-least-clause-surveyed
visit-returns-then-level-least-clause-surveyed g t c honest on levels ns s reached wrong =
    let inside = c.requires.inside in
    let form = rw c.in-Node.is at c.in-Ok.ensures.form in
    let node = node_as _ _ _ form.0 (c.in-Ok.ensures.found honest) form.1 in
    noted_new _ _ _ _ _ _ _ _ _ _ _ _ (omega (arith, inside.1, c.requires.fit.noted)) (omega (arith, inside.1, c.requires.fit.bits)) c.note-then-level-least.ensures c.set.ensures
    (elim c.then-level-least.branch [
      | visit-then-level-least-via-then-level-least w ↦ of_wrong_level _ _ _ _ _ _ inside (wrong _ (node_level _ _ _ node) (inl w.if-level-least.true))
      | visit-then-level-least-via-else-level-least+then-level-most w ↦ of_wrong_level _ _ _ _ _ _ inside (wrong _ (node_level _ _ _ node) (inr w.if-level-most.true))
      | visit-then-level-least-via-else-level-least+else-level-most+then-count w ↦ formless _ _ _ _ _ _ inside
          (λ rs leaf. leaf_or_node _ rs _ _ leaf node) (λ level cs other few. omega (arith, ap (λ (z : _). length z) (node_one _ _ _ form.0 cs node other).1, w.if-count.true, form.2, few))
    ]) s

pub visit-returns-else-least-gt0-clause-surveyed : goal.visit-returns-else-least-gt0-clause-surveyed
visit-returns-else-least-gt0-clause-surveyed g t c honest on levels ns s reached wrong =
    let inside = c.requires.inside in
    let form = rw c.in-Leaf.is at c.in-Ok.ensures.form in
    leaf_exit_surveyed _ _ _ _ _ _ _ form.0 _ _ _ _ _ _
    (record {
      keeps = c.keep.ensures;
      is = c.set.ensures;
      inside = omega (arith, inside.1, c.requires.fit.bits);
      room = omega (arith, inside.1, c.requires.fit.room);
      fresh = λ is. false≢true (sym c.if-is_set.false ∙ c.is_set.ensures.1 is);
      found = record {
        inside = inside;
        leaf = leaf_as _ _ form.0 (c.in-Ok.ensures.found honest) form.1;
        level = c.leaf_span-span.ensures.level;
        lowest = c.leaf_span-span.ensures.low form.0 (hand_records (sym c.at_hand.ensures) form.1);
        highest = c.leaf_span-span.ensures.high form.0 (hand_records (sym c.at_hand.ensures) form.1) form.2;
      };
    })
    (omega (arith, c.if-least-gt0.false)) s

pub visit-returns-then-has-2-clause-surveyed : goal.visit-returns-then-has-2-clause-surveyed
visit-returns-then-has-2-clause-surveyed g t c honest on levels ns s reached wrong =
    let inside = c.requires.inside in
    let form = rw c.in-Node.is at c.in-Ok.ensures.form in
    let first = record (span_at c.args.spans.now c.args.block) { level = c.in-Node.level } in
    let earlier = c.in_ok-high-in-Node.ensures.walks.looks.goes.earlier honest in
    let found = c.in-Ok.ensures.found earlier in
    node_noted_exit _ _ _ _ _ (same_medium _ _ (c.form_at.ensures.looks.reads earlier)) _ _ _ _ form.0 first _ _ _ _
    (record {
      is = c.set.ensures;
      inside = omega (arith, inside.1, c.requires.fit.bits);
      room = omega (arith, inside.1, c.requires.fit.room);
      fresh = λ is. false≢true (sym c.if-is_set.false ∙ c.is_set.ensures.1 is);
      data_block = inside;
      node = node_as _ _ _ form.0 found form.1;
      few = omega (arith, c.if-count.false, form.2);
      at_least = c.if-level-least.false;
      at_most = c.if-level-most.false;
    })
    (c.at_hand-in-Node.ensures ∙ found) reached s _ _ _ _ c.visit_children.ensures.walks.keeps.damaged
    (λ parent here. children_exit _ _ _ _ _ _ _ _ _ _ _ _ _ _ _ (sym form.2) (c.in_ok-high-in-Node.ensures.surveyed honest on levels ns form.0 parent form.2 here)) (c.has-in-Node.ensures.0 c.if-has-2.true)

pub visit-returns-else-has-2-clause-surveyed : goal.visit-returns-else-has-2-clause-surveyed
visit-returns-else-has-2-clause-surveyed g t c honest on levels ns s reached wrong =
    let inside = c.requires.inside in
    let form = rw c.in-Node.is at c.in-Ok.ensures.form in
    let first = record (span_at c.args.spans.now c.args.block) { level = c.in-Node.level } in
    let earlier = c.in_ok-high-in-Node.ensures.walks.looks.goes.earlier honest in
    let found = c.in-Ok.ensures.found earlier in
    node_span_exit _ _ _ _ _ (same_medium _ _ (c.form_at.ensures.looks.reads earlier)) _ _ _ _ form.0 first _ _ _ _
    (record {
      is = c.set.ensures;
      inside = omega (arith, inside.1, c.requires.fit.bits);
      room = omega (arith, inside.1, c.requires.fit.room);
      fresh = λ is. false≢true (sym c.if-is_set.false ∙ c.is_set.ensures.1 is);
      data_block = inside;
      node = node_as _ _ _ form.0 found form.1;
      few = omega (arith, c.if-count.false, form.2);
      at_least = c.if-level-least.false;
      at_most = c.if-level-most.false;
    })
    (c.at_hand-in-Node.ensures ∙ found) reached s _ _ _ _ c.visit_children.ensures.walks.keeps.damaged
    (λ parent here. children_exit _ _ _ _ _ _ _ _ _ _ _ _ _ _ _ (sym form.2) (c.in_ok-high-in-Node.ensures.surveyed honest on levels ns form.0 parent form.2 here)) c.node_span-span.result _ c.lowest_key-low.result
    (λ is. false≢true (sym c.if-has-2.false ∙ c.has-in-Node.ensures.1 is)) c.keep-in-Node.ensures c.node_span-span.ensures (c.lowest_key-low.ensures.node _ form.0 (hand_node (sym c.at_hand-in-Node.ensures) form.1))
    (omega (arith, c.visit_children.auto.spans, length-set c.args.spans.now c.args.block (met_of first), inside.1, c.requires.fit.room))

-- # A child

pub visit_child-returns-then-not-is_data-clause-only : goal.visit_child-returns-then-not-is_data-clause-only
visit_child-returns-then-not-is_data-clause-only g t c honest levels above cs rs bs node count known under rises none =
    let lt : c.args.i < length cs = omega (arith, c.requires.within, count) in
    absurd (false≢true (sym c.if-not-is_data.true ∙ c.is_data.ensures.1 (child_is_data _ _ _ _ _ cs c.child_at-child.result rs bs lt (c.child_at-child.ensures.child above cs node lt) under rises)))

pub visit_child-returns-in_err-span-clause-only : goal.visit_child-returns-in_err-span-clause-only
visit_child-returns-in_err-span-clause-only g t c honest levels above cs rs bs node count known under rises none =
    let lt : c.args.i < length cs = omega (arith, c.requires.within, count) in
    child_sub _ _ _ _ _ cs c.child_at-child.result rs bs _ lt (c.child_at-child.ensures.child above cs node lt) under rises
    (λ qs ds sub up. c.visit.ensures.only honest levels _ qs ds known (omega arith) (omega arith) sub up none)

pub visit_child-returns-in_default-clause-only : goal.visit_child-returns-in_default-clause-only
visit_child-returns-in_default-clause-only g t c honest levels above cs rs bs node count known under rises none =
    let lt : c.args.i < length cs = omega (arith, c.requires.within, count) in
    child_sub _ _ _ _ _ cs c.child_at-child.result rs bs _ lt (c.child_at-child.ensures.child above cs node lt) under rises
    (λ qs ds sub up. c.visit.ensures.only honest levels _ qs ds known (omega arith) (omega arith) sub up none)

pub visit_child-returns-clause-only : goal.visit_child-returns-clause-only
visit_child-returns-clause-only g t c honest levels above cs rs bs node count known under rises none =
    let lt : c.args.i < length cs = omega (arith, c.requires.within, count) in
    child_sub _ _ _ _ _ cs c.child_at-child.result rs bs _ lt (c.child_at-child.ensures.child above cs node lt) under rises
    (λ qs ds sub up. c.visit.ensures.only honest levels _ qs ds known (omega arith) (omega arith) sub up none)

pub visit_child-returns-then-ne-clause-only : goal.visit_child-returns-then-ne-clause-only
visit_child-returns-then-ne-clause-only g t c honest levels above cs rs bs node count known under rises none =
    let lt : c.args.i < length cs = omega (arith, c.requires.within, count) in
    let is = c.child_at-child.ensures.child above cs node lt in
    let quiet = child_sub _ _ _ _ _ cs c.child_at-child.result rs bs _ lt is under rises (λ qs ds sub up. c.visit.ensures.only honest levels _ qs ds known (omega arith) (omega arith) sub up none) in
    let visited = rw c.in-Some.is at (c.in_ok-span.ensures.found honest levels known quiet) in
    let fits = child_agrees_at _ _ _ _ _ cs c.child_at-child.result rs bs _ _ _ _ _ lt is under rises visited in
    elim c.then-ne.branch [
      | visit_child-then-ne-via-then-ne w ↦ absurd (keys_differ _ _ _ c.ne.ensures w.if-ne.true fits.low)
      | visit_child-then-ne-via-else-ne+then-not-is_below_next w ↦ absurd (false≢true (sym w.if-not-is_below_next.true ∙ (w.is_below_next.ensures above cs node count).1 fits.below))
    ]

pub visit_child-returns-in_default-clause-found : goal.visit_child-returns-in_default-clause-found
visit_child-returns-in_default-clause-found g t c honest levels above cs node count known none =
    absurd (none_found _ _ c.in_default.is (c.in_ok-span.ensures.found honest levels known none))

pub visit_child-returns-clause-found : goal.visit_child-returns-clause-found
visit_child-returns-clause-found g t c honest levels above cs node count known none =
    let lt : c.args.i < length cs = omega (arith, c.requires.within, count) in
    record {
      child = c.child_at-child.result;
      listed = c.child_at-child.ensures.child above cs node lt;
      span = c.in-Some.span;
      high_is = refl;
      low = keys_same _ _ _ c.ne.ensures c.if-ne.false;
      visited = rw c.in-Some.is at (c.in_ok-span.ensures.found honest levels known none);
      below = (c.is_below_next.ensures above cs node count).0 c.if-not-is_below_next.false;
    }

pub visit_child-returns-then-not-is_data-clause-surveyed : goal.visit_child-returns-then-not-is_data-clause-surveyed
visit_child-returns-then-not-is_data-clause-surveyed g t c honest on levels ns cs at count s =
    let lt : c.args.i < length cs = omega (arith, c.requires.within, count) in
    child_exit_number _ _ _ _ _ _ _ _ cs c.child_at-child.result at lt (c.child_at-child.ensures.child at.above cs at.node lt) _ _ _ _
    (omega (arith, c.requires.inside.1, c.requires.fit.noted)) c.note_listing.ensures (λ is. false≢true (sym c.if-not-is_data.true ∙ c.is_data.ensures.1 is)) s

pub visit_child-returns-in_default-clause-surveyed : goal.visit_child-returns-in_default-clause-surveyed
visit_child-returns-in_default-clause-surveyed g t c honest on levels ns cs at count s =
    let lt : c.args.i < length cs = omega (arith, c.requires.within, count) in
    let is = c.child_at-child.ensures.child at.above cs at.node lt in
    child_exit_none _ _ _ _ _ _ _ _ cs c.child_at-child.result at lt is _ _ _ _ _ (c.is_data.ensures.0 c.if-not-is_data.false)
    (rw c.in_default.is at (c.in_ok-span.ensures.surveyed honest on levels ns s (child_is_reached (sizes_of g.row.FAN levels) _ _ _ _ _ _ _ cs _ at lt is) (misplaced (sizes_of g.row.FAN levels) _ _ _ _ _ _ _ cs _ at lt is)))

pub visit_child-returns-then-ne-clause-surveyed : goal.visit_child-returns-then-ne-clause-surveyed
visit_child-returns-then-ne-clause-surveyed g t c honest on levels ns cs at count s =
    let lt : c.args.i < length cs = omega (arith, c.requires.within, count) in
    let is = c.child_at-child.ensures.child at.above cs at.node lt in
    let inside = c.is_data.ensures.0 c.if-not-is_data.false in
    let v = rw c.in-Some.is at (c.in_ok-span.ensures.surveyed honest on levels ns s (child_is_reached (sizes_of g.row.FAN levels) _ _ _ _ _ _ _ cs _ at lt is) (misplaced (sizes_of g.row.FAN levels) _ _ _ _ _ _ _ cs _ at lt is)) in
    child_exit_misfits _ _ _ _ _ _ _ _ cs c.child_at-child.result at lt is c.in-Some.span _ _ _ _ _ _ (omega (arith, inside.1, c.requires.fit.noted, c.visit.ensures.walks.keeps.damaged.same_length)) inside c.note.ensures v
    (λ has. elim c.then-ne.branch [
      | visit_child-then-ne-via-then-ne w ↦ begins_wrong _ _ _ _ _ _ _ _ cs c.child_at-child.result at lt is _ _ c.in-Some.span inside v.is.0 v.is.1 has (keys_differ _ _ _ c.ne.ensures w.if-ne.true)
      | visit_child-then-ne-via-else-ne+then-not-is_below_next w ↦ ends_too_high _ _ _ _ _ _ _ _ cs c.child_at-child.result at lt is _ _ c.in-Some.span inside v.is.0 v.is.1 has
          (λ below. false≢true (sym w.if-not-is_below_next.true ∙ (w.is_below_next.ensures at.above cs at.node count).1 below))
    ])

pub visit_child-returns-clause-surveyed : goal.visit_child-returns-clause-surveyed
visit_child-returns-clause-surveyed g t c honest on levels ns cs at count s =
    let lt : c.args.i < length cs = omega (arith, c.requires.within, count) in
    let is = c.child_at-child.ensures.child at.above cs at.node lt in
    let v = rw c.in-Some.is at (c.in_ok-span.ensures.surveyed honest on levels ns s (child_is_reached (sizes_of g.row.FAN levels) _ _ _ _ _ _ _ cs _ at lt is) (misplaced (sizes_of g.row.FAN levels) _ _ _ _ _ _ _ cs _ at lt is)) in
    child_exit_fits _ _ _ _ _ _ _ _ cs c.child_at-child.result at lt is c.in-Some.span _ _ _ _ _ (c.is_data.ensures.0 c.if-not-is_data.false) v (keys_same _ _ _ c.ne.ensures c.if-ne.false)
    ((c.is_below_next.ensures at.above cs at.node count).0 c.if-not-is_below_next.false)

-- # Children

pub visit_children-loop-i-init : goal.visit_children-loop-i-init
visit_children-loop-i-init g t c = record {
  walks = walks_none (λ is. is);
  found = λ honest levels above cs node count known none. (children_none _ _ _ _ _ _ _ known, λ some more. absurd (omega (arith, some)));
  only = λ honest levels above cs rs bs node count known under rises none. none;
  surveyed = λ honest on levels ns cs at count s. children_start _ _ _ _ _ cs _ _ _ _ _ s;
}

pub visit_children-loop-i-preserved : goal.visit_children-loop-i-preserved
visit_children-loop-i-preserved g t c =
    let so_far = c.loop-i.invariant in
    let keeps = c.visit_child.ensures.walks.keeps in
    record {
      walks = walks_on so_far.walks c.in_ok-high.ensures.walks (λ is. absurd is);
      found = λ honest levels above cs node count known none.
          let lt : c.loop-i.i < length cs = omega (arith, c.loop-i-test.true, count) in
          let earlier = c.visit_child.ensures.walks.looks.goes.earlier honest in
          let all = so_far.found earlier levels above cs node count known (keeps.none none) in
          child_more_on _ _ _ _ _ _ cs _ _ _ _ _ _ _ _ (same_medium _ _ (so_far.walks.looks.reads earlier)) lt all.1 all.0
          (λ here. c.in_ok-high.ensures.found honest levels above cs node count here none);
      only = λ honest levels above cs rs bs node count known under rises none.
          let earlier = c.visit_child.ensures.walks.looks.goes.earlier honest in
          let quiet = so_far.only earlier levels above cs rs bs node count known under rises none in
          let all = so_far.found earlier levels above cs node count known quiet in
          children_fault _ _ _ _ _ cs rs bs _ (same_medium _ _ (so_far.walks.looks.reads earlier)) all.0.known under
          (λ here below. c.visit_child.ensures.only honest levels above cs rs bs node count here below rises quiet);
      surveyed = λ honest on levels ns cs at count s.
          let lt : c.loop-i.i < length cs = omega (arith, c.loop-i-test.true, count) in
          let earlier = c.visit_child.ensures.walks.looks.goes.earlier honest in
          children_more _ _ _ _ _ cs _ _ _ _ _ _ _ _ _ _ _ _ _ _ (same_medium _ _ (so_far.walks.looks.reads earlier)) keeps.damaged at (so_far.surveyed earlier on levels ns cs at count s)
          (λ parent here. c.in_ok-high.ensures.surveyed honest (so_far.walks.keeps.on_damage ∙ on) levels ns cs parent count here);
    }

pub visit_children-returns-in_err-high-clause-only : goal.visit_children-returns-in_err-high-clause-only
visit_children-returns-in_err-high-clause-only g t c honest levels above cs rs bs node count known under rises none =
    let so_far = c.loop-i.invariant in
    let earlier = c.visit_child.ensures.walks.looks.goes.earlier honest in
    let quiet = so_far.only earlier levels above cs rs bs node count known under rises none in
    let all = so_far.found earlier levels above cs node count known quiet in
    children_fault _ _ _ _ _ cs rs bs _ (same_medium _ _ (so_far.walks.looks.reads earlier)) all.0.known under
    (λ here below. c.visit_child.ensures.only honest levels above cs rs bs node count here below rises quiet)

pub visit_children-returns-clause-found : goal.visit_children-returns-clause-found
visit_children-returns-clause-found g t c honest levels above cs node count known none =
    children_done _ _ _ _ _ cs _ _ _ _ _ (omega (arith, c.loop-i-test.false, count)) (c.loop-i.invariant.found honest levels above cs node count known none).0

pub visit_children-returns-clause-surveyed : goal.visit_children-returns-clause-surveyed
visit_children-returns-clause-surveyed g t c honest on levels ns cs at count s =
    children_exit _ _ _ _ _ cs _ _ _ _ _ _ _ _ _ (omega (arith, c.loop-i-test.false, c.loop-i.auto.i-end)) (c.loop-i.invariant.surveyed honest on levels ns cs at count s)
