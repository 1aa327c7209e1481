use Rattle.std.proofs.Common.{is_some, option_map, bytes_eq, refl, sym, ap, ◌∙◌}
use Rattle.vm_types.specs.Firsts.{IsFirst}
use Rattle.vm_types.specs.Step.{done, new_alternative}
use Rattle.vm_types.specs.Tree.{Alternative, Tree, named, saved_as, is_full}
use Rattle.vm_types.proofs.Steps.{IsOutcome-accepted, IsOutcome-refused, refuse_if-true, refuse_if-false}
use Rattle.plain_model.proofs.Stepping.{known_any, new_at_absent, new_at_there}
use Rattle.plain_model.proofs.steps.new_alternative_at.Goals as goal

pub returns-then-is_there-clause-ok : goal.returns-then-is_there-clause-ok
returns-then-is_there-clause-ok c =
    let there = ap (λ tree. is_some (named tree c.args.name.now)) (sym c.deref-2.ensures.value) ∙ sym c.is_there.ensures ∙ c.if-is_there.true in
    IsOutcome-refused _ _ _ _ refl
    (known_any c.args.tree.now.items c.args.parent.now c.in-Some.i _ _ _ (rw c.deref.ensures.value at c.in-Some.ensures.found) (λ (p : Alternative). refuse_if-true _ _ _ there))

pub returns-in_default-2-clause-ok : goal.returns-in_default-2-clause-ok
returns-in_default-2-clause-ok c =
    let first : IsFirst (λ (a : Alternative). bytes_eq a.name c.args.parent.now) c.args.tree.now.items c.in-Some.i = rw c.deref.ensures.value at c.in-Some.ensures.found in
    let free = ap (λ tree. is_some (named tree c.args.name.now)) (sym c.deref-2.ensures.value) ∙ sym c.is_there.ensures ∙ c.if-is_there.false in
    let at = ap (λ (p : Alternative). option_map (λ k. new_alternative c.args.name.now p k.current) (saved_as p c.args.checkpoint.now)) c.index.ensures in
    IsOutcome-refused _ _ _ _ refl
    (new_at_absent first c.index.result.now c.args.name.now c.args.checkpoint.now free (sym c.in_default-2.is ∙ c.in_ok-child.ensures ∙ at))

pub returns-then-is_full-clause-ok : goal.returns-then-is_full-clause-ok
returns-then-is_full-clause-ok c =
    let first : IsFirst (λ (a : Alternative). bytes_eq a.name c.args.parent.now) c.args.tree.now.items c.in-Some.i = rw c.deref.ensures.value at c.in-Some.ensures.found in
    let free = ap (λ tree. is_some (named tree c.args.name.now)) (sym c.deref-2.ensures.value) ∙ sym c.is_there.ensures ∙ c.if-is_there.false in
    let at = ap (λ (p : Alternative). option_map (λ k. new_alternative c.args.name.now p k.current) (saved_as p c.args.checkpoint.now)) c.index.ensures in
    let full = ap is_full (sym c.deref-3.ensures.value) ∙ sym c.is_full.ensures ∙ c.if-is_full.true in
    IsOutcome-refused _ _ _ _ refl
    (new_at_there first c.index.result.now c.args.name.now c.args.checkpoint.now free c.in-Some-2.child _ (sym c.in-Some-2.is ∙ c.in_ok-child.ensures ∙ at) (refuse_if-true _ _ _ full))

pub returns-clause-ok : goal.returns-clause-ok
returns-clause-ok c =
    let first : IsFirst (λ (a : Alternative). bytes_eq a.name c.args.parent.now) c.args.tree.now.items c.in-Some.i = rw c.deref.ensures.value at c.in-Some.ensures.found in
    let free = ap (λ tree. is_some (named tree c.args.name.now)) (sym c.deref-2.ensures.value) ∙ sym c.is_there.ensures ∙ c.if-is_there.false in
    let at = ap (λ (p : Alternative). option_map (λ k. new_alternative c.args.name.now p k.current) (saved_as p c.args.checkpoint.now)) c.index.ensures in
    let room = ap is_full (sym c.deref-3.ensures.value) ∙ sym c.is_full.ensures ∙ c.if-is_full.false in
    IsOutcome-accepted _ _ _ _
    (new_at_there first c.index.result.now c.args.name.now c.args.checkpoint.now free c.in-Some-2.child _ (sym c.in-Some-2.is ∙ c.in_ok-child.ensures ∙ at)
    (refuse_if-false _ _ _ room ∙ ap (λ (t : Tree). done t) (sym c.in_ok-push.ensures.items)))
