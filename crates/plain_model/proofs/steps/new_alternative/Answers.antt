use Rattle.std.proofs.Common.{is_some, refl, sym, ap, ◌∙◌}
use Rattle.vm_types.specs.Tree.{Alternative, named, is_full}
use Rattle.vm_types.proofs.Steps.{IsOutcome-refused, refuse_if-true, refuse_if-false}
use Rattle.plain_model.proofs.Stepping.{known_any}
use Rattle.plain_model.proofs.steps.new_alternative.Goals as goal

pub returns-then-is_there-clause-ok : goal.returns-then-is_there-clause-ok
returns-then-is_there-clause-ok c =
    let there = ap (λ tree. is_some (named tree c.args.name.now)) (sym c.deref-2.ensures.value) ∙ sym c.is_there.ensures ∙ c.if-is_there.true in
    IsOutcome-refused _ _ _ _ refl
    (known_any c.args.tree.now.items c.args.parent.now c.in-Some.i _ _ _ (rw c.deref.ensures.value at c.in-Some.ensures.found) (λ (p : Alternative). refuse_if-true _ _ _ there))

pub returns-then-is_full-clause-ok : goal.returns-then-is_full-clause-ok
returns-then-is_full-clause-ok c =
    let free = ap (λ tree. is_some (named tree c.args.name.now)) (sym c.deref-2.ensures.value) ∙ sym c.is_there.ensures ∙ c.if-is_there.false in
    let full = ap is_full (sym c.deref-3.ensures.value) ∙ sym c.is_full.ensures ∙ c.if-is_full.true in
    IsOutcome-refused _ _ _ _ refl
    (known_any c.args.tree.now.items c.args.parent.now c.in-Some.i _ _ _ (rw c.deref.ensures.value at c.in-Some.ensures.found) (λ (p : Alternative). refuse_if-false _ _ _ free ∙ refuse_if-true _ _ _ full))
