use Rattle.std.proofs.Common.{◌≡◌, Bool, get_or, is_some, true, refl, sym, ap, ◌∙◌}
use Rattle.std.proofs.lemmas.List.{get_or_default}
use Rattle.vm_types.specs.Tree.{Alternative, saved_as}
use Rattle.vm_types.proofs.Steps.{refused_here, back_here}
use Rattle.plain_model.proofs.Stepping.{or_refuse-absent}
use Rattle.plain_model.proofs.steps.back.Goals as goal

pub returns-then-not-has_saved-clause-ok : goal.returns-then-not-has_saved-clause-ok
returns-then-not-has_saved-clause-ok c =
    let d = c.index-tree-i.result in
    refused_here c.in-Some.ensures.found d _ _ _ _ refl (or_refuse-absent (saved_as (get_or c.args.tree.now c.in-Some.i d) c.args.name.now) _ _ (sym c.has_saved.ensures ∙ c.if-not-has_saved.true))

pub returns-clause-ok : goal.returns-clause-ok
returns-clause-ok c =
    let first = c.in-Some.ensures.found in
    let d = c.index-tree-i-2.result in
    let tree = c.args.tree.now in
    let name = c.args.name.now in
    let has : Alternative → Bool = λ (a : Alternative). is_some (saved_as a name) in
    let there : has (get_or tree c.in-Some.i d) ≡ true =
    ap has (get_or_default tree c.in-Some.i d c.index-tree-i.result first.in_range) ∙ sym c.has_saved.ensures ∙ c.if-not-has_saved.false in
    back_here first d name _ there c.in_ok-go_back.ensures.ok
