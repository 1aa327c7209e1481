use Rattle.std.proofs.Common.{◌≡◌, Bool, get_or, is_some, true, refl, sym, ap, ◌∙◌, bytes_eq}
use Rattle.std.proofs.lemmas.List.{get_or_default}
use Rattle.vm_types.specs.declared.answer.Answer.TheVariants.{Done}
use Rattle.vm_types.specs.Firsts.{without_first}
use Rattle.vm_types.specs.Tree.{Alternative, saved_as}
use Rattle.vm_types.proofs.Steps.{refused_here, uncheck_accepted}
use Rattle.plain_model.proofs.Stepping.{or_refuse-absent, changed_here}
use Rattle.plain_model.proofs.steps.uncheck.Goals as goal

pub returns-then-not-has_saved : goal.returns-then-not-has_saved
returns-then-not-has_saved c =
    let d = c.index-tree-i.result in
    refused_here c.in-Some.ensures.found d _ _ _ _ refl (or_refuse-absent (saved_as (get_or c.args.tree.now c.in-Some.i d) c.args.name.now) _ _ (sym c.has_saved.ensures ∙ c.if-not-has_saved.true))

pub returns : goal.returns
returns c =
    let first = c.in-Some.ensures.found in
    let d = c.index-tree-i-2.result in
    let tree = c.args.tree.now in
    let i = c.in-Some.i in
    let name = c.args.name.now in
    let has : Alternative → Bool = λ (a : Alternative). is_some (saved_as a name) in
    let there : has (get_or tree i d) ≡ true =
    ap has (get_or_default tree i d c.index-tree-i.result first.in_range) ∙ sym c.has_saved.ensures ∙ c.if-not-has_saved.false in
    changed_here first d _ Done (λ (x : Alternative). record x { saved = without_first (λ s. bytes_eq s.name name) x.saved }) _ c.forget.ensures
    (uncheck_accepted tree c.args.alt.now (get_or tree i d) (first.found d) name there)
