use Rattle.std.proofs.Common.{◌≡◌, Bool, [], ◌∷◌, ◌++◌, get_or, is_some, false, sym, ap, ◌∙◌}
use Rattle.std.proofs.lemmas.List.{get_or_default}
use Rattle.vm_types.specs.declared.answer.Answer.TheVariants.{Done}
use Rattle.vm_types.specs.Tree.{Alternative, saved_as}
use Rattle.vm_types.proofs.Steps.{checkpoint_accepted}
use Rattle.plain_model.proofs.Stepping.{changed_here}
use Rattle.plain_model.proofs.steps.checkpoint.Goals as goal

pub returns-clause-ok : goal.returns-clause-ok
returns-clause-ok c =
    let first = c.in-Some.ensures.found in
    let d = c.index-tree-i-2.result in
    let tree = c.args.tree.now in
    let i = c.in-Some.i in
    let name = c.args.name.now in
    let has : Alternative → Bool = λ (a : Alternative). is_some (saved_as a name) in
    let free : has (get_or tree i d) ≡ false =
    ap has (get_or_default tree i d c.index-tree-i.result first.in_range) ∙ sym c.has_saved.ensures ∙ c.if-has_saved.false in
    changed_here first d _ Done (λ (x : Alternative). record x { saved = x.saved ++ record { name = name; current = x.current; base = x.base } ∷ [] }) _ c.in_ok-save.ensures.ok
    (checkpoint_accepted tree c.args.alt.now (get_or tree i d) (first.found d) name free (sym c.is_full.ensures ∙ c.if-is_full.false))
