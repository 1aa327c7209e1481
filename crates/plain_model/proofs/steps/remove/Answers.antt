use Rattle.std.proofs.Common.{◌≡◌, Bool, not, get_or, is_some, true, sym, ap, ◌∙◌}
use Rattle.std.proofs.lemmas.List.{get_or_default}
use Rattle.vm_types.specs.declared.answer.Answer.TheVariants.{Done}
use Rattle.vm_types.specs.Map.{get, without}
use Rattle.vm_types.specs.Tree.{Alternative}
use Rattle.vm_types.proofs.Steps.{remove_accepted}
use Rattle.plain_model.proofs.Stepping.{changed_here}
use Rattle.plain_model.proofs.steps.remove.Goals as goal

pub returns-clause-ok : goal.returns-clause-ok
returns-clause-ok c =
    let first = c.in-Some.ensures.found in
    let d = c.index-tree-i-2.result in
    let tree = c.args.tree.now in
    let i = c.in-Some.i in
    let has : Alternative → Bool = λ (a : Alternative). is_some (get a.current c.args.key) in
    let there : has (get_or tree i d) ≡ true =
    ap has (get_or_default tree i d c.index-tree-i.result first.in_range) ∙ ap is_some (sym c.get.ensures) ∙ c.is_none.ensures ∙ ap not c.if-is_none.false in
    changed_here first d _ Done (λ (x : Alternative). record x { current = without x.current c.args.key }) _ c.in_ok-remove.ensures.ok
    (remove_accepted tree c.args.alt.now (get_or tree i d) (first.found d) c.args.key there)
