use Rattle.std.proofs.Common.{List, map, length, get_or, ap, ap₂, sym, ◌∙◌}
use Rattle.vm_types.specs.declared.change.Conflict.{Conflict}
use Rattle.vm_types.specs.Map.{Map, conflicts, delta, merge}
use Rattle.vm_types.specs.Step.{settled_refusal}
use Rattle.vm_types.specs.Tree.{Alternative}
use Rattle.plain_model.proofs.Merging.{merge_here}
use Rattle.plain_model.proofs.steps.merge.Goals as goal

pub returns-clause-ok : goal.returns-clause-ok
returns-clause-ok c =
    let settled = c.args.settled.now in
    let shown = (get_or c.args.tree.now c.in-Ok.places.0 c.index-tree-i-3.result).current in
    merge_here c.in-Ok.ensures.places settled c.in_ok-conflicts.conflicts.items c.in_ok-merged.merged.items c.in_ok-base.base.items c.in_ok-count.count c.rebase.new.self
    c.index-tree-i.result c.index-tree-i-2.result c.index-tree-i-3.result c.index-tree-i-4.result c.index-tree-j.result c.index-tree-j-2.result c.index-tree-j-3.result
    (c.in_ok-conflicts.ensures ∙ ap₂ (λ (a p : Alternative). conflicts a.base p.current a.current) c.index-tree-i.is c.index-tree-j.is)
    (ap (λ (cs : List Conflict). settled_refusal settled (map (λ x. x.key) cs)) (sym c.deref.ensures.value) ∙ sym c.in_default.ensures)
    (c.in_ok-merged.ensures ∙ ap₂ (λ (a p : Alternative). merge a.base p.current a.current settled) c.index-tree-i-2.is c.index-tree-j-2.is)
    (c.in_ok-count.ensures ∙ ap (λ (m : Map). length (delta shown m)) c.deref-2.ensures.value)
    c.in_ok-base.ensures
    c.rebase.ensures
