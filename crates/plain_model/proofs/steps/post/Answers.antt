use Rattle.std.proofs.Common.{ap₂, sym, ◌∙◌}
use Rattle.vm_types.specs.Map.{same_map}
use Rattle.vm_types.specs.Tree.{Alternative}
use Rattle.plain_model.proofs.Merging.{post_here}
use Rattle.plain_model.proofs.steps.post.Goals as goal

pub returns-clause-ok : goal.returns-clause-ok
returns-clause-ok c =
    post_here c.in-Ok.ensures.places c.in_ok-current.current.items c.in_ok-base.base.items c.set_current.new.self c.set_base.new.self
    c.index-tree-i.result c.index-tree-i-2.result c.index-tree-i-3.result c.index-tree-i-4.result c.index-tree-j.result c.index-tree-j-2.result
    (sym (ap₂ (λ (a p : Alternative). same_map a.base p.current) c.index-tree-i.is c.index-tree-j.is) ∙ sym c.is_merged.ensures ∙ c.if-not-is_merged.false)
    c.in_ok-current.ensures
    c.in_ok-base.ensures
    c.set_current.ensures
    c.set_base.ensures
