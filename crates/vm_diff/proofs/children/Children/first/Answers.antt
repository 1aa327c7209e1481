use Rattle.std.proofs.Common.{◌-◌, Some, sym, ap, ◌∙◌, arith}
use Rattle.vm_block.specs.declared.node.Child.{Child}
use Rattle.vm_block.specs.Row.{node_row}
use Rattle.vm_block.proofs.RowLemmas.{row_child}
use Rattle.vm_diff.specs.Ahead.{first_child}
use Rattle.vm_diff.proofs.RowLemmas.{children_none, children_some}
use Rattle.vm_diff.proofs.children.Children.first.Goals as goal

pub returns-then-self : goal.returns-then-self
returns-then-self c =
    let s = c.self.inside in
    ap (λ (d : Child). Some d) (sym (row_child (node_row s.bytes s.at) c.child_at.result c.child_at.ensures.fits c.child_at.ensures.spelled))
    ∙ ap first_child (sym (children_some s.bytes s.at (s.count - s.at) (omega (arith, c.if-self.true))) ∙ c.self.view_is)

pub returns-else-self : goal.returns-else-self
returns-else-self c =
    let s = c.self.inside in
    ap first_child (sym (children_none s.bytes s.at (s.count - s.at) (omega (arith, c.if-self.false))) ∙ c.self.view_is)
