use Rattle.std.proofs.Common.{◌≡◌, ◌+◌, ◌-◌, List, [], drop, sym, ap, ◌∙◌, arith}
use Rattle.vm_block.specs.declared.node.Child.{Child}
use Rattle.vm_diff.proofs.RowLemmas.{children_none, children_past}
use Rattle.vm_diff.proofs.children.Children.pass.Goals as goal

pub returns-then-self : goal.returns-then-self
returns-then-self c =
    let s = c.self.inside in
    children_past s.bytes s.at (s.count - (s.at + 1)) (s.count - s.at) (omega (arith, c.if-self.true)) ∙ ap (λ (xs : List Child). drop 1 xs) c.self.view_is

pub returns-else-self : goal.returns-else-self
returns-else-self c =
    let s = c.self.inside in
    let none : [] ≡ c.args.self.now = sym (children_none s.bytes s.at (s.count - s.at) (omega (arith, c.if-self.false))) ∙ c.self.view_is in
    sym none ∙ ap (λ (xs : List Child). drop 1 xs) none
