use Rattle.std.proofs.Common.{◌+◌, ◌-◌, ◌≤◌, List, length, ap, subst, arith}
use Rattle.std.proofs.lemmas.Bool.{ltb-true}
use Rattle.vm_block.specs.declared.node.Child.{Child}
use Rattle.vm_diff.specs.Ahead.{PassedBoth}
use Rattle.vm_diff.specs.Rows.{children_from}
use Rattle.vm_diff.proofs.RowLemmas.{children_count, children_passed}
use Rattle.vm_diff.proofs.children.Children.pass_shared.Goals as goal
use Rattle.vm_diff.proofs.children.Children.pass_shared.Goals.{then-here-there, else-here-there}

pub returns-clause-passed : goal.returns-clause-passed
returns-clause-passed c =
    let s = c.self.inside in
    let o = c.other.inside in
    let n = c.shared_children-shared.result in
    let few : (c.if-here-there.most ≤ s.count - s.at) × (c.if-here-there.most ≤ o.count - o.at) = elim c.if-here-there.branch [ then-here-there w ↦ (omega arith, omega arith) | else-here-there w ↦ (omega arith, omega arith) ] in
    let p = children_passed s.bytes o.bytes s.at o.at (s.count - s.at) (s.count - (s.at + n)) (o.count - o.at) (o.count - (o.at + n)) n (omega (arith, few.0, c.shared_children-shared.ensures.most)) (omega (arith, few.1, c.shared_children-shared.ensures.most)) c.shared_children-shared.ensures.same in
    let q = subst (λ (ys : List Child). PassedBoth (children_from s.bytes s.at (s.count - s.at)) ys (children_from s.bytes (s.at + n) (s.count - (s.at + n))) (children_from o.bytes (o.at + n) (o.count - (o.at + n)))) c.other.view_is p in
    subst (λ (xs : List Child). PassedBoth xs c.args.other.now (children_from s.bytes (s.at + n) (s.count - (s.at + n))) (children_from o.bytes (o.at + n) (o.count - (o.at + n)))) c.self.view_is q

pub returns-clause-some : goal.returns-clause-some
returns-clause-some c some =
    let s = c.self.inside in
    let o = c.other.inside in
    let n = c.shared_children-shared.result in
    let few : c.if-here-there.most ≤ s.count - s.at = elim c.if-here-there.branch [ then-here-there w ↦ omega arith | else-here-there w ↦ omega arith ] in
    omega (
      arith,
      ltb-true 0 n some,
      few,
      c.shared_children-shared.ensures.most,
      children_count s.bytes (s.count - (s.at + n)) (s.at + n),
      children_count s.bytes (s.count - s.at) s.at,
      ap (λ (xs : List Child). length xs) c.self.view_is,
    )
