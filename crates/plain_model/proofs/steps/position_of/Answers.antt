use Rattle.std.proofs.Common.{Bool, sym, ap, ◌∙◌, arith}
use Rattle.std.specs.Prelude.{bytes_eq}
use Rattle.vm_types.specs.Tree.{Alternative}
use Rattle.vm_types.proofs.FirstsLemmas.{IsFirst-at}
use Rattle.plain_model.proofs.Finding.{find_none}
use Rattle.plain_model.proofs.steps.position_of.Goals as goal

pub returns-then-is_named-clause-found : goal.returns-then-is_named-clause-found
returns-then-is_named-clause-found c =
    let test : Alternative → Bool = λ (a : Alternative). bytes_eq a.name c.args.name.now in
    let e = c.index-tree-i.result in
    IsFirst-at test c.args.tree.now c.loop-i.i e c.loop-i-test.true (ap test (sym c.index-tree-i.is) ∙ sym c.is_named.ensures ∙ c.if-is_named.true) (λ k lt. c.loop-i.invariant k e lt)

pub returns-clause-none : goal.returns-clause-none
returns-clause-none c = find_none (λ (a : Alternative). bytes_eq a.name c.args.name.now) c.args.tree.now (λ k d lt. c.loop-i.invariant k d (omega arith))
