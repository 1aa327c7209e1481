use Rattle.std.proofs.Common.{◌≡◌, is_some, ap, sym, ◌∙◌, inl, inr, subst, arith}
use Rattle.vm_types.specs.Map.{Map, get}
use Rattle.vm_types.specs.Places.{KeyFits, place, value_at}
use Rattle.vm_disk.specs.Disk.{Medium}
use Rattle.vm_disk.proofs.MomentLemmas.{same_medium}
use Rattle.vm_tree.specs.BlockReads.{EndsAt}
use Rattle.vm_tree.proofs.Descent.{leaf_now, ok_map, subtree_top, value_whole}
use Rattle.vm_tree.proofs.Leading.{if_ok_so}
use Rattle.vm_tree.proofs.Looking.{passed_on, within_on}
use Rattle.vm_tree.proofs.lookup.has.Goals as goal

pub returns-then-root-eq0-clause-found : goal.returns-then-root-eq0-clause-found
returns-then-root-eq0-clause-found g c sizes honest m bs (inl bare) = sym (ap (λ (n : Map). is_some (get n c.args.key)) bare.empty)
returns-then-root-eq0-clause-found g c sizes honest m bs (inr top) =
    let inside = subtree_top sizes _ _ _ _ m bs top.subtree in absurd (omega (arith, c.if-root-eq0.true, inside.0))

pub returns-in_err-leaf-clause-found : goal.returns-in_err-leaf-clause-found
returns-in_err-leaf-clause-found g c sizes honest m bs (inl bare) = absurd (c.if-root-eq0.false bare.none)
returns-in_err-leaf-clause-found g c sizes honest m bs (inr top) =
    rw (passed_on _ c.from_residual.ensures.1) (c.in_err-leaf.ensures.leaf sizes honest m bs top.subtree top.lowest top.rising)

pub returns-clause-looks : goal.returns-clause-looks
returns-clause-looks g c = within_on c.in_ok-leaf.ensures.looks c.has_in_leaf.ensures.looks (λ is. is) (omega arith)

pub returns-clause-found : goal.returns-clause-found
returns-clause-found g c sizes honest m bs (inl bare) = absurd (c.if-root-eq0.false bare.none)
returns-clause-found g c sizes honest m bs (inr top) =
    let earlier = c.has_in_leaf.ensures.looks.goes.earlier honest in
    let fits : KeyFits c.args.key = (omega arith, omega arith) in
    let leaf = leaf_now sizes _ _ _ _ _ _ (same_medium _ _ (c.in_ok-leaf.ensures.looks.reads earlier)) (c.in_ok-leaf.ensures.leaf sizes earlier m bs top.subtree top.lowest top.rising) in
    ok_map c.has_in_leaf.result (λ found. found ≡ is_some (value_at (place c.args.key) leaf.records)) (λ found. found ≡ is_some (get m c.args.key))
    (c.has_in_leaf.ensures.found sizes honest leaf.records leaf.blocks leaf.subtree leaf.begins leaf.rises)
    (λ found is. is ∙ ap is_some (leaf.same ∙ value_whole sizes _ _ _ _ m bs c.args.key fits top.subtree))

pub returns-clause-path : goal.returns-clause-path
returns-clause-path g c honest =
    let earlier = c.has_in_leaf.ensures.looks.goes.earlier honest in
    if_ok_so c.has_in_leaf.result _ _ (c.has_in_leaf.ensures.path honest)
    (λ ends some. c.in_ok-leaf.ensures.path earlier (subst (λ (m : Medium). EndsAt m.contents c.args.blocks c.in_ok-leaf.leaf.block c.in_ok-leaf.leaf.low) (same_medium _ _ (c.in_ok-leaf.ensures.looks.reads earlier)) ends))
