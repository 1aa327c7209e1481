use Rattle.std.proofs.Common.{ℕ, ◌<◌, List, Option, refl, subst, arith}
use Rattle.vm_types.specs.Places.{place, value_at}
use Rattle.vm_disk.specs.Disk.{Medium}
use Rattle.vm_disk.proofs.MomentLemmas.{same_medium}
use Rattle.vm_tree.specs.Answers.{OkOrDevice}
use Rattle.vm_tree.specs.Given.{IsLeafWith}
use Rattle.vm_tree.specs.Tree.{Subtree}
use Rattle.vm_tree.proofs.Looking.{passed_on, within_on}
use Rattle.vm_tree.proofs.Descent.{node_read, way_value}
use Rattle.vm_tree.proofs.Leading.{finds_leaf_on, leads_end}
use Rattle.vm_tree.proofs.lookup.+leaf_of.Goals as goal

pub returns-then-level-eq0-clause-path : goal.returns-then-level-eq0-clause-path
returns-then-level-eq0-clause-path g t c honest ends =
    leads_end _ _ c.args.blocks c.args.blocks c.args.level c.args.top.block c.args.top.low c.if-level-eq0.true refl ends

pub returns-then-level-eq0-clause-leaf : goal.returns-then-level-eq0-clause-leaf
returns-then-level-eq0-clause-leaf g t c sizes honest rs bs tree begins rises = record {
  records = rs;
  blocks = bs;
  subtree = subst (λ l. Subtree sizes (g.D.Disk.state c.args.disk.now).now.contents c.args.blocks l c.args.top.block rs bs) c.if-level-eq0.true tree;
  begins = begins;
  rises = rises;
  same = refl;
}

pub returns-in_err-way-clause-leaf : goal.returns-in_err-way-clause-leaf
returns-in_err-way-clause-leaf g t c sizes honest rs bs tree begins rises =
    let at = node_read sizes _ _ _ _ rs bs (omega (arith, c.if-level-eq0.false)) tree in
    rw (passed_on _ c.from_residual.ensures.1) (c.in_err-way.ensures.only honest at.0 at.1 (at.3 c.args.top.low begins) at.1.node.few)

pub returns-clause-looks : goal.returns-clause-looks
returns-clause-looks g t c = within_on c.in_ok-way.ensures.looks c.leaf_of.ensures.looks (λ is. is) (omega (arith, c.if-level-eq0.false, c.in_ok-way.ensures.way.low))

pub returns-clause-path : goal.returns-clause-path
returns-clause-path g t c honest =
    let earlier = c.leaf_of.ensures.looks.goes.earlier honest in
    finds_leaf_on c.leaf_of.result _ _ c.args.blocks c.args.level c.args.top.block c.args.top.low c.in_ok-way.way.child (omega (arith, c.if-level-eq0.false))
    (same_medium _ _ (c.in_ok-way.ensures.looks.reads earlier)) (c.in_ok-way.ensures.step earlier) (c.leaf_of.ensures.path honest)

pub returns-clause-leaf : goal.returns-clause-leaf
returns-clause-leaf g t c sizes honest rs bs tree begins rises =
    let p = place c.args.key in
    let limit = c.args.blocks in
    let old = (g.D.Disk.state c.args.disk.now).now in
    let mid = (g.D.Disk.state c.load_way.new.disk).now in
    let earlier = c.leaf_of.ensures.looks.goes.earlier honest in
    let above : 0 < c.args.level = omega (arith, c.if-level-eq0.false) in
    let at = node_read sizes _ _ _ _ rs bs above tree in
    let way = c.in_ok-way.ensures.only earlier at.0 at.1 (at.3 c.args.top.low begins) at.1.node.few in
    let still = same_medium _ _ (c.in_ok-way.ensures.looks.reads earlier) in
    subst (λ (m : Medium). OkOrDevice c.leaf_of.result (IsLeafWith sizes m.contents limit p (value_at p rs))) still
    (way_value (λ (value : Option (List ℕ)). IsLeafWith sizes mid.contents limit p value) sizes old mid limit c.args.level _ p rs bs at.0 _ _ c.leaf_of.result
    still above tree rises at.1 way.2 (c.leaf_of.ensures.leaf sizes honest))
