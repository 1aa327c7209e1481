use Rattle.std.proofs.Common.{◌≡◌, ◌∙◌, ◌-◌, suc, length, refl, sym, ap, subst, arith, rules}
use Rattle.vm_disk.specs.Disk.{Contents, Medium, block}
use Rattle.vm_disk.proofs.MomentLemmas.{same_medium}
use Rattle.vm_block.specs.Node.{IsNode}
use Rattle.vm_tree.specs.Given.{AddsUnder}
use Rattle.vm_tree.specs.Spent.{ReadsUnder}
use Rattle.vm_tree.specs.Windows.{GivesNone, MayGive}
use Rattle.vm_tree.proofs.ChildrenLeft.{child_bounded, child_failed, children_begin, scans_end, scans_more, scans_passed}
use Rattle.vm_tree.proofs.Looking.{looks_none, looks_on, looks_once, passed_on}
use Rattle.vm_tree.proofs.OverLemmas.{node_costs, node_over, top_costs}
use Rattle.vm_tree.proofs.ScanLemmas.{device_lists}
use Rattle.vm_tree.proofs.ranges.+scan_below.Goals as goal
use Rattle.vm_tree.proofs.ranges.+scan_below.Goals.{then-enters+in_ok-scan_below, else-enters}

pub returns-then-level-eq0-clause-added : goal.returns-then-level-eq0-clause-added
returns-then-level-eq0-clause-added g t c =
    subst (λ l. AddsUnder c.scan_leaf.result (g.D.Disk.state c.args.disk.now) (g.D.Disk.state c.scan_leaf.new.disk) c.args.blocks l c.args.top c.args.window c.args.into.now c.scan_leaf.new.into) (sym c.if-level-eq0.true) c.scan_leaf.ensures.added

pub returns-then-level-eq0-clause-bound : goal.returns-then-level-eq0-clause-bound
returns-then-level-eq0-clause-bound g t c =
    subst (λ l. ReadsUnder (g.D.Disk.state c.args.disk.now) (g.D.Disk.state c.scan_leaf.new.disk) c.args.blocks l c.args.top c.args.window (length c.args.into.now)) (sym c.if-level-eq0.true) c.scan_leaf.ensures.bound

pub returns-in_err-node-clause-added : goal.returns-in_err-node-clause-added
returns-in_err-node-clause-added g t c honest sizes x same rs bs tree begins rises =
    let up : c.args.level ≡ suc (c.args.level - 1) = omega (arith, c.if-level-eq0.false) in
    let at = node_over sizes x c.args.blocks c.args.level (c.args.level - 1) c.args.top.block rs bs up tree in
    let node = subst (λ (y : Contents). IsNode (block y c.args.top.block) c.args.level at.children) (sym same) at.node in
    rw (passed_on _ c.from_residual.ensures.1) (device_lists _ _ (c.in_err-node.ensures.only honest at.children (record { inside = at.place; node = node })))

pub returns-in_err-node-clause-bound : goal.returns-in_err-node-clause-bound
returns-in_err-node-clause-bound g t c honest sizes x same rs bs tree begins rises more reached test pass =
    top_costs sizes x c.args.blocks c.args.level c.args.top.block rs bs tree c.args.window (length c.args.into.now) c.args.top.low begins more reached test pass
    (g.D.Disk.state c.args.disk.now).reads (g.D.Disk.state c.node_at.new.disk).reads (g.D.Disk.state c.node_at.new.disk).reads c.in_err-node.ensures.looks.once.most (omega arith)

pub loop-i-init : goal.loop-i-init
loop-i-init g t c = record {
  looks = looks_none _ (λ failed. cc);
  left = λ honest sizes x same rs under tree rises.
      children_begin sizes x c.args.blocks (c.args.level - 1) c.args.window c.as_slice-children.result.now rs under tree c.args.into.now (g.D.Disk.state c.node_at.new.disk).reads rises (g.D.Disk.state c.node_at.new.disk).reads (omega arith);
}

pub loop-i-preserved : goal.loop-i-preserved
loop-i-preserved g t c =
    elim c.if-enters.branch [
      | then-enters+in_ok-scan_below w ↦ rw (w.disk-is, w.into-is) (scans_more (g.D.Disk.state c.node_at.new.disk) (g.D.Disk.state c.loop-i.disk) c.args.blocks (c.args.level - 1) c.args.window c.as_slice-children.result.now c.loop-i.i c.args.into.now c.loop-i.into (record { low = record { table = 0; number = 0 }; block = 0 }) c.loop-i.invariant c.loop-i-test.true
          (g.D.Disk.state w.scan_below.new.disk) w.scan_below.new.into (subst (λ n. MayGive c.args.window n c.as_slice-children.result.now c.loop-i.i) c.len.ensures (c.enters.ensures.entered w.if-enters.true)) w.in_ok-scan_below.ensures.looks w.in_ok-scan_below.ensures.added w.in_ok-scan_below.ensures.bound)
      | else-enters w ↦ rw (w.disk-is, w.into-is) (scans_passed (g.D.Disk.state c.node_at.new.disk) (g.D.Disk.state c.loop-i.disk) c.args.blocks (c.args.level - 1) c.args.window c.as_slice-children.result.now c.loop-i.i c.args.into.now c.loop-i.into (record { low = record { table = 0; number = 0 }; block = 0 }) c.loop-i.invariant c.loop-i-test.true
          (subst (λ n. GivesNone c.args.window n c.as_slice-children.result.now c.loop-i.i) c.len.ensures (c.enters.ensures.passed w.if-enters.false)))
    ]

pub returns-in_err-scan_below-clause-looks : goal.returns-in_err-scan_below-clause-looks
returns-in_err-scan_below-clause-looks g t c = looks_on (looks_on (looks_once c.in_ok-node.ensures.looks) c.loop-i.invariant.looks (λ is. is)) c.scan_below.ensures.looks (search rules)

pub returns-in_err-scan_below-clause-added : goal.returns-in_err-scan_below-clause-added
returns-in_err-scan_below-clause-added g t c honest sizes x same rs bs tree begins rises =
    let up : c.args.level ≡ suc (c.args.level - 1) = omega (arith, c.if-level-eq0.false) in
    let at = node_over sizes x c.args.blocks c.args.level (c.args.level - 1) c.args.top.block rs bs up tree in
    let node = subst (λ (y : Contents). IsNode (block y c.args.top.block) c.args.level at.children) (sym same) at.node in
    let mid = c.scan_below.ensures.looks.goes.earlier honest in
    let early = c.loop-i.invariant.looks.goes.earlier mid in
    let read : c.as_slice-children.result.now ≡ at.children = c.as_slice-children.ensures.value ∙ c.in_ok-node.ensures.only early at.children (record { inside = at.place; node = node }) in
    let still = ap (λ (m : Medium). m.contents) (same_medium _ _ (c.in_ok-node.ensures.looks.reads early)) ∙ same in
    rw (passed_on _ c.from_residual-in_err-scan_below.ensures.1) (child_failed sizes x (g.D.Disk.state c.node_at.new.disk) (g.D.Disk.state c.loop-i.disk) c.args.blocks (c.args.level - 1) c.args.window c.as_slice-children.result.now at.children read c.loop-i.i c.args.into.now c.loop-i.into c.loop-i.invariant
    still rs at.under at.below rises
    (record { low = record { table = 0; number = 0 }; block = 0 }) c.loop-i-test.true (g.D.Disk.state c.scan_below.new.disk) honest mid {U = Unit {0}} c.in_err-scan_below.field-0.0 c.scan_below.new.into _ c.in_err-scan_below.ensures.added)

pub returns-in_err-scan_below-clause-bound : goal.returns-in_err-scan_below-clause-bound
returns-in_err-scan_below-clause-bound g t c honest sizes x same rs bs tree begins rises more reached test pass =
    let up : c.args.level ≡ suc (c.args.level - 1) = omega (arith, c.if-level-eq0.false) in
    let at = node_over sizes x c.args.blocks c.args.level (c.args.level - 1) c.args.top.block rs bs up tree in
    let node = subst (λ (y : Contents). IsNode (block y c.args.top.block) c.args.level at.children) (sym same) at.node in
    let mid = c.scan_below.ensures.looks.goes.earlier honest in
    let early = c.loop-i.invariant.looks.goes.earlier mid in
    let read : c.as_slice-children.result.now ≡ at.children = c.as_slice-children.ensures.value ∙ c.in_ok-node.ensures.only early at.children (record { inside = at.place; node = node }) in
    let still = ap (λ (m : Medium). m.contents) (same_medium _ _ (c.in_ok-node.ensures.looks.reads early)) ∙ same in
    let few = child_bounded sizes x (g.D.Disk.state c.node_at.new.disk) (g.D.Disk.state c.loop-i.disk) c.args.blocks (c.args.level - 1) c.args.window c.as_slice-children.result.now at.children read c.loop-i.i c.args.into.now c.loop-i.into c.loop-i.invariant
    still rs at.under at.below rises
    (record { low = record { table = 0; number = 0 }; block = 0 }) c.loop-i-test.true (g.D.Disk.state c.scan_below.new.disk) honest mid (subst (λ n. MayGive c.args.window n c.as_slice-children.result.now c.loop-i.i) c.len.ensures (c.if-enters.ensures.entered refl)) c.scan_below.ensures.bound test pass in
    node_costs sizes x c.args.blocks c.args.level c.args.top.block rs bs tree c.args.window (length c.args.into.now) c.args.top.low begins more reached test pass
    (g.D.Disk.state c.args.disk.now).reads (g.D.Disk.state c.node_at.new.disk).reads (g.D.Disk.state c.scan_below.new.disk).reads c.in_ok-node.ensures.looks.once.most (omega (arith, c.if-level-eq0.false)) at few

pub returns-clause-looks : goal.returns-clause-looks
returns-clause-looks g t c = looks_on (looks_once c.in_ok-node.ensures.looks) c.loop-i.invariant.looks (λ is. cc)

pub returns-clause-added : goal.returns-clause-added
returns-clause-added g t c honest sizes x same rs bs tree begins rises =
    let up : c.args.level ≡ suc (c.args.level - 1) = omega (arith, c.if-level-eq0.false) in
    let at = node_over sizes x c.args.blocks c.args.level (c.args.level - 1) c.args.top.block rs bs up tree in
    let node = subst (λ (y : Contents). IsNode (block y c.args.top.block) c.args.level at.children) (sym same) at.node in
    let early = c.loop-i.invariant.looks.goes.earlier honest in
    let read : c.as_slice-children.result.now ≡ at.children = c.as_slice-children.ensures.value ∙ c.in_ok-node.ensures.only early at.children (record { inside = at.place; node = node }) in
    let still = ap (λ (m : Medium). m.contents) (same_medium _ _ (c.in_ok-node.ensures.looks.reads early)) ∙ same in
    (scans_end sizes x (g.D.Disk.state c.node_at.new.disk) (g.D.Disk.state c.loop-i.disk) c.args.blocks (c.args.level - 1) c.args.window c.as_slice-children.result.now at.children read c.loop-i.i c.args.into.now c.loop-i.into c.loop-i.invariant
    still rs at.under at.below rises c.loop-i-test.false honest).0

pub returns-clause-bound : goal.returns-clause-bound
returns-clause-bound g t c honest sizes x same rs bs tree begins rises more reached test pass =
    let up : c.args.level ≡ suc (c.args.level - 1) = omega (arith, c.if-level-eq0.false) in
    let at = node_over sizes x c.args.blocks c.args.level (c.args.level - 1) c.args.top.block rs bs up tree in
    let node = subst (λ (y : Contents). IsNode (block y c.args.top.block) c.args.level at.children) (sym same) at.node in
    let early = c.loop-i.invariant.looks.goes.earlier honest in
    let read : c.as_slice-children.result.now ≡ at.children = c.as_slice-children.ensures.value ∙ c.in_ok-node.ensures.only early at.children (record { inside = at.place; node = node }) in
    let still = ap (λ (m : Medium). m.contents) (same_medium _ _ (c.in_ok-node.ensures.looks.reads early)) ∙ same in
    let few = (scans_end sizes x (g.D.Disk.state c.node_at.new.disk) (g.D.Disk.state c.loop-i.disk) c.args.blocks (c.args.level - 1) c.args.window c.as_slice-children.result.now at.children read c.loop-i.i c.args.into.now c.loop-i.into c.loop-i.invariant
    still rs at.under at.below rises c.loop-i-test.false honest).1 test pass in
    node_costs sizes x c.args.blocks c.args.level c.args.top.block rs bs tree c.args.window (length c.args.into.now) c.args.top.low begins more reached test pass
    (g.D.Disk.state c.args.disk.now).reads (g.D.Disk.state c.node_at.new.disk).reads (g.D.Disk.state c.loop-i.disk).reads c.in_ok-node.ensures.looks.once.most (omega (arith, c.if-level-eq0.false)) at few
