use Rattle.std.proofs.Common.{◌∙◌, take, ap, sym, arith}
use Rattle.std.proofs.lemmas.Bool.{false≢true}
use Rattle.vm_disk.specs.Disk.{Medium, block}
use Rattle.vm_disk.proofs.MomentLemmas.{same_medium}
use Rattle.vm_tree.specs.Tree.{Subtree}
use Rattle.vm_tree.specs.Root.{sizes_of}
use Rattle.vm_tree.proofs.Looking.{passed_on, within_on}
use Rattle.vm_tree.proofs.Descent.{node_read, subtree_top}
use Rattle.vm_tree.proofs.RemoveLemmas.{alone_opens, two_children, sole, narrows_here, narrows_down}
use Rattle.vm_tree.proofs.removal.+narrowed.Goals as goal

pub returns-then-not-is_data-clause-narrow : goal.returns-then-not-is_data-clause-narrow
returns-then-not-is_data-clause-narrow g t c honest levels rs bs under =
    let sizes = sizes_of g.row.FAN levels in
    let alone = alone_opens (Subtree sizes (g.D.Disk.state c.args.disk.now).now.contents c.args.blocks c.args.level) c.args.top rs bs under in
    let inside = subtree_top sizes _ c.args.blocks c.args.level c.args.top.block rs bs alone.0 in
    absurd (false≢true (sym c.if-not-is_data.true ∙ c.is_data.ensures.1 (omega (arith, inside.0), omega (arith, inside.1))))

pub returns-then-level-eq0-clause-narrow : goal.returns-then-level-eq0-clause-narrow
returns-then-level-eq0-clause-narrow g t c honest levels rs bs under =
    narrows_here (sizes_of g.row.FAN levels) _ _ c.args.level c.args.top c.root_at.result rs bs (c.root_at.ensures ∙ ap (λ l. record { block = c.args.top.block; level = l; low = c.args.top.low }) (sym c.if-level-eq0.true)) under

pub returns-then-way-eq1-clause-narrow : goal.returns-then-way-eq1-clause-narrow
returns-then-way-eq1-clause-narrow g t c honest levels rs bs under =
    narrows_down (sizes_of g.row.FAN levels) (g.D.Disk.state c.args.disk.now).now _ _ c.args.level c.args.top c.in_ok-way.way.child rs bs c.narrowed.result
    (same_medium _ _ (c.in_ok-way.ensures.looks.reads (c.narrowed.ensures.looks.goes.earlier honest))) (omega (arith, c.if-level-eq0.false)) under
    (λ ds at lowest few. let way = c.in_ok-way.ensures.only (c.narrowed.ensures.looks.goes.earlier honest) ds at lowest few in
    sole ds _ c.in_ok-way.way.index c.in_ok-way.way.child (omega (arith, way.1, c.if-way-eq1.true)) (omega (arith, c.in_ok-way.ensures.way.within.0, c.if-way-eq1.true)) way.2)
    (λ below there. c.narrowed.ensures.narrow honest levels rs below there)

pub returns-else-way-eq1-clause-narrow : goal.returns-else-way-eq1-clause-narrow
returns-else-way-eq1-clause-narrow g t c honest levels rs bs under =
    narrows_here (sizes_of g.row.FAN levels) _ _ c.args.level c.args.top c.root_at-else-way-eq1.result rs bs c.root_at-else-way-eq1.ensures under

pub returns-in_err-way-clause-narrow : goal.returns-in_err-way-clause-narrow
returns-in_err-way-clause-narrow g t c honest levels rs bs under =
    let sizes = sizes_of g.row.FAN levels in
    let alone = alone_opens (Subtree sizes (g.D.Disk.state c.args.disk.now).now.contents c.args.blocks c.args.level) c.args.top rs bs under in
    let at = node_read sizes _ _ _ _ rs bs (omega (arith, c.if-level-eq0.false)) alone.0 in
    rw (passed_on _ c.from_residual.ensures.1) (c.in_err-way.ensures.only honest at.0 at.1 (at.3 c.args.top.low alone.1) at.2)

pub returns-then-way-eq1-clause-looks : goal.returns-then-way-eq1-clause-looks
returns-then-way-eq1-clause-looks g t c = within_on c.in_ok-way.ensures.looks c.narrowed.ensures.looks (λ is. is) (omega (arith, c.if-level-eq0.false))

pub returns-else-way-eq1-clause-wide : goal.returns-else-way-eq1-clause-wide
returns-else-way-eq1-clause-wide g t c honest up k cs node =
    let there = ap (λ (m : Medium). block m.contents c.args.top.block) (same_medium _ _ (c.in_ok-way.ensures.looks.reads honest)) ∙ sym (c.in_ok-way.ensures.found honest).bytes_are in
    let head = c.in_ok-way.ensures.way.head in
    two_children (ap (take 16) there ∙ head.begins) (omega (arith, head.low)) (omega (arith, c.in_ok-way.ensures.way.within.0, c.if-way-eq1.false)) (omega (arith, head.few)) (rw c.root_at-else-way-eq1.ensures at node)
