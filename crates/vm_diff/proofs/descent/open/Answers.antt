use Rattle.std.proofs.Common.{arith}
use Rattle.vm_types.specs.Places.{place}
use Rattle.vm_diff.proofs.OpenLemmas.{leaf_opening, leaf_opening_falls, node_opening, node_opening_falls}
use Rattle.vm_diff.proofs.descent.open.Goals as goal

pub returns-then-top-eq0-clause-falls : goal.returns-then-top-eq0-clause-falls
returns-then-top-eq0-clause-falls g c =
    leaf_opening_falls c.args.walk.now c.open_leaf.new.self c.args.top c.open_leaf.result c.requires.front c.if-top-eq0.true c.open_leaf.ensures.few

pub returns-then-top-eq0-clause-opens : goal.returns-then-top-eq0-clause-opens
returns-then-top-eq0-clause-opens g c honest sizes rs bs ahead rising is_in =
    leaf_opening (place c.args.part.low) (place c.args.part.high) sizes (g.D.Disk.state c.args.disk.now).now.contents c.args.blocks c.args.walk.now c.open_leaf.new.self c.args.top rs bs c.requires.front ahead rising is_in c.open_leaf.result c.if-top-eq0.true (c.open_leaf.ensures.only honest)

pub returns-else-top-eq0-clause-falls : goal.returns-else-top-eq0-clause-falls
returns-else-top-eq0-clause-falls g c =
    node_opening_falls c.args.walk.now c.open_node.new.self c.args.top c.open_node.result c.requires.front (omega (arith, c.if-top-eq0.false)) c.open_node.ensures.few

pub returns-else-top-eq0-clause-opens : goal.returns-else-top-eq0-clause-opens
returns-else-top-eq0-clause-opens g c honest sizes rs bs ahead rising is_in =
    node_opening (place c.args.part.low) (place c.args.part.high) sizes (g.D.Disk.state c.args.disk.now).now.contents c.args.blocks c.args.walk.now c.open_node.new.self c.args.top rs bs c.requires.front ahead rising is_in c.open_node.result (omega (arith, c.if-top-eq0.false)) (c.open_node.ensures.only honest)
