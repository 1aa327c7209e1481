use Rattle.std.proofs.Common.{◌↔◌, drop}
use Rattle.vm_types.specs.Places.{RisesFrom}
use Rattle.vm_block.specs.Node.{lows}
use Rattle.vm_block.proofs.node.are_rising.Given as goal

abbrev pub invariant-loop-child : goal.invariant-loop-child
invariant-loop-child l = RisesFrom 0 (lows l.children) ↔ RisesFrom l.low (lows (drop l.child-index l.children))
