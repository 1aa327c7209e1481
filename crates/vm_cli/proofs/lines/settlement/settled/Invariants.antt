use Rattle.std.proofs.Common.{◌≡◌, length}
use Rattle.vm_cli.specs.lines.Settlements.{settled_of}
use Rattle.vm_cli.specs.lines.Spaces.{words_of}
use Rattle.vm_cli.proofs.Settlements.{followed}
use Rattle.vm_cli.proofs.lines.settlement.settled.Given as goal

-- the settlements so far, and the words that are left
abbrev pub invariant-loop-word : goal.invariant-loop-word
invariant-loop-word l = settled_of (words_of l.fn.line) ≡ followed l.sides.items (settled_of (words_of l.rest))

abbrev pub decreases-loop-word : goal.decreases-loop-word
decreases-loop-word l = length (words_of l.rest)
