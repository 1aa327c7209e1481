use Rattle.std.proofs.Common.{◌≡◌, length}
use Rattle.vm_cli.specs.lines.Pieces.{without_spaces}
use Rattle.vm_cli.proofs.lines.pieces.skip_spaces.Given as goal

-- only spaces so far
abbrev pub invariant-loop-rest : goal.invariant-loop-rest
invariant-loop-rest l = without_spaces l.fn.line ≡ without_spaces l.rest

abbrev pub decreases-loop-rest : goal.decreases-loop-rest
decreases-loop-rest l = length l.rest
