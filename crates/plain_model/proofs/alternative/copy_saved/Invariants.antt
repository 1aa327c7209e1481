use Rattle.std.proofs.Common.{◌≡◌, take}
use Rattle.plain_model.proofs.alternative.copy_saved.Given as goal

-- the checkpoints so far are there
abbrev pub invariant-loop-checkpoint : goal.invariant-loop-checkpoint
invariant-loop-checkpoint l = l.copy.items ≡ take l.checkpoint-index l.saved
