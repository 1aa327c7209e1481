use Rattle.std.proofs.Common.{◌≡◌}
use Rattle.vm_sums.specs.Hash.{lanes_after}
use Rattle.vm_sums.proofs.xxh64.taken_in.Given as goal

abbrev pub invariant-loop-stripe : goal.invariant-loop-stripe
invariant-loop-stripe l = l.lanes ≡ lanes_after l.bytes l.stripe
