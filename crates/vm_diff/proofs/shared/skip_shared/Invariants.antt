use Rattle.std.proofs.Common.{◌+◌}
use Rattle.vm_diff.specs.Walk.{size}
use Rattle.vm_diff.proofs.SkipLemmas.{SkipsOn}
use Rattle.vm_diff.proofs.shared.skip_shared.Given as goal

abbrev pub decreases-shared : goal.decreases-shared
decreases-shared l = size l.one + size l.other

-- what differs is as it was
abbrev pub invariant-shared : goal.invariant-shared
invariant-shared l = SkipsOn l.fn.one l.fn.other l.one l.other
