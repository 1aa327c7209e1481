use Rattle.std.proofs.Common.{◌+◌}
use Rattle.vm_types.specs.Places.{place}
use Rattle.vm_diff.specs.Walk.{size}
use Rattle.vm_diff.proofs.CompareLemmas.{Compares}
use Rattle.vm_diff.proofs.comparison.changed_between.Given as goal

abbrev pub decreases-steps : goal.decreases-steps
decreases-steps g l = size l.one + size l.other

-- the differences so far are there
abbrev pub invariant-steps : goal.invariant-steps
invariant-steps g l =
    Compares (g.D.Disk.state l.initial.disk) (g.D.Disk.state l.disk) l.blocks (place l.part.low) (place l.part.high) l.initial.one l.initial.other l.one l.other l.changes
