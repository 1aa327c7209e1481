use Rattle.std.proofs.Common.{◌-◌}
use Rattle.vm_tree.proofs.ChildrenLeft.{Scans}
use Rattle.vm_tree.proofs.ranges.+scan_below.Given as goal

abbrev pub decreases-scan_below : goal.decreases-scan_below
decreases-scan_below g l = l.level

-- what is under the children so far was gone through
abbrev pub invariant-loop-i : goal.invariant-loop-i
invariant-loop-i g l =
    Scans (g.D.Disk.state l.initial.disk) (g.D.Disk.state l.disk) l.blocks (l.level - 1) l.window l.children l.i l.initial.into l.into
