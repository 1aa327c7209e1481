use Rattle.std.proofs.Common.{◌≡◌, drop}
use Rattle.vm_diff.specs.Ahead.{tops_in}
use Rattle.vm_diff.proofs.cursor.next_top.Given as goal

-- no subtree stands at the levels so far
abbrev pub invariant-levels : goal.invariant-levels
invariant-levels l = tops_in 0 l.levels ≡ tops_in l.level (drop l.level l.levels)
