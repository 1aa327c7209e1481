use Rattle.std.proofs.Common.{◌≡◌, take}
use Rattle.vm_cli.specs.lines.Settlements.{for_others}
use Rattle.vm_cli.proofs.lines.settlement.for_others.Given as goal

-- the settlements of the conflicts so far
abbrev pub invariant-loop-i : goal.invariant-loop-i
invariant-loop-i l = l.others.items ≡ for_others l.fn.side l.fn.settled (take l.i l.fn.conflicts)
