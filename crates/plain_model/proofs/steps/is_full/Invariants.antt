use Rattle.std.proofs.Common.{◌≡◌, ◌<◌, ◌+◌, take}
use Rattle.vm_types.specs.Tree.{entry_count}
use Rattle.plain_model.proofs.steps.is_full.Given as goal

-- the entries so far, and those that are left, make 511
abbrev pub invariant-loop-alternative : goal.invariant-loop-alternative
invariant-loop-alternative l = record { count : entry_count (take l.alternative-index l.tree) + l.left ≡ 511; some : 0 < l.left }
