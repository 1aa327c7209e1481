use Rattle.std.proofs.Common.{◌≡◌, ◌+◌, drop}
use Rattle.vm_alloc.specs.Held.{free_count}
use Rattle.vm_alloc.proofs.flags.Flags.count_clear.Given as goal

abbrev pub invariant-loop-n : goal.invariant-loop-n
invariant-loop-n l = l.clear + free_count (drop l.n l.self) ≡ free_count (drop l.fn.from l.self)
