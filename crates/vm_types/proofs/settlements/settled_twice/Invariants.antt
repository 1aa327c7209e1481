use Rattle.std.proofs.Common.{◌≡◌, [], map, take, drop}
use Rattle.vm_types.specs.Step.{first_repeated}
use Rattle.vm_types.proofs.settlements.settled_twice.Given as goal

-- no key so far repeats an earlier one
abbrev pub invariant-loop-i : goal.invariant-loop-i
invariant-loop-i l = first_repeated [] (map (λ e. e.0) l.settled) ≡ first_repeated (map (λ e. e.0) (take l.i l.settled)) (map (λ e. e.0) (drop l.i l.settled))
