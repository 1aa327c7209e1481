use Rattle.std.proofs.Common.{◌≡◌, ◌++◌, replicate}
use Rattle.vm_cli.proofs.program.branches.push_right.Given as goal

-- the spaces so far
abbrev pub invariant-loop : goal.invariant-loop
invariant-loop l = l.text.items ≡ l.initial.text.items ++ replicate l.counter 32
