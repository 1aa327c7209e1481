use Rattle.std.proofs.Common.{◌≡◌, ◌++◌, flat_map, take}
use Rattle.vm_cli.specs.program.Branches.{checkpoint_line}
use Rattle.vm_cli.proofs.program.branches.push_checkpoints.Given as goal

-- the lines so far
abbrev pub invariant-loop-name : goal.invariant-loop-name
invariant-loop-name l = l.text.items ≡ l.initial.text.items ++ flat_map (checkpoint_line l.stems) (take l.name-index l.names)
