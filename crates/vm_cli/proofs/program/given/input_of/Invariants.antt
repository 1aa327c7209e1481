use Rattle.std.proofs.Common.{◌≡◌, ◌++◌, ◌∷◌, [], flat_map, take}
use Rattle.vm_cli.proofs.program.given.input_of.Given as goal

-- the lines so far
abbrev pub invariant-loop-line : goal.invariant-loop-line
invariant-loop-line l = l.input.items ≡ flat_map (λ line. line.now ++ 10 ∷ []) (take l.line-index l.fn.lines)
