use Rattle.std.proofs.Common.{length, take, flat_map}
use Rattle.std.specs.List.{range_with_len}
use Rattle.std.specs.Io.KnownBytes.{Appends}
use Rattle.vm_cli.specs.program.Exits.{name_text}
use Rattle.vm_cli.proofs.program.damage.name_others.Given as goal

-- the blocks so far were named
abbrev pub invariant-loop-n : goal.invariant-loop-n
invariant-loop-n g l =
    Appends (g.F.Write.contents l.fn.errors) (g.F.Write.contents l.errors) (flat_map (λ k. name_text l.told l.damaged k) (take l.n (range_with_len 0 (length l.damaged))))
