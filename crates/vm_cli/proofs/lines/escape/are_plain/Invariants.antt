use Rattle.std.proofs.Common.{◌≡◌, true, take}
use Rattle.vm_cli.specs.lines.Escapes.{ArePlain}
use Rattle.vm_cli.proofs.lines.escape.are_plain.Given as goal

-- whether the bytes so far are written as themselves
abbrev pub invariant-loop-byte : goal.invariant-loop-byte
invariant-loop-byte l = l.plain ≡ true → ArePlain (take l.byte-index l.bytes)
