use Rattle.std.proofs.Common.{◌≡◌, ◌++◌, ◌≤◌, length, take, option_map}
use Rattle.vm_types.specs.Bytes.{longest}
use Rattle.vm_cli.specs.lines.Escapes.{unescaped}
use Rattle.vm_cli.proofs.lines.escape.value.Given as goal

-- the bytes so far, and those that the rest spells
abbrev pub invariant-loop-rest : goal.invariant-loop-rest
invariant-loop-rest l = record {
  spelled : unescaped l.fn.word ≡ option_map (λ more. take l.len l.room ++ more) (unescaped l.rest);
  few : l.len ≤ longest;
  held : length l.room ≡ 4096;
}

abbrev pub decreases-loop-rest : goal.decreases-loop-rest
decreases-loop-rest l = length l.rest
