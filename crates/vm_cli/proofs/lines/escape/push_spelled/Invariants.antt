use Rattle.std.proofs.Common.{◌≡◌, ◌++◌, ◌≤◌, ◌+◌, ◌*◌, ◌<◌, ℕ, get_or, length, take}
use Rattle.vm_cli.specs.lines.Escapes.{escaped}
use Rattle.vm_cli.proofs.lines.escape.push_spelled.Given as goal

-- the bytes so far are written
abbrev pub invariant-loop-byte : goal.invariant-loop-byte
invariant-loop-byte l = record {
  written : l.text ≡ l.fn.text ++ escaped (take l.byte-index l.bytes);
  short : length l.text ≤ length l.fn.text + 3 * l.byte-index;
  small : (i : ℕ) → i < l.byte-index → get_or l.bytes i 0 < 256;
}
