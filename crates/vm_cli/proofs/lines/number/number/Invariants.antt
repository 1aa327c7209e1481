use Rattle.std.proofs.Common.{◌≡◌, ◌<◌, ◌^◌, drop}
use Rattle.vm_cli.specs.lines.Numbers.{digits_after}
use Rattle.vm_cli.proofs.lines.number.number.Given as goal

-- the digits so far are in the number
abbrev pub invariant-loop-digit : goal.invariant-loop-digit
invariant-loop-digit l = record {
  value : digits_after l.number (drop l.digit-index l.word) ≡ digits_after 0 l.word;
  small : l.number < 10 ^ l.digit-index;
}
