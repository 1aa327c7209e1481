use Rattle.std.proofs.Common.{◌≡◌, ◌+◌, ◌<◌, ◌^◌, length}
use Rattle.vm_cli.specs.lines.Spaces.{words_of}
use Rattle.vm_cli.proofs.lines.mistake.count.Given as goal

-- the words so far, and those that are left, are those of the line
abbrev pub invariant-loop-after : goal.invariant-loop-after
invariant-loop-after l = record {
  all : l.count + length (words_of l.rest) ≡ length (words_of l.fn.line);
  few : length (words_of l.fn.line) < 2 ^ 63;
}

abbrev pub decreases-loop-after : goal.decreases-loop-after
decreases-loop-after l = length (words_of l.rest)
