use Rattle.std.proofs.Common.{◌≡◌, ◌+◌, ◌<◌, ◌^◌, length}
use Rattle.vm_cli.specs.lines.Mistakes.{first_wrong, kinds_of}
use Rattle.vm_cli.specs.lines.Spaces.{words_of}
use Rattle.vm_cli.proofs.lines.mistake.wrong_word.Given as goal

-- the words so far are of their kinds
abbrev pub invariant-loop-word : goal.invariant-loop-word
invariant-loop-word l = record {
  wrong : first_wrong l.fn.form l.place l.kinds (words_of l.rest) ≡ first_wrong l.fn.form 2 (kinds_of l.fn.form) (words_of l.fn.words);
  all : l.place + length (words_of l.rest) ≡ 2 + length (words_of l.fn.words);
  few : length (words_of l.fn.words) < 2 ^ 63;
}

abbrev pub decreases-loop-word : goal.decreases-loop-word
decreases-loop-word l = length (words_of l.rest)
