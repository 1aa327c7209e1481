use Rattle.vm_cli.specs.answers.Carried.{GainsBut}
use Rattle.vm_cli.specs.answers.Replies.{reply_text}
use Rattle.vm_cli.specs.session.Streams.{repeated}
use Rattle.vm_cli.proofs.answers.repeated.put_repeated.Given as goal

-- the lines so far are written, except those in the text
abbrev pub invariant-loop : goal.invariant-loop
invariant-loop g l = GainsBut g.W.Write.contents l.text (repeated l.counter (reply_text l.reply)) l.fn.writer l.writer
