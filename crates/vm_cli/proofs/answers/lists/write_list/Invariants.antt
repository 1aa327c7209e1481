use Rattle.std.proofs.Common.{take}
use Rattle.vm_cli.specs.answers.Carried.{Carries}
use Rattle.vm_cli.specs.session.Feeds.{joined}
use Rattle.vm_cli.proofs.answers.lists.write_list.Given as goal

-- the lines so far were written, but for the text
abbrev pub invariant-loop-i : goal.invariant-loop-i
invariant-loop-i g l =
    Carries (g.W.Write.contents l.fn.writer) (g.W.Write.contents l.writer) l.text (joined (take l.i (g.L.Listing.lines l.fn.list)))
