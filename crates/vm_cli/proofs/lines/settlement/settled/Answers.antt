use Rattle.std.proofs.Common.{◌≢◌, [], rules}
use Rattle.vm_cli.specs.lines.Settlements.{settled_of}
use Rattle.vm_cli.specs.lines.Spaces.{words_of}
use Rattle.vm_cli.proofs.Settlements.{followed-bad, followed-end, followed-next, followed-some, followed-start}
use Rattle.vm_cli.proofs.lines.settlement.settled.Goals as goal

pub loop-word-init : goal.loop-word-init
loop-word-init c = rw c.new-sides.ensures.items (followed-start (settled_of (words_of c.args.line.now)))

pub returns-in_default-settlement-clause-words : goal.returns-in_default-settlement-clause-words
returns-in_default-settlement-clause-words c =
    followed-bad _ c.loop-word.sides.items _ (words_of c.in-Some.after.now) c.in-Some.word.now c.loop-word.invariant c.in-Some.ensures.word c.in_default-settlement.ensures

pub returns-in_err-push-clause-memory : goal.returns-in_err-push-clause-memory
returns-in_err-push-clause-memory c =
    let some : words_of c.args.line.now ≢ [] =
    followed-some _ _ (words_of c.in-Some.after.now) c.in-Some.word.now c.loop-word.sides.items c.in-Some-settlement.side c.loop-word.invariant c.in-Some.ensures.word c.in-Some-settlement.ensures in
    search rules

pub loop-word-preserved : goal.loop-word-preserved
loop-word-preserved c =
    rw c.in_ok-push.ensures.items
    (followed-next _ c.loop-word.sides.items c.in-Some-settlement.side _ (words_of c.in-Some.after.now) c.in-Some.word.now c.loop-word.invariant c.in-Some.ensures.word c.in-Some-settlement.ensures)

pub returns-clause-words : goal.returns-clause-words
returns-clause-words c =
    rw c.from_vec.ensures (followed-end _ c.loop-word.sides.items (words_of c.loop-word.rest.now) c.loop-word.invariant c.in_default.ensures.word)
