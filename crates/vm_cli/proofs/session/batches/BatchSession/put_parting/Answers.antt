use Rattle.std.proofs.Common.{subst, sym}
use Rattle.vm_cli.specs.session.Known.{written_to}
use Rattle.vm_cli.specs.session.SessionKinds.{Puts}
use Rattle.vm_cli.specs.answers.Replies.{reply_text}
use Rattle.vm_cli.specs.session.Streams.{repeated}
use Rattle.vm_cli.specs.session.Waiting.{label}
use Rattle.vm_cli.specs.declared.answers.reply.Reply.TheVariants as reply
use Rattle.vm_cli.proofs.CarriedLemmas.{passed_on}
use Rattle.vm_cli.proofs.PlannerLemmas.{parts_text, puts_behind, puts_short}
use Rattle.vm_cli.proofs.session.batches.BatchSession.put_parting.Goals as goal

pub returns-in_err-put_label-clause-put : goal.returns-in_err-put_label-clause-put
returns-in_err-put_label-clause-put g c = λ it named is.
    let text = parts_text it c.args.planner.now named c.if-not-planner.false is in
    rw (passed_on _ c.from_residual.ensures.1, sym text)
    (puts_short _ _ (label c.args.planner.now.number) (repeated c.args.planner.now.batch.count (reply_text reply.Aborted)) _ c.in_err-put_label.ensures.put)

pub returns-clause-put : goal.returns-clause-put
returns-clause-put g c = λ it named is.
    let text = parts_text it c.args.planner.now named c.if-not-planner.false is in
    subst (λ t. Puts t c.put_repeated.result (written_to g.W.Write.contents c.args.writer.now c.put_repeated.new.writer)) text
    (puts_behind _ (g.W.Write.contents c.put_label.new.writer) _ (label c.args.planner.now.number) (repeated c.args.planner.now.batch.count (reply_text reply.Aborted)) c.put_repeated.result c.in_ok-put_label.ensures.put c.put_repeated.ensures.put)
