use Rattle.std.proofs.Common.{◌++◌, Err, refl, sym, subst}
use Rattle.std.specs.Int.{from_bool}
use Rattle.vm_cli.specs.session.Known.{between}
use Rattle.vm_cli.specs.session.SessionKinds.{Puts}
use Rattle.vm_cli.specs.answers.Replies.{reply_text}
use Rattle.vm_cli.specs.session.Streams.{repeated}
use Rattle.vm_cli.specs.session.Waiting.{label}
use Rattle.vm_cli.specs.declared.answers.reply.Reply.TheVariants as reply
use Rattle.vm_cli.proofs.CarriedLemmas.{passed_on}
use Rattle.vm_cli.proofs.PlannerLemmas.{puts_behind, puts_short, waiting_text}
use Rattle.vm_cli.proofs.session.batches.BatchSession.put_forgotten.Goals as goal

pub returns-in_err-put_label-clause-put : goal.returns-in_err-put_label-clause-put
returns-in_err-put_label-clause-put g c = λ it is.
    let own = c.args.waiting.now in
    let aborted = reply_text reply.Aborted in
    rw (passed_on _ c.from_residual.ensures.1, sym (waiting_text own it is _ refl))
    (puts_short _ _ (label own.number) (repeated own.batch.count aborted ++ repeated (from_bool own.batch.is_open) aborted) _ c.in_err-put_label.ensures.put)

pub returns-in_err-put_repeated-clause-put : goal.returns-in_err-put_repeated-clause-put
returns-in_err-put_repeated-clause-put g c = λ it is.
    let own = c.args.waiting.now in
    let first = repeated own.batch.count (reply_text reply.Aborted) in
    let second = repeated (from_bool own.batch.is_open) (reply_text reply.Aborted) in
    rw (passed_on _ c.from_residual-in_err-put_repeated.ensures.1, sym (waiting_text own it is _ refl))
    (puts_behind {T = Unit {0}} _ (g.W.Write.contents c.put_label.new.writer) _ (label own.number) (first ++ second) (Err _) c.in_ok-put_label.ensures.put
    (puts_short _ _ first second _ c.in_err-put_repeated.ensures.put))

pub returns-clause-put : goal.returns-clause-put
returns-clause-put g c = λ it is.
    let own = c.args.waiting.now in
    let first = repeated own.batch.count (reply_text reply.Aborted) in
    let before = g.W.Write.contents c.args.writer.now in
    let after = g.W.Write.contents c.put_repeated-2.new.writer in
    subst (λ t. Puts t c.put_repeated-2.result (between before after)) (waiting_text own it is c.from.result c.from.ensures)
    (puts_behind before (g.W.Write.contents c.put_label.new.writer) after (label own.number) (first ++ repeated c.from.result (reply_text reply.Aborted)) c.put_repeated-2.result c.in_ok-put_label.ensures.put
    (puts_behind (g.W.Write.contents c.put_label.new.writer) (g.W.Write.contents c.put_repeated.new.writer) after first (repeated c.from.result (reply_text reply.Aborted)) c.put_repeated-2.result c.in_ok-put_repeated.ensures.put c.put_repeated-2.ensures.put))
