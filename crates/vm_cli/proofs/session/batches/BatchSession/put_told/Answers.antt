use Rattle.std.proofs.Common.{subst}
use Rattle.vm_cli.specs.session.Known.{between}
use Rattle.vm_cli.specs.session.SessionKinds.{Puts}
use Rattle.vm_cli.specs.answers.Replies.{reply_text}
use Rattle.vm_cli.specs.session.Waiting.{label}
use Rattle.vm_cli.proofs.CarriedLemmas.{passed_on}
use Rattle.vm_cli.proofs.PlannerLemmas.{puts_behind, puts_short}
use Rattle.vm_cli.proofs.StreamLemmas.{repeated-one}
use Rattle.vm_cli.proofs.session.batches.BatchSession.put_told.Goals as goal

pub returns-in_err-put_label-clause-put : goal.returns-in_err-put_label-clause-put
returns-in_err-put_label-clause-put g c =
    rw (passed_on _ c.from_residual.ensures.1)
    (puts_short _ _ (label c.args.number) (reply_text c.args.reply) _ c.in_err-put_label.ensures.put)

pub returns-clause-put : goal.returns-clause-put
returns-clause-put g c =
    let middle = g.W.Write.contents c.put_label.new.writer in
    let after = g.W.Write.contents c.put_repeated.new.writer in
    puts_behind _ middle after (label c.args.number) (reply_text c.args.reply) c.put_repeated.result c.in_ok-put_label.ensures.put
    (subst (λ t. Puts t c.put_repeated.result (between middle after)) (repeated-one (reply_text c.args.reply)) c.put_repeated.ensures.put)
