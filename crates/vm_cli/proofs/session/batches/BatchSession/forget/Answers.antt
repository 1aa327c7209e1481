use Rattle.std.proofs.Common.{ap, subst, Err}
use Rattle.vm_cli.specs.answers.Carried.{WritesStart}
use Rattle.vm_cli.specs.session.SessionKinds.{counted_result}
use Rattle.vm_cli.specs.session.SessionKinds.AnswersThen.{answer_cut}
use Rattle.vm_cli.specs.session.Streams.{forgotten_text, ok_text}
use Rattle.vm_cli.proofs.CarriedLemmas.{passed_on}
use Rattle.vm_cli.proofs.StreamLemmas.{cut_short, repeated-one, written_behind}
use Rattle.vm_cli.proofs.session.batches.BatchSession.forget.Goals as goal

pub returns-in_err-put_repeated-clause-said : goal.returns-in_err-put_repeated-clause-said
returns-in_err-put_repeated-clause-said g c =
    rw (passed_on _ c.from_residual.ensures.1)
    (cut_short _ _ (forgotten_text c.args.self.now.batch.count) ok_text (counted_result c.args.self.now.manner.on_refusal c.args.self.now.batch.count) _ c.in_err-put_repeated.ensures.put)

pub returns-in_err-put_repeated-2-clause-said : goal.returns-in_err-put_repeated-2-clause-said
returns-in_err-put_repeated-2-clause-said g c =
    let h = c.in_err-put_repeated-2.ensures.put in
    let between = g.W.Write.contents c.put_repeated.new.writer in
    let after = g.W.Write.contents c.put_repeated-2.new.writer in
    let begun = subst (WritesStart between after) (repeated-one ok_text) h.1 in
    rw (passed_on _ c.from_residual-in_err-put_repeated-2.ensures.1)
    (written_behind _ between after (forgotten_text c.args.self.now.batch.count) ok_text (counted_result c.args.self.now.manner.on_refusal c.args.self.now.batch.count) _ c.in_ok-put_repeated.ensures.put (answer_cut (ap Err h.0) begun))
