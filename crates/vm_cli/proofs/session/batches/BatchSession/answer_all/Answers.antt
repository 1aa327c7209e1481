use Rattle.std.proofs.Common.{◌+◌, ◌<◌, ◌∙◌, ℕ, Err, ap, refl, sym, subst, arith, length}
use Rattle.std.specs.Io.KnownBytes.{Appends}
use Rattle.std.specs.Prelude.{slice_range}
use Rattle.vm_cli.specs.answers.Carried.{WritesStart}
use Rattle.vm_cli.specs.session.WaitingCalls.{own_text, shared_texts}
use Rattle.vm_cli.specs.session.SessionKinds.AnswersThen.{answer_cut}
use Rattle.vm_cli.proofs.CarriedLemmas.{begins-more, begins-then, passed_on}
use Rattle.vm_cli.proofs.Known.{Appends-then}
use Rattle.vm_cli.proofs.WaitingLemmas.{ComesOut, comes_out, keeps_both, next_behind, shared_cut, shared_more}
use Rattle.vm_cli.proofs.session.batches.BatchSession.answer_all.Goals as goal

pub loop-at-preserved : goal.loop-at-preserved
loop-at-preserved g c =
    let so_far = c.loop-at.invariant in
    let queue = c.args.waiting.now.items in
    let before = g.W.Write.contents c.args.writer.now in
    let between = g.W.Write.contents c.loop-at.writer in
    let after = g.W.Write.contents c.put_waiting.new.writer in
    let lt : c.loop-at.at < length c.loop-at.waiting.items = omega (arith, c.loop-at-test.true, c.requires.within, so_far.keeps.count, c.args.waiting.now.ok.0) in
    let came : ComesOut c.args.committed c.beside-settled.result c.loop-at.waiting.items c.loop-at.at =
    comes_out c.args.committed c.beside-settled.result c.loop-at.waiting.items c.loop-at.at c.index.result.now c.len.result c.index.ensures lt (omega (arith, c.len.ensures, c.index.result.now.batch.lines.ok.0)) c.beside-settled.ensures in
    let puts = c.in_ok-put_waiting.ensures.puts in
    record {
      keeps = keeps_both queue c.loop-at.waiting.items c.put_waiting.new.waiting.items c.args.self.now c.loop-at.self c.put_waiting.new.self so_far.keeps c.in_ok-put_waiting.ensures.keeps;
      behind = puts.behind ∙ next_behind c.loop-at.waiting.items queue c.loop-at.at so_far.behind;
      written = subst (Appends before after) (sym (shared_more c.args.committed queue c.args.from c.loop-at.at came.own came.others (sym so_far.behind ∙ came.place) c.loop-at.auto.at))
          (Appends-then before between after _ _ so_far.written (subst (λ v. Appends between after (own_text came.own v)) came.verdict (puts.put came.own came.others came.place)));
    }

pub returns-in_err-put_waiting-clause-answered : goal.returns-in_err-put_waiting-clause-answered
returns-in_err-put_waiting-clause-answered g c =
    let so_far = c.loop-at.invariant in
    let queue = c.args.waiting.now.items in
    let before = g.W.Write.contents c.args.writer.now in
    let between = g.W.Write.contents c.loop-at.writer in
    let after = g.W.Write.contents c.put_waiting.new.writer in
    let texts = λ (from to : ℕ). shared_texts c.args.committed (slice_range queue from to) in
    let lt : c.loop-at.at < length c.loop-at.waiting.items = omega (arith, c.loop-at-test.true, c.requires.within, so_far.keeps.count, c.args.waiting.now.ok.0) in
    let came : ComesOut c.args.committed c.beside-settled.result c.loop-at.waiting.items c.loop-at.at =
    comes_out c.args.committed c.beside-settled.result c.loop-at.waiting.items c.loop-at.at c.index.result.now c.len.result c.index.ensures lt (omega (arith, c.len.ensures, c.index.result.now.batch.lines.ok.0)) c.beside-settled.ensures in
    let put = c.in_err-put_waiting.ensures.puts.put came.own came.others came.place in
    let begun = subst (λ v. WritesStart between after (own_text came.own v)) came.verdict put.1 in
    let more = shared_more c.args.committed queue c.args.from c.loop-at.at came.own came.others (sym so_far.behind ∙ came.place) c.loop-at.auto.at in
    let so_written : WritesStart before after (texts c.args.from (c.loop-at.at + 1)) =
    subst (WritesStart before after) (sym more) (begins-then before between after _ _ (record { sent = texts c.args.from c.loop-at.at; split = refl; written = so_far.written }) begun) in
    let cut = shared_cut c.args.committed queue c.args.from (c.loop-at.at + 1) c.args.to (omega (arith, c.loop-at.auto.at)) (omega (arith, c.loop-at-test.true)) in
    rw (passed_on _ c.from_residual.ensures.1)
    (answer_cut (ap Err put.0) (subst (WritesStart before after) (sym cut) (begins-more before after (texts c.args.from (c.loop-at.at + 1)) (texts (c.loop-at.at + 1) c.args.to) so_written)))
