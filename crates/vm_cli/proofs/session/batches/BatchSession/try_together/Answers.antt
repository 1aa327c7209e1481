use Rattle.std.proofs.Common.{◌≤◌, ◌<◌, refl, subst, arith, length}
use Rattle.std.specs.Io.KnownBytes.{Appends}
use Rattle.vm_cli.specs.answers.Carried.{WritesStart}
use Rattle.vm_cli.specs.session.Streams.{why_text}
use Rattle.vm_cli.specs.session.Streams.Verdict.{fails}
use Rattle.vm_cli.specs.session.WaitingCalls.{KeepsWaiting, own_text}
use Rattle.vm_cli.specs.declared.session.ServeFault.TheVariants as fault
use Rattle.vm_cli.proofs.CarriedLemmas.{passed_on}
use Rattle.vm_cli.proofs.WaitingLemmas.{again_there, behind_some, failed_over, failed_told, failed_unwritten, first_refused, first_unwritten, keeps_both, shared_round, shared_feeds, feeds_over, undone_fine}
use Rattle.vm_cli.proofs.session.batches.BatchSession.try_together.Goals as goal

pub returns-in_ok-answer_all-in-Ok-clause-tries : goal.returns-in_ok-answer_all-in-Ok-clause-tries
returns-in_ok-answer_all-in-Ok-clause-tries g c =
    let session = c.args.self.now in
    let queue = c.carry_out_all.new.waiting.items in
    let old = c.args.store.now in
    let mid = c.carry_out_all.new.store in
    let new = c.commit-committed.new.store in
    let a = g.W.Write.contents c.args.writer.now in
    let b = g.W.Write.contents c.answer_all.new.writer in
    let carries = c.in-Ok.ensures.carries in
    let kept : KeepsWaiting c.args.waiting.now.items queue session session = record { manner = refl; batch = refl; count = carries.count; waits = carries.waits } in
    let answered = c.in_ok-answer_all-in-Ok.ensures in
    let within : c.args.to ≤ length queue = omega (arith, c.requires.within, carries.count, c.args.waiting.now.ok.0) in
    record {
      keeps = keeps_both c.args.waiting.now.items queue c.answer_all.new.waiting.items session session c.answer_all.new.self kept answered.keeps;
      store = shared_feeds old mid new c.commit-committed.result _ c.commit-committed.ensures _ _ a b answered.answered carries.store;
      tried = λ s waiting are.
          let carried = carries.carried s waiting are in
          shared_round old mid new s session.manner c.args.from c.args.to c.requires.some queue within waiting (carries.waits waiting are) carried.0 carried.1 a b c.commit-committed.result _ c.commit-committed.ensures _ answered.answered;
    }

pub returns-in_err-answer_all-in-Ok-clause-tries : goal.returns-in_err-answer_all-in-Ok-clause-tries
returns-in_err-answer_all-in-Ok-clause-tries g c =
    let session = c.args.self.now in
    let queue = c.carry_out_all.new.waiting.items in
    let old = c.args.store.now in
    let mid = c.carry_out_all.new.store in
    let new = c.commit-committed.new.store in
    let a = g.W.Write.contents c.args.writer.now in
    let b = g.W.Write.contents c.answer_all.new.writer in
    let carries = c.in-Ok.ensures.carries in
    let kept : KeepsWaiting c.args.waiting.now.items queue session session = record { manner = refl; batch = refl; count = carries.count; waits = carries.waits } in
    let answered = c.in_err-answer_all-in-Ok.ensures in
    let within : c.args.to ≤ length queue = omega (arith, c.requires.within, carries.count, c.args.waiting.now.ok.0) in
    rw (passed_on _ c.from_residual.ensures.1)
    (record {
      keeps = keeps_both c.args.waiting.now.items queue c.answer_all.new.waiting.items session session c.answer_all.new.self kept answered.keeps;
      store = shared_feeds old mid new c.commit-committed.result _ c.commit-committed.ensures _ _ a b answered.answered carries.store;
      tried = λ s waiting are.
          let carried = carries.carried s waiting are in
          shared_round old mid new s session.manner c.args.from c.args.to c.requires.some queue within waiting (carries.waits waiting are) carried.0 carried.1 a b c.commit-committed.result _ c.commit-committed.ensures _ answered.answered;
    })

pub returns-in-GoOn-clause-tries : goal.returns-in-GoOn-clause-tries
returns-in-GoOn-clause-tries g c =
    let session = c.args.self.now in
    let queue = c.carry_out_all.new.waiting.items in
    let old = c.args.store.now in
    let last = c.carry_out_all.new.store in
    let new = c.undo-then.new.store in
    let carries = c.in-Err.ensures.carries in
    let stopped = c.in-Err.stopped in
    record {
      keeps = record { manner = refl; batch = refl; count = carries.count; waits = carries.waits };
      store = undone_fine old last new carries.store c.in-GoOn.ensures;
      tried = λ s waiting are.
          again_there old last new s session.manner c.args.from stopped.at c.in-Err.ensures.among.0 queue waiting (carries.waits waiting are) stopped.stop (carries.carried s waiting are)
          c.if-stopped-from.true c.args.to (g.W.Write.contents c.args.writer.now) c.in-GoOn.ensures;
    }

pub returns-in_ok-put_waiting-in-GoOn-2-clause-tries : goal.returns-in_ok-put_waiting-in-GoOn-2-clause-tries
returns-in_ok-put_waiting-in-GoOn-2-clause-tries g c =
    let session = c.args.self.now in
    let queue = c.carry_out_all.new.waiting.items in
    let old = c.args.store.now in
    let last = c.carry_out_all.new.store in
    let new = c.undo-then.new.store in
    let a = g.W.Write.contents c.args.writer.now in
    let b = g.W.Write.contents c.put_waiting.new.writer in
    let carries = c.in-Err.ensures.carries in
    let stopped = c.in-Err.stopped in
    let kept : KeepsWaiting c.args.waiting.now.items queue session session = record { manner = refl; batch = refl; count = carries.count; waits = carries.waits } in
    let put = c.in_ok-put_waiting-in-GoOn-2.ensures in
    record {
      keeps = keeps_both c.args.waiting.now.items queue c.put_waiting.new.waiting.items session session c.put_waiting.new.self kept put.keeps;
      store = undone_fine old last new carries.store c.in-GoOn-2.ensures;
      tried = λ s waiting are.
          let stops = carries.carried s waiting are in
          let written = subst (λ then. Appends a b (own_text stops.own (fails stopped.stop.place (why_text stopped.stop.why stops.own.answers.items) then))) c.in-GoOn-2.is (put.puts.put stops.own stops.others stops.own_first) in
          first_refused old last new s session.manner c.args.from stopped.at c.in-Err.ensures.among.0 queue waiting (carries.waits waiting are) stopped.stop stops c.args.to c.if-stopped-from.false c.in-GoOn-2.ensures a b written;
    }

pub returns-in_err-put_waiting-in-GoOn-2-clause-tries : goal.returns-in_err-put_waiting-in-GoOn-2-clause-tries
returns-in_err-put_waiting-in-GoOn-2-clause-tries g c =
    let session = c.args.self.now in
    let queue = c.carry_out_all.new.waiting.items in
    let old = c.args.store.now in
    let last = c.carry_out_all.new.store in
    let new = c.undo-then.new.store in
    let a = g.W.Write.contents c.args.writer.now in
    let b = g.W.Write.contents c.put_waiting.new.writer in
    let carries = c.in-Err.ensures.carries in
    let stopped = c.in-Err.stopped in
    let kept : KeepsWaiting c.args.waiting.now.items queue session session = record { manner = refl; batch = refl; count = carries.count; waits = carries.waits } in
    let put = c.in_err-put_waiting-in-GoOn-2.ensures in
    let lt : stopped.at < length queue = omega (arith, c.in-Err.ensures.among.1, c.requires.within, carries.count, c.args.waiting.now.ok.0) in
    let found = behind_some queue stopped.at lt in
    rw (passed_on _ c.from_residual-in_err-put_waiting-in-GoOn-2.ensures.1, (put.puts.put found.0 found.1 found.2).0)
    (record {
      keeps = keeps_both c.args.waiting.now.items queue c.put_waiting.new.waiting.items session session c.put_waiting.new.self kept put.keeps;
      store = feeds_over old new _ (undone_fine old last new carries.store c.in-GoOn-2.ensures) fault.Write tt;
      tried = λ s waiting are.
          let stops = carries.carried s waiting are in
          let begun = subst (λ then. WritesStart a b (own_text stops.own (fails stopped.stop.place (why_text stopped.stop.why stops.own.answers.items) then))) c.in-GoOn-2.is (put.puts.put stops.own stops.others stops.own_first).1 in
          first_unwritten old last new s session.manner c.args.from stopped.at c.in-Err.ensures.among.0 queue waiting (carries.waits waiting are) stopped.stop stops c.args.to c.if-stopped-from.false c.in-GoOn-2.ensures a b begun;
    })

pub returns-in_ok-put_waiting-in_default : goal.returns-in_ok-put_waiting-in_default
returns-in_ok-put_waiting-in_default g c =
    let session = c.args.self.now in
    let queue = c.carry_out_all.new.waiting.items in
    let old = c.args.store.now in
    let last = c.carry_out_all.new.store in
    let new = c.undo-then.new.store in
    let a = g.W.Write.contents c.args.writer.now in
    let b = g.W.Write.contents c.put_waiting-in_default.new.writer in
    let carries = c.in-Err.ensures.carries in
    let stopped = c.in-Err.stopped in
    let kept : KeepsWaiting c.args.waiting.now.items queue session session = record { manner = refl; batch = refl; count = carries.count; waits = carries.waits } in
    let put = c.in_ok-put_waiting-in_default.ensures in
    record {
      tries = record {
        keeps = keeps_both c.args.waiting.now.items queue c.put_waiting-in_default.new.waiting.items session session c.put_waiting-in_default.new.self kept put.keeps;
        store = failed_over old last new carries.store c.undo-then.result c.in_default.not-GoOn c.undo-then.ensures;
        tried = λ s waiting are.
            let stops = carries.carried s waiting are in
            failed_told old last new s session.manner c.args.from stopped.at c.in-Err.ensures.among.0 queue waiting (carries.waits waiting are) stopped.stop stops
            c.args.to c.undo-then.result c.in_default.not-GoOn c.undo-then.ensures a b (put.puts.put stops.own stops.others stops.own_first);
      };
      fewer = tt;
    }

pub returns-in_err-put_waiting-in_default : goal.returns-in_err-put_waiting-in_default
returns-in_err-put_waiting-in_default g c =
    let session = c.args.self.now in
    let queue = c.carry_out_all.new.waiting.items in
    let old = c.args.store.now in
    let last = c.carry_out_all.new.store in
    let new = c.undo-then.new.store in
    let a = g.W.Write.contents c.args.writer.now in
    let b = g.W.Write.contents c.put_waiting-in_default.new.writer in
    let carries = c.in-Err.ensures.carries in
    let stopped = c.in-Err.stopped in
    let kept : KeepsWaiting c.args.waiting.now.items queue session session = record { manner = refl; batch = refl; count = carries.count; waits = carries.waits } in
    let put = c.in_err-put_waiting-in_default.ensures in
    let lt : stopped.at < length queue = omega (arith, c.in-Err.ensures.among.1, c.requires.within, carries.count, c.args.waiting.now.ok.0) in
    let found = behind_some queue stopped.at lt in
    rw (passed_on _ c.from_residual-in_err-put_waiting-in_default.ensures.1, (put.puts.put found.0 found.1 found.2).0)
    (record {
      tries = record {
        keeps = keeps_both c.args.waiting.now.items queue c.put_waiting-in_default.new.waiting.items session session c.put_waiting-in_default.new.self kept put.keeps;
        store = feeds_over old new _ (failed_over old last new carries.store c.undo-then.result c.in_default.not-GoOn c.undo-then.ensures) fault.Write tt;
        tried = λ s waiting are.
            let stops = carries.carried s waiting are in
            failed_unwritten old last new s session.manner c.args.from stopped.at c.in-Err.ensures.among.0 queue waiting (carries.waits waiting are) stopped.stop stops
            c.args.to c.undo-then.result c.in_default.not-GoOn c.undo-then.ensures a b (put.puts.put stops.own stops.others stops.own_first).1;
      };
      fewer = tt;
    })
