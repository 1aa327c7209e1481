use Rattle.std.proofs.Common.{◌≡◌, ◌∙◌, [], Ok, Err, false, sym, subst, refl, arith, take}
use Rattle.std.proofs.lemmas.List.{take_all}
use Rattle.vm_cli.specs.session.Streams.{StopsIn, trying, why_text}
use Rattle.vm_cli.specs.session.Session.{HasAnswered}
use Rattle.vm_cli.proofs.CarryLemmas.{held_at, held_count, lines_more, lines_stop}
use Rattle.vm_cli.proofs.EndLemmas.{answers_as, stays_then, feeds_fine, feeds_none, feeds_refused, feeds_then}
use Rattle.vm_cli.proofs.FeedLemmas.{answered-none}
use Rattle.vm_cli.proofs.session.carrying.Session+Vec+u8+D.carry_out_each.Goals as goal

pub loop-place-init : goal.loop-place-init
loop-place-init g c = record {
  same = record { store = refl; writer = refl; manner = refl };
  store = feeds_none c.args.self.now.store.now false;
  answered = λ s how parts tries empty held. subst (HasAnswered c.args.self.now.store.now c.args.self.now.store.now s (trying how) []) (sym empty) (answered-none c.args.self.now.store.now s (trying how));
}

pub returns-in-Err-clause-carries : goal.returns-in-Err-clause-carries
returns-in-Err-clause-carries g c =
    let so_far = c.loop-place.invariant in
    record {
      same = stays_then c.args.self.now c.loop-place.self c.answer.new.self so_far.same c.in-Err.ensures.same;
      store = feeds_refused _ _ _ (feeds_then _ _ _ false so_far.store (Err c.in-Err.fault) c.in-Err.ensures.store);
      carried = λ s how parts tries empty held.
          let said = answers_as _ c.loop-place.self.manner (trying how) (so_far.same.manner ∙ tries) c.in-Err.ensures in
          let at = held_at c.args.lines.now parts c.loop-place.place c.index-lines-place.result held (omega (arith, c.loop-place-test.true)) (sym c.index-lines-place.is) in
          let answered = so_far.answered s how parts tries empty held in
          subst (λ w. StopsIn c.args.self.now.store.now c.answer.new.self.store.now s how parts c.loop-place.place (why_text w c.answer.new.self.writer.now.items)) (sym c.answer_of.ensures)
          (lines_stop _ _ _ s how parts c.loop-place.place c.index-lines-place.result _ answered at c.in-Err.fault _ (said.answer _ at.part at.holds) c.len-at.result (omega (arith, c.len-at.ensures, c.loop-place.self.writer.now.ok.0)));
    }

pub loop-place-preserved : goal.loop-place-preserved
loop-place-preserved g c =
    let so_far = c.loop-place.invariant in
    record {
      same = stays_then c.args.self.now c.loop-place.self c.answer.new.self so_far.same c.in-Ok.ensures.same;
      store = feeds_fine _ _ _ (feeds_then _ _ _ false so_far.store (Ok c.in-Ok.field-0) c.in-Ok.ensures.store) false;
      answered = λ s how parts tries empty held.
          let said = answers_as _ c.loop-place.self.manner (trying how) (so_far.same.manner ∙ tries) c.in-Ok.ensures in
          let at = held_at c.args.lines.now parts c.loop-place.place c.index-lines-place.result held (omega (arith, c.loop-place-test.true)) (sym c.index-lines-place.is) in
          let answered = so_far.answered s how parts tries empty held in
          lines_more _ _ _ s how parts c.loop-place.place c.index-lines-place.result _ answered at _ _ (said.answer _ at.part at.holds);
    }

pub returns-clause-carries : goal.returns-clause-carries
returns-clause-carries g c =
    let so_far = c.loop-place.invariant in
    record {
      same = so_far.same;
      store = so_far.store;
      carried = λ s how parts tries empty held.
          let all : take c.loop-place.place parts ≡ parts = take_all c.loop-place.place parts (omega (arith, held_count c.args.lines.now parts held, c.loop-place-test.false)) in
          subst (λ ls. HasAnswered c.args.self.now.store.now c.loop-place.self.store.now s (trying how) ls c.loop-place.self.writer.now.items) all (so_far.answered s how parts tries empty held);
    }
