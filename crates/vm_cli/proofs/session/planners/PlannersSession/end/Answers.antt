use Rattle.std.proofs.Common.{◌==◌, ◌∙◌, ◌<◌, Vec, ap, refl, sym, subst, arith, get_or, length, vec_len}
use Rattle.std.proofs.lemmas.List.{take_all}
use Rattle.vm_cli.specs.session.Planners.{AreSeats, seats_end_count, seats_end_text}
use Rattle.vm_cli.specs.declared.session.Manner.{Manner}
use Rattle.vm_cli.specs.declared.session.planners.Planner.{Planner}
use Rattle.vm_cli.specs.declared.session.waiting.WaitingBatch.{WaitingBatch}
use Rattle.vm_cli.proofs.CarriedLemmas.{passed_on}
use Rattle.vm_cli.proofs.QueueLemmas.{AreForgotten, end_short, end_then, forgotten_more, forgotten_none, forgotten_short}
use Rattle.vm_cli.proofs.SeatLemmas.{keeps_then}
use Rattle.vm_cli.proofs.session.planners.PlannersSession.end.Goals as goal

pub loop-place-init : goal.loop-place-init
loop-place-init g c = record { planners = refl; waiting = refl; same = record { batch = refl; answers = refl; manner = refl }; forgotten = forgotten_none (g.W.Write.contents c.args.writer.now) }

pub loop-place-preserved : goal.loop-place-preserved
loop-place-preserved g c =
    let so_far = c.loop-place.invariant in
    let queue = c.args.self.now.waiting.items in
    let own = c.index.result.now in
    let is = c.index.ensures ∙ ap (λ (them : Vec WaitingBatch _). get_or them.items c.loop-place.place own) so_far.waiting in
    let within : c.loop-place.place < length queue = omega (arith, c.args.self.now.waiting.ok.0) in
    let put = c.in_ok-put_forgotten.ensures in
    record {
      planners = so_far.planners;
      waiting = so_far.waiting;
      same = keeps_then _ _ _ so_far.same put.same;
      forgotten = forgotten_more queue c.loop-place.place own is within _ _ _ so_far.forgotten put.put;
    }

pub returns-in_err-put_forgotten : goal.returns-in_err-put_forgotten
returns-in_err-put_forgotten g c =
    let so_far = c.loop-place.invariant in
    let queue = c.args.self.now.waiting.items in
    let own = c.index.result.now in
    let is = c.index.ensures ∙ ap (λ (them : Vec WaitingBatch _). get_or them.items c.loop-place.place own) so_far.waiting in
    let within : c.loop-place.place < length queue = omega (arith, c.args.self.now.waiting.ok.0) in
    rw (passed_on _ c.from_residual.ensures.1)
    (record { said = λ at held. forgotten_short queue c.loop-place.place own is within _ _ _ so_far.forgotten _ c.in_err-put_forgotten.ensures.put at.waiting held.waiting (seats_end_text at.seats c.args.half) _ })

pub returns-in_err-last : goal.returns-in_err-last
returns-in_err-last g c =
    let so_far = c.loop-place.invariant in
    let own = c.args.self.now in
    let forgotten = subst (λ queue. AreForgotten queue (g.W.Write.contents c.args.writer.now) (g.W.Write.contents c.loop-place.writer)) (take_all c.loop-place.place own.waiting.items (omega (arith, own.waiting.ok.0))) so_far.forgotten in
    rw (passed_on _ c.from_residual-in_err-last.ensures.1)
    (record {
      said = λ at held.
          end_short own.waiting.items _ _ _ forgotten _ _ (ap (λ (how : Manner). how.on_refusal) so_far.same.manner) c.requires.telling at.waiting held.waiting (seats_end_text at.seats c.args.half) (seats_end_count at.seats c.args.half) _ _
          (c.in_err-last.ensures.said at.seats (subst (λ (them : Vec Planner _). AreSeats them.items at.seats) (sym so_far.planners) held.seats));
    })

pub returns : goal.returns
returns g c =
    let so_far = c.loop-place.invariant in
    let own = c.args.self.now in
    let forgotten = subst (λ queue. AreForgotten queue (g.W.Write.contents c.args.writer.now) (g.W.Write.contents c.loop-place.writer)) (take_all c.loop-place.place own.waiting.items (omega (arith, own.waiting.ok.0))) so_far.forgotten in
    record {
      said = λ at held.
          end_then own.waiting.items _ _ _ forgotten _ _ (ap (λ (how : Manner). how.on_refusal) so_far.same.manner) c.requires.telling at.waiting held.waiting (seats_end_text at.seats c.args.half) (seats_end_count at.seats c.args.half)
          c.is_empty-forgotten.result (c.is_empty-forgotten.ensures ∙ ap (λ (them : Vec WaitingBatch _). vec_len them == 0) so_far.waiting ∙ ap (λ n. n == 0) own.waiting.ok.0) c.in_ok-last.last
          (c.in_ok-last.ensures.said at.seats (subst (λ (them : Vec Planner _). AreSeats them.items at.seats) (sym so_far.planners) held.seats));
    }
