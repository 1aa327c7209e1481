use Rattle.std.proofs.Common.{◌≡◌, ◌∙◌, Err, ap, false, refl, sym, subst, arith, true}
use Rattle.vm_cli.specs.session.SessionKinds.{counted_result}
use Rattle.vm_cli.specs.session.Planners.{is_last_in}
use Rattle.vm_cli.specs.session.Streams.{IsStage}
use Rattle.vm_cli.specs.session.Waiting.{label}
use Rattle.vm_cli.specs.declared.session.batch.Batch.{Batch}
use Rattle.vm_cli.specs.declared.session.batches.BatchSession.{BatchSession}
use Rattle.vm_cli.specs.declared.session.line_use.LineUse.{LineUse}
use Rattle.vm_cli.specs.declared.session.planner_line.When.TheVariants.{Later}
use Rattle.vm_cli.proofs.EndLemmas.{feeds_none}
use Rattle.vm_cli.proofs.LaterLemmas.{IsHeldFor, IsReady, left_alone, ready_alone, ready_begun, told_at_once, told_later, told_settled}
use Rattle.vm_cli.proofs.PassLemmas.{never_both}
use Rattle.vm_cli.proofs.PlannerLemmas.{says_put, tells_unwritten}
use Rattle.vm_cli.proofs.StreamLemmas.{counted_feeds}
use Rattle.vm_cli.proofs.session.batches.BatchSession.put_off.Given.{Over}
use Rattle.vm_cli.proofs.session.batches.BatchSession.put_off.Goals as goal
use Rattle.vm_cli.proofs.session.batches.BatchSession.put_off.Goals.{After-wait, else-not-is_begun, then-not-is_begun}

-- the batch is held that may wait
held_for : (g : Over) (c : After-wait g) (used : LineUse) → is_last_in c.args.self.now.batch.is_open used ≡ true → IsHeldFor used c.args.line.now c.args.self.now c.if-not-is_begun.self
held_for g c used last =
    elim c.if-not-is_begun.branch [
      | then-not-is_begun w ↦
          subst (λ (it : BatchSession). IsHeldFor used c.args.line.now c.args.self.now it) (sym w.self-is)
          (record {
            manner = refl;
            count = omega (arith, w.hold.ensures.more);
            begun = λ is. absurd (never_both _ w.if-not-is_begun.true is);
            ready = ready_alone used c.args.line.now c.args.self.now.batch w.hold.new.self w.hold.ensures.open w.if-not-is_begun.true (subst (λ b. is_last_in b used ≡ true) w.if-not-is_begun.true last) w.hold.ensures.held;
          })
      | else-not-is_begun w ↦
          subst (λ (it : BatchSession). IsHeldFor used c.args.line.now c.args.self.now it) (sym w.self-is)
          (record {
            manner = refl;
            count = omega arith;
            begun = λ is. refl;
            ready = ready_begun used c.args.line.now c.args.self.now.batch c.args.self.now.batch refl w.if-not-is_begun.false (subst (λ b. is_last_in b used ≡ true) w.if-not-is_begun.false last);
          })
    ]

pub returns-then-wait : goal.returns-then-wait
returns-then-wait g c = λ used last uses.
    let held = held_for g (goal.at.returns-then-wait g c).After-wait used last in
    let put = c.if-wait.ensures.put refl in
    record {
      manner = put.manner ∙ held.manner;
      store = feeds_none c.args.store.now false;
      count = omega (arith, put.none);
      taken = λ s stage part staged holding.
          told_later c.args.store.now s c.args.self.now.manner c.args.number stage part used c.args.line.now c.args.waiting.now.items c.wait.new.waiting.items c.args.self.now c.wait.new.self c.if-not-is_begun.self held.ready last (uses part holding) put
          staged holding (g.W.Write.contents c.args.writer.now);
    }

pub returns-then-not-is_begun-2 : goal.returns-then-not-is_begun-2
returns-then-not-is_begun-2 g c = λ used last uses.
    let held = held_for g (goal.at.returns-then-not-is_begun-2 g c).After-wait used last in
    let how = c.args.self.now.manner in
    let before = g.W.Write.contents c.args.writer.now in
    let after = g.W.Write.contents c.put_label.new.writer in
    let put = c.in-Err.ensures.put in
    record {
      manner = c.in-Err.ensures.same.manner ∙ ap (λ (it : BatchSession). it.manner) (c.if-wait.ensures.same refl) ∙ held.manner;
      store = counted_feeds c.args.store.now (label c.args.number) before after how.on_refusal 0 (Err c.in-Err.fault) (says_put before after (label c.args.number) (counted_result how.on_refusal 0) c.in-Err.fault put);
      count = omega (arith, c.clear.ensures.none);
      taken = λ s stage part staged holding.
          told_at_once c.args.store.now c.args.store.now s how c.args.number stage part Later c.args.waiting.now.items c.wait.new.waiting.items (c.if-wait.ensures.queue refl) (IsStage c.clear.new.self) (Err c.in-Err.fault) before after
          (tells_unwritten c.args.store.now s how c.args.number part (IsStage c.clear.new.self) stage (left_alone c.args.self.now.batch c.clear.new.self c.if-not-is_begun-2.true c.clear.ensures.stage stage staged) true c.in-Err.fault before after put);
    }

pub returns-else-not-is_begun-2 : goal.returns-else-not-is_begun-2
returns-else-not-is_begun-2 g c = λ used last uses.
    let held = held_for g (goal.at.returns-else-not-is_begun-2 g c).After-wait used last in
    let how = c.args.self.now.manner in
    let before = g.W.Write.contents c.args.writer.now in
    let after = g.W.Write.contents c.put_label.new.writer in
    let put = c.in-Err.ensures.put in
    let batch = c.in-Err.ensures.same.batch ∙ ap (λ (it : BatchSession). it.batch) (c.if-wait.ensures.same refl) ∙ held.begun c.if-not-is_begun-2.false in
    record {
      manner = c.in-Err.ensures.same.manner ∙ ap (λ (it : BatchSession). it.manner) (c.if-wait.ensures.same refl) ∙ held.manner;
      store = counted_feeds c.args.store.now (label c.args.number) before after how.on_refusal 0 (Err c.in-Err.fault) (says_put before after (label c.args.number) (counted_result how.on_refusal 0) c.in-Err.fault put);
      count = omega (arith, ap (λ (b : Batch). b.count) batch);
      taken = λ s stage part staged holding.
          told_at_once c.args.store.now c.args.store.now s how c.args.number stage part Later c.args.waiting.now.items c.wait.new.waiting.items (c.if-wait.ensures.queue refl) (IsStage c.put_label.new.self.batch) (Err c.in-Err.fault) before after
          (tells_unwritten c.args.store.now s how c.args.number part (IsStage c.put_label.new.self.batch) stage (subst (λ b. IsStage b stage) (sym batch) staged) true c.in-Err.fault before after put);
    }

pub returns : goal.returns
returns g c = λ used last uses.
    let held = held_for g (goal.at.returns g c).After-wait used last in
    let how = c.args.self.now.manner in
    let manner = c.in_default.ensures.same.manner ∙ ap (λ (it : BatchSession). it.manner) (c.if-wait.ensures.same refl) ∙ held.manner in
    let batch = c.in_default.ensures.same.batch ∙ ap (λ (it : BatchSession). it.batch) (c.if-wait.ensures.same refl) in
    let ready = subst (IsReady used c.args.line.now c.args.self.now.batch) (sym batch) held.ready in
    record {
      manner = c.settle.ensures.manner ∙ manner;
      store = c.settle.ensures.store;
      count = omega (arith, c.settle.ensures.none);
      taken = λ s stage part staged holding.
          told_at_once c.args.store.now c.settle.new.store s how c.args.number stage part Later c.args.waiting.now.items c.wait.new.waiting.items (c.if-wait.ensures.queue refl) (IsStage c.settle.new.self.batch) c.settle.result _ _
          (told_settled g.W.Write.contents c.args.store.now c.settle.new.store s how c.args.number stage part used c.args.line.now c.args.self.now.batch c.put_label.new.self c.settle.new.self c.args.writer.now c.put_label.new.writer c.settle.new.writer
          ready last (uses part holding) manner c.in_default.ensures.put c.settle.result c.settle.ensures staged holding);
    }
