use Rattle.std.proofs.Common.{◌≡◌, ◌∙◌, Err, ap, refl, sym, subst, arith}
use Rattle.vm_cli.specs.session.SessionKinds.{counted_result}
use Rattle.vm_cli.specs.session.PlannerCalls.{TakesLineOf}
use Rattle.vm_cli.specs.session.Planners.{is_heard, label_if}
use Rattle.vm_cli.specs.session.StreamCalls.{scene}
use Rattle.vm_cli.specs.session.Streams.{IsStage}
use Rattle.vm_cli.specs.declared.session.planner_line.When.TheVariants.{Later}
use Rattle.vm_cli.proofs.CarriedLemmas.{passed_on}
use Rattle.vm_cli.proofs.LaterLemmas.{told_at_once}
use Rattle.vm_cli.proofs.PlannerLemmas.{inside_told, outside_told, says_put, tells_unwritten}
use Rattle.vm_cli.proofs.StreamLemmas.{counted_feeds}
use Rattle.vm_cli.proofs.session.batches.BatchSession.take_of.Goals as goal
use Rattle.vm_cli.proofs.session.batches.BatchSession.take_of.Goals.{in-Later, in_default}

pub returns-then-is_last_of : goal.returns-then-is_last_of
returns-then-is_last_of g c =
    let how = c.args.self.now.manner in
    let done = c.put_off.ensures c.use_of-used.result (sym c.is_last_of.ensures ∙ c.if-is_last_of.true) c.use_of-used.ensures.used in
    let later = elim c.match-matches.branch as (λ w. Later ≡ c.args.when) [ in-Later w ↦ sym w.in-Later.is | in_default w ↦ cc ] in
    subst (λ when. TakesLineOf g.W.Write.contents when c.args.number c.args.line.now c.put_off.result c.args.waiting.now.items c.put_off.new.waiting.items
    (scene c.args.self.now c.args.store.now c.args.writer.now) (scene c.put_off.new.self c.put_off.new.store c.put_off.new.writer)) later
    (record { manner = done.manner; store = done.store; count = done.count; taken = done.taken })

pub returns-in_err-put_label_if : goal.returns-in_err-put_label_if
returns-in_err-put_label_if g c =
    let how = c.args.self.now.manner in
    let same = c.in_err-put_label_if.ensures.same in
    let put = c.in_err-put_label_if.ensures.put in
    rw (passed_on _ c.from_residual.ensures.1)
    (record {
      manner = same.manner;
      store = counted_feeds c.args.store.now (label_if c.is_heard-heard.result c.args.number) (g.W.Write.contents c.args.writer.now) (g.W.Write.contents c.put_label_if.new.writer) how.on_refusal 0 (Err _) (says_put _ _ _ (counted_result how.on_refusal 0) _ put);
      count = omega (arith, ap (λ b. b.count) same.batch);
      taken = λ s stage part is holds.
          told_at_once c.args.store.now c.args.store.now s how c.args.number stage part c.args.when c.args.waiting.now.items c.args.waiting.now.items refl (IsStage c.put_label_if.new.self.batch) (Err c.in_err-put_label_if.field-0.0) (g.W.Write.contents c.args.writer.now) (g.W.Write.contents c.put_label_if.new.writer)
          (tells_unwritten c.args.store.now s how c.args.number part (IsStage c.put_label_if.new.self.batch) stage (subst (λ b. IsStage b stage) (sym same.batch) is) c.is_heard-heard.result _ _ _ put);
    })

pub returns-then-self : goal.returns-then-self
returns-then-self g c =
    let done = c.take_inside.ensures in
    let same = c.in_ok-put_label_if.ensures.same in
    let between = g.W.Write.contents c.put_label_if.new.writer in
    record {
      manner = done.manner ∙ same.manner;
      store = done.store;
      count = omega (arith, done.count, ap (λ b. b.count) same.batch);
      taken = λ s stage part is holds.
          told_at_once c.args.store.now c.take_inside.new.store s c.args.self.now.manner c.args.number stage part c.args.when c.args.waiting.now.items c.args.waiting.now.items refl (IsStage c.take_inside.new.self.batch) c.take_inside.result _ _
          (inside_told c.args.store.now c.take_inside.new.store s c.args.self.now.manner c.use_of-used.result c.args.number part (c.use_of-used.ensures.used part holds) c.put_label_if.new.self.manner same.manner (IsStage c.take_inside.new.self.batch) c.take_inside.result
          _ between _ c.is_heard-heard.result c.in_ok-put_label_if.ensures.put c.put_label_if.new.self.batch c.if-self.true (c.is_heard-heard.ensures ∙ ap (λ b. is_heard b c.use_of-used.result) (sym (ap (λ b. b.is_open) same.batch) ∙ c.if-self.true)) stage
          (subst (λ b. IsStage b stage) (sym same.batch) is) (λ held inside. done.taken s held part inside holds));
    }

pub returns-else-self : goal.returns-else-self
returns-else-self g c =
    let done = c.take_outside.ensures in
    let same = c.in_ok-put_label_if.ensures.same in
    let between = g.W.Write.contents c.put_label_if.new.writer in
    record {
      manner = done.manner ∙ same.manner;
      store = done.store;
      count = omega (arith, done.count, ap (λ b. b.count) same.batch);
      taken = λ s stage part is holds.
          told_at_once c.args.store.now c.take_outside.new.store s c.args.self.now.manner c.args.number stage part c.args.when c.args.waiting.now.items c.args.waiting.now.items refl (IsStage c.take_outside.new.self.batch) c.take_outside.result _ _
          (outside_told c.args.store.now c.take_outside.new.store s c.args.self.now.manner c.use_of-used.result c.args.number part (c.use_of-used.ensures.used part holds) c.put_label_if.new.self.manner same.manner (IsStage c.take_outside.new.self.batch) c.take_outside.result
          _ between _ c.is_heard-heard.result c.in_ok-put_label_if.ensures.put c.put_label_if.new.self.batch c.if-self.false (c.is_heard-heard.ensures ∙ ap (λ b. is_heard b c.use_of-used.result) (sym (ap (λ b. b.is_open) same.batch) ∙ c.if-self.false)) stage
          (subst (λ b. IsStage b stage) (sym same.batch) is) (λ outside. done.taken s part outside holds));
    }
