use Rattle.std.proofs.Common.{◌≡◌, ◌+◌, ◌<◌, ◌∙◌, ℕ, Vec, subst, arith}
use Rattle.std.proofs.lemmas.List.{drop-set-lt, length-set}
use Rattle.vm_cli.specs.answers.Carried.{WritesStart}
use Rattle.vm_cli.specs.session.Known.{between}
use Rattle.vm_cli.specs.session.SessionKinds.{Puts}
use Rattle.vm_cli.specs.session.Streams.{settled_text, verdict_of}
use Rattle.vm_cli.specs.session.Waiting.{label}
use Rattle.vm_cli.specs.session.WaitingCalls.{own_text}
use Rattle.vm_cli.specs.declared.session.ServeFault.TheVariants as fault
use Rattle.vm_cli.specs.declared.session.waiting.WaitingBatch.{WaitingBatch}
use Rattle.vm_cli.proofs.CarriedLemmas.{passed_on}
use Rattle.vm_cli.proofs.PlannerLemmas.{puts_behind, puts_short}
use Rattle.vm_cli.proofs.WaitingLemmas.{first_behind, stay_set}
use Rattle.vm_cli.proofs.session.batches.BatchSession.put_waiting.Goals as goal

pub returns-in_err-put_label-clause-keeps : goal.returns-in_err-put_label-clause-keeps
returns-in_err-put_label-clause-keeps g c =
    let own = c.index_mut-own.result.now in
    let other : WaitingBatch = record { number = own.number; batch = own.batch; answers = c.swap.new.y } in
    record {
      manner = c.put_label.ensures.same.manner;
      batch = c.put_label.ensures.same.batch;
      count = length-set c.args.waiting.now.items c.args.at other;
      waits = stay_set c.args.waiting.now.items c.args.at own other (λ it is. record { number = is.number; begun = is.begun; lines = is.lines }) c.index_mut-own.ensures.value;
    }

pub returns-clause-keeps : goal.returns-clause-keeps
returns-clause-keeps g c =
    let own = c.index_mut-own.result.now in
    let other : WaitingBatch = record { number = own.number; batch = own.batch; answers = c.swap.new.y } in
    record {
      manner = c.put_settled.ensures.same.manner ∙ c.put_label.ensures.same.manner;
      batch = c.put_settled.ensures.same.batch ∙ c.put_label.ensures.same.batch;
      count = length-set c.args.waiting.now.items c.args.at other;
      waits = stay_set c.args.waiting.now.items c.args.at own other (λ it is. record { number = is.number; begun = is.begun; lines = is.lines }) c.index_mut-own.ensures.value;
    }

pub returns-in_err-put_label-clause-puts : goal.returns-in_err-put_label-clause-puts
returns-in_err-put_label-clause-puts g c =
    let own = c.index_mut-own.result.now in
    let before = g.W.Write.contents c.args.writer.now in
    let after = g.W.Write.contents c.put_label.new.writer in
    let place : c.args.at < c.args.at + 1 = omega arith in
    record {
      behind = drop-set-lt (c.args.at + 1) c.args.waiting.now.items c.args.at _ place;
      put = λ first others e.
          let same : own ≡ first = c.index_mut-own.ensures.value ∙ first_behind c.args.waiting.now.items c.args.at first own others e in
          rw (passed_on _ c.from_residual.ensures.1)
          (subst (λ (o : WaitingBatch). (c.in_err-put_label.field-0.0 ≡ fault.Write) × WritesStart before after (own_text o (verdict_of c.args.settled o.answers.items))) same
          (puts_short before after (label own.number) (settled_text own.batch.is_open own.batch.count (verdict_of c.args.settled own.answers.items)) _ c.in_err-put_label.ensures.put));
    }

pub returns-clause-puts : goal.returns-clause-puts
returns-clause-puts g c =
    let own = c.index_mut-own.result.now in
    let before = g.W.Write.contents c.args.writer.now in
    let middle = g.W.Write.contents c.put_label.new.writer in
    let after = g.W.Write.contents c.put_settled.new.writer in
    let place : c.args.at < c.args.at + 1 = omega arith in
    record {
      behind = drop-set-lt (c.args.at + 1) c.args.waiting.now.items c.args.at _ place;
      put = λ first others e.
          let same : own ≡ first = c.index_mut-own.ensures.value ∙ first_behind c.args.waiting.now.items c.args.at first own others e in
          let answers : c.put_label.new.self.answers ≡ own.answers = c.put_label.ensures.same.answers ∙ c.swap.ensures.x_after in
          let settled = subst (λ (v : Vec ℕ _). Puts (settled_text own.batch.is_open own.batch.count (verdict_of c.args.settled v.items)) c.put_settled.result (between middle after)) answers c.put_settled.ensures.put in
          subst (λ (o : WaitingBatch). Puts (own_text o (verdict_of c.args.settled o.answers.items)) c.put_settled.result (between before after)) same
          (puts_behind before middle after (label own.number) (settled_text own.batch.is_open own.batch.count (verdict_of c.args.settled own.answers.items)) c.put_settled.result c.in_ok-put_label.ensures.put settled);
    }
