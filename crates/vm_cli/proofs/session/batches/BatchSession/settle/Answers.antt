use Rattle.std.proofs.Common.{◌≡◌, ◌∙◌, ℕ, Bool, List, Option, None, Result, ap, sym, subst}
use Rattle.vm_types.specs.State.{State}
use Rattle.vm_disk.specs.declared.disk.Disk.{Ghosts}
use Rattle.vm_cli.specs.session.Feeds.{FeedsOn}
use Rattle.vm_cli.specs.session.SessionKinds.AnswersThen.{answered_so}
use Rattle.vm_cli.specs.session.Rounds.{Round}
use Rattle.vm_cli.specs.session.StreamCalls.{SaysThen, Scene, SettlesBatch, scene}
use Rattle.vm_cli.specs.session.Streams.{Held, IsHeld, IsStage, SettlesHeld, Verdict, result_of, settled_text, verdict_of, verdict_result}
use Rattle.vm_cli.specs.declared.session.ServeFault.{ServeFault}
use Rattle.vm_cli.specs.declared.session.batch.Batch.{Batch}
use Rattle.vm_cli.proofs.BatchLemmas.{held_count}
use Rattle.vm_cli.proofs.CarriedLemmas.{passed_on}
use Rattle.vm_cli.proofs.PlannerLemmas.{says_put}
use Rattle.vm_cli.proofs.StreamLemmas.{verdict_feeds}
use Rattle.vm_cli.proofs.session.batches.BatchSession.settle.Goals as goal

-- the batch came out so, and was answered so
module _ {D W : Type 0} {members : Ghosts D} (contents : W → Option (List ℕ)) (is_begun : Bool) (old new : Scene D W members) where
  settles_so : (result : Result Bool ServeFault) (verdict : Verdict) → new.session.manner ≡ old.session.manner → IsStage new.session.batch None → new.session.batch.count ≡ 0 → FeedsOn (result_of verdict) old.store new.store
      → ((s : State) (held : Held) → IsHeld old.session.batch held → (round : Round) × SettlesHeld old.store new.store s old.session.manner held verdict round)
      → SaysThen contents (settled_text is_begun old.session.batch.count verdict) (verdict_result old.session.manner verdict) result old.writer new.writer → SettlesBatch contents is_begun result old new
  settles_so result verdict manner closed none feeds settles said = record {
    manner = manner;
    store = verdict_feeds old.session.manner old.store new.store (settled_text is_begun old.session.batch.count verdict) _ _ verdict result said feeds;
    closed = closed;
    none = none;
    settled = λ s held is.
        let round = settles s held is in
        record {
          verdict = verdict;
          round = round.0;
          settles = round.1;
          said = subst (λ n. SaysThen contents (settled_text is_begun n verdict) (verdict_result old.session.manner verdict) result old.writer new.writer) (held_count _ _ _ _ held is) said;
        };
  }

pub returns-in_err-put_settled : goal.returns-in_err-put_settled
returns-in_err-put_settled g c =
    let verdict = verdict_of c.settle_batch-settled.result c.settle_batch-settled.new.answers.items in
    let kept = c.put_settled.ensures.same in
    rw (passed_on _ c.from_residual.ensures.1)
    (settles_so g.W.Write.contents c.args.is_begun (scene c.args.self.now c.args.store.now c.args.writer.now) (scene c.put_settled.new.self c.settle_batch-settled.new.store c.put_settled.new.writer) _ verdict
    kept.manner (subst (λ b. IsStage b None) (sym kept.batch) c.clear.ensures.stage) (ap (λ (b : Batch). b.count) kept.batch ∙ c.clear.ensures.none) c.settle_batch-settled.ensures.store c.settle_batch-settled.ensures.settled
    (says_put _ _ (settled_text c.args.is_begun c.args.self.now.batch.count verdict) (verdict_result c.args.self.now.manner verdict) _ c.in_err-put_settled.ensures.put))

pub returns : goal.returns
returns g c =
    let answers = c.settle_batch-settled.new.answers.items in
    let verdict = verdict_of c.settle_batch-settled.result answers in
    let kept = c.put_settled.ensures.same in
    settles_so g.W.Write.contents c.args.is_begun (scene c.args.self.now c.args.store.now c.args.writer.now) (scene c.put_settled.new.self c.settle_batch-settled.new.store c.put_settled.new.writer) _ verdict
    kept.manner (subst (λ b. IsStage b None) (sym kept.batch) c.clear.ensures.stage) (ap (λ (b : Batch). b.count) kept.batch ∙ c.clear.ensures.none) c.settle_batch-settled.ensures.store c.settle_batch-settled.ensures.settled
    (answered_so (c.go_on_after.ensures answers ∙ ap (λ m. verdict_result m verdict) kept.manner) c.in_ok-put_settled.ensures.put)
