use Rattle.std.proofs.Common.{[], Option, None, Some, ap, sym, subst, refl, arith}
use Rattle.vm_cli.specs.answers.Replies.{reply_text}
use Rattle.vm_cli.specs.session.Rounds.{Round}
use Rattle.vm_cli.specs.session.Rounds.Round.{idle}
use Rattle.vm_cli.specs.session.Streams.{Held, IsStage, TakesOutside, change_text, ok_text, repeated}
use Rattle.vm_cli.specs.session.Streams.Held.{holds}
use Rattle.vm_cli.specs.session.Session.{HandlesLine}
use Rattle.vm_cli.specs.declared.session.batch.Batch.{Batch}
use Rattle.vm_cli.specs.declared.session.line_use.LineUse.TheVariants as line
use Rattle.vm_cli.proofs.StreamLemmas.{counted_feeds, repeated-one, tells_counted, tells_verdict, tells_writes}
use Rattle.vm_cli.proofs.session.batches.BatchSession.take_outside.Goals as goal

pub returns-in-Query : goal.returns-in-Query
returns-in-Query g c =
    let how = c.args.self.now.manner in
    let old = c.args.store.now in
    let new = c.answer_alone.new.store in
    rw c.in-Query.is
    (record {
      manner = refl;
      store = c.answer_alone.ensures.store;
      count = omega arith;
      taken = λ s part is held.
          tells_writes how (HandlesLine old new s how part)
          (λ text course. (stage : Option Held) × (round : Round) × IsStage c.args.self.now.batch stage × TakesOutside old new s how line.Query part text course stage round)
          (λ text ends handled. (None, idle, is, record { ends = ends; handled = handled; goes = refl; outside = refl; came_so = refl })) _ _ _ (c.answer_alone.ensures.answer s part held);
    })

pub returns-in-Change : goal.returns-in-Change
returns-in-Change g c =
    let how = c.args.self.now.manner in
    let done = c.settle.ensures in
    rw c.in-Change.is
    (record {
      manner = done.manner;
      store = done.store;
      count = omega (arith, done.none);
      taken = λ s part is holding.
          let added = c.hold.ensures.held (holds []) part is.1 holding in
          let p = done.settled s added.0 added.1 in
          tells_verdict how
          (λ text course. (stage : Option Held) × (round : Round) × IsStage c.settle.new.self.batch stage × TakesOutside c.args.store.now c.settle.new.store s how line.Change part text course stage round)
          (change_text p.verdict) _ _ p.verdict c.settle.result
          (None, p.round, done.closed, record { held = added.0; adds = added.2; verdict = p.verdict; settles = p.settles; says = refl; goes = refl; outside = refl }) p.said;
    })

pub returns-in-Begin : goal.returns-in-Begin
returns-in-Begin g c =
    let how = c.args.self.now.manner in
    let old = c.args.store.now in
    let kept = c.say.ensures.same in
    rw c.in-Begin.is
    (record {
      manner = kept.manner;
      store = counted_feeds old _ _ _ how.on_refusal 0 c.say.result c.say.ensures.said;
      count = omega (arith, ap (λ (b : Batch). b.count) kept.batch, c.begin.ensures.same);
      taken = λ s part is held.
          tells_counted how
          (λ text course. (stage : Option Held) × (round : Round) × IsStage c.say.new.self.batch stage × TakesOutside old old s how line.Begin part text course stage round)
          (repeated 1 ok_text) _ _ 0 c.say.result
          ((Some (holds [])), idle, subst (λ b. IsStage b (Some (holds []))) (sym kept.batch) (c.begin.ensures.stage is), record { same = refl; says = repeated-one ok_text; goes = refl; held = refl; came_so = refl }) c.say.ensures.said;
    })

pub returns-in-Commit : goal.returns-in-Commit
returns-in-Commit g c =
    let how = c.args.self.now.manner in
    let old = c.args.store.now in
    let kept = c.say-in-Commit.ensures.same in
    rw c.in-Commit.is
    (record {
      manner = kept.manner;
      store = counted_feeds old _ _ _ how.on_refusal 0 c.say-in-Commit.result c.say-in-Commit.ensures.said;
      count = omega (arith, ap (λ (b : Batch). b.count) kept.batch);
      taken = λ s part is held.
          tells_counted how
          (λ text course. (stage : Option Held) × (round : Round) × IsStage c.say-in-Commit.new.self.batch stage × TakesOutside old old s how line.Commit part text course stage round)
          (repeated 1 ok_text) _ _ 0 c.say-in-Commit.result
          (None, idle, subst (λ b. IsStage b None) (sym kept.batch) is, record { same = refl; says = repeated-one ok_text; goes = refl; held = refl; came_so = refl }) c.say-in-Commit.ensures.said;
    })

pub returns-in-Abort : goal.returns-in-Abort
returns-in-Abort g c =
    let how = c.args.self.now.manner in
    let old = c.args.store.now in
    let kept = c.say-in-Abort.ensures.same in
    rw c.in-Abort.is
    (record {
      manner = kept.manner;
      store = counted_feeds old _ _ _ how.on_refusal 0 c.say-in-Abort.result c.say-in-Abort.ensures.said;
      count = omega (arith, ap (λ (b : Batch). b.count) kept.batch);
      taken = λ s part is held.
          tells_counted how
          (λ text course. (stage : Option Held) × (round : Round) × IsStage c.say-in-Abort.new.self.batch stage × TakesOutside old old s how line.Abort part text course stage round)
          (repeated 1 ok_text) _ _ 0 c.say-in-Abort.result
          (None, idle, subst (λ b. IsStage b None) (sym kept.batch) is, record { same = refl; says = repeated-one ok_text; goes = refl; held = refl; came_so = refl }) c.say-in-Abort.ensures.said;
    })

pub returns-in-Refused : goal.returns-in-Refused
returns-in-Refused g c =
    let how = c.args.self.now.manner in
    let old = c.args.store.now in
    let kept = c.say-in-Refused.ensures.same in
    rw c.in-Refused.is
    (record {
      manner = kept.manner;
      store = counted_feeds old _ _ _ how.on_refusal 1 c.say-in-Refused.result c.say-in-Refused.ensures.said;
      count = omega (arith, ap (λ (b : Batch). b.count) kept.batch);
      taken = λ s part is held.
          tells_counted how
          (λ text course. (stage : Option Held) × (round : Round) × IsStage c.say-in-Refused.new.self.batch stage × TakesOutside old old s how (line.Refused c.in-Refused.reply) part text course stage round)
          (repeated 1 (reply_text c.in-Refused.reply)) _ _ 1 c.say-in-Refused.result
          (None, idle, subst (λ b. IsStage b None) (sym kept.batch) is, record { same = refl; says = repeated-one (reply_text c.in-Refused.reply); goes = refl; held = refl; came_so = refl }) c.say-in-Refused.ensures.said;
    })
