use Rattle.std.proofs.Common.{◌∙◌, ◌++◌, [], Option, None, Some, ap, refl, false, arith}
use Rattle.vm_cli.specs.session.SessionKinds.{some_lines}
use Rattle.vm_cli.specs.session.SessionKinds.Course.{proceeds}
use Rattle.vm_cli.specs.answers.Replies.{reply_text}
use Rattle.vm_cli.specs.session.Rounds.{Round}
use Rattle.vm_cli.specs.session.Rounds.Round.{idle}
use Rattle.vm_cli.specs.session.Streams.{Held, IsStage, TakesInside, batch_text, count_of, forgotten_text, losing, ok_text}
use Rattle.vm_cli.specs.declared.answers.reply.Reply.TheVariants.{NotInBatch}
use Rattle.vm_cli.specs.declared.session.line_use.LineUse.TheVariants as line
use Rattle.vm_cli.proofs.BatchLemmas.{held_count}
use Rattle.vm_cli.proofs.EndLemmas.{feeds_none}
use Rattle.vm_cli.proofs.Known.{Appends-nil}
use Rattle.vm_cli.proofs.StreamLemmas.{counted_feeds, tells_counted, tells_verdict}
use Rattle.vm_cli.proofs.session.batches.BatchSession.take_inside.Goals as goal

pub returns-in-Nothing : goal.returns-in-Nothing
returns-in-Nothing g c =
    rw c.in-Nothing.is
    (record {
      manner = refl;
      store = feeds_none c.args.store.now false;
      count = omega arith;
      taken = λ s held part is holds. record { text = []; says = (Some held, idle, is, record { same = refl; says = refl; goes = refl; held = refl; came_so = refl }); goes_on = λ stop. refl; written = Appends-nil (g.W.Write.contents c.args.writer.now) };
    })

pub returns-in-Begin : goal.returns-in-Begin
returns-in-Begin g c =
    rw c.in-Begin.is
    (record {
      manner = refl;
      store = feeds_none c.args.store.now false;
      count = omega (arith, c.lose.ensures.more);
      taken = λ s held part is holds. record {
        text = [];
        says = (Some (losing (reply_text NotInBatch) held), idle, (c.lose.ensures.open ∙ is.0, c.lose.ensures.held held is.1), record { same = refl; says = refl; goes = refl; held = refl; came_so = refl });
        goes_on = λ stop. refl;
        written = Appends-nil (g.W.Write.contents c.args.writer.now);
      };
    })

pub returns-in-Query : goal.returns-in-Query
returns-in-Query g c =
    rw c.in-Query.is
    (record {
      manner = refl;
      store = feeds_none c.args.store.now false;
      count = omega (arith, c.lose-in-Query.ensures.more);
      taken = λ s held part is holds. record {
        text = [];
        says = (Some (losing (reply_text NotInBatch) held), idle, (c.lose-in-Query.ensures.open ∙ is.0, c.lose-in-Query.ensures.held held is.1), record { same = refl; says = refl; goes = refl; held = refl; came_so = refl });
        goes_on = λ stop. refl;
        written = Appends-nil (g.W.Write.contents c.args.writer.now);
      };
    })

pub returns-in-Refused : goal.returns-in-Refused
returns-in-Refused g c =
    rw c.in-Refused.is
    (record {
      manner = refl;
      store = feeds_none c.args.store.now false;
      count = omega (arith, c.lose-in-Refused.ensures.more);
      taken = λ s held part is holds. record {
        text = [];
        says = (Some (losing (reply_text c.in-Refused.reply) held), idle, (c.lose-in-Refused.ensures.open ∙ is.0, c.lose-in-Refused.ensures.held held is.1), record { same = refl; says = refl; goes = refl; held = refl; came_so = refl });
        goes_on = λ stop. refl;
        written = Appends-nil (g.W.Write.contents c.args.writer.now);
      };
    })

pub returns-in-Change : goal.returns-in-Change
returns-in-Change g c =
    rw c.in-Change.is
    (record {
      manner = refl;
      store = feeds_none c.args.store.now false;
      count = omega (arith, c.hold.ensures.more);
      taken = λ s held part is holds.
          let added = c.hold.ensures.held held part is.1 holds in
          record {
            text = [];
            says = (Some added.0, idle, (c.hold.ensures.open ∙ is.0, added.1), record { held' = added.0; adds = added.2; said = record { same = refl; says = refl; goes = refl; held = refl; came_so = refl } });
            goes_on = λ stop. refl;
            written = Appends-nil (g.W.Write.contents c.args.writer.now);
          };
    })

pub returns-in-Abort : goal.returns-in-Abort
returns-in-Abort g c =
    let how = c.args.self.now.manner in
    let old = c.args.store.now in
    let count = c.args.self.now.batch.count in
    rw c.in-Abort.is
    (record {
      manner = c.forget.ensures.manner;
      store = counted_feeds old _ _ _ how.on_refusal count c.forget.result c.forget.ensures.said;
      count = omega (arith, c.forget.ensures.none);
      taken = λ s held part is holds.
          let all = held_count _ _ _ _ held is.1 in
          tells_counted how
          (λ text course. (stage : Option Held) × (round : Round) × IsStage c.forget.new.self.batch stage × TakesInside old old s how line.Abort held part text course stage round)
          (forgotten_text count ++ ok_text) _ _ count c.forget.result
          (None, idle, c.forget.ensures.closed, record { same = refl; says = ap (λ n. forgotten_text n ++ ok_text) all; goes = ap (λ n. proceeds (some_lines n)) all; held = refl; came_so = refl }) c.forget.ensures.said;
    })

pub returns-in-Commit : goal.returns-in-Commit
returns-in-Commit g c =
    let how = c.args.self.now.manner in
    let done = c.settle.ensures in
    rw c.in-Commit.is
    (record {
      manner = done.manner;
      store = done.store;
      count = omega (arith, done.none);
      taken = λ s held part is holds.
          let p = done.settled s held is.1 in
          tells_verdict how
          (λ text course. (stage : Option Held) × (round : Round) × IsStage c.settle.new.self.batch stage × TakesInside c.args.store.now c.settle.new.store s how line.Commit held part text course stage round)
          (batch_text (count_of held) p.verdict) _ _ p.verdict c.settle.result
          (None, p.round, done.closed, record { verdict = p.verdict; settles = p.settles; says = refl; goes = refl; outside = refl }) p.said;
    })
