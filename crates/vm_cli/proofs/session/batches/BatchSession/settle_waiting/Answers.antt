use Rattle.std.proofs.Common.{◌≡◌, ◌≤◌, ◌<◌, ◌∙◌, List, Ok, Err, false, true, refl, sym, subst, arith, drop, length}
use Rattle.std.proofs.lemmas.List.{drop_all}
use Rattle.vm_cli.specs.session.Known.{between}
use Rattle.vm_cli.specs.session.SessionKinds.{Tells}
use Rattle.vm_cli.specs.session.Rounds.{Round, after_rounds}
use Rattle.vm_cli.specs.session.Waiting.{SettlesWaiting}
use Rattle.vm_cli.specs.session.WaitingCalls.{IsFewer}
use Rattle.vm_cli.specs.declared.session.OnRefusal.TheVariants.{Stop, Tell}
use Rattle.vm_cli.specs.declared.session.waiting.Tried.TheVariants.{Committed, Refused, Undone}
use Rattle.vm_cli.proofs.CarriedLemmas.{passed_on}
use Rattle.vm_cli.proofs.EndLemmas.{feeds_fine, feeds_none, feeds_then}
use Rattle.vm_cli.proofs.FeedLemmas.{or-false}
use Rattle.vm_cli.proofs.WaitingLemmas.{are_count, keeps_both, or-true, settles_all, settles_last, settles_none_yet, settles_tried}
use Rattle.vm_cli.proofs.session.batches.BatchSession.settle_waiting.Goals as goal

pub loop-from-init : goal.loop-from-init
loop-from-init g c =
    let queue = c.args.waiting.now.items in
    let all : c.len-to.result ≡ length queue = omega (arith, c.len-to.ensures, c.args.waiting.now.ok.0) in
    record {
      keeps = record { manner = refl; batch = refl; count = refl; waits = λ waiting are. are };
      first = omega arith;
      last = omega (arith, all);
      order = omega arith;
      some = λ more. omega (arith, all, more);
      store = feeds_none c.args.store.now false;
      settled = λ s waiting are. settles_none_yet c.args.store.now s c.args.self.now.manner waiting (g.W.Write.contents c.args.writer.now);
    }

pub loop-from-preserved-in-Committed : goal.loop-from-preserved-in-Committed
loop-from-preserved-in-Committed g c =
    let so_far = c.loop-from.invariant in
    let tries = c.in_ok-try_together.ensures.tries in
    let all : c.len-to-in-Committed.result ≡ length c.args.waiting.now.items = omega (arith, c.len-to-in-Committed.ensures, c.try_together.new.waiting.ok.0, tries.keeps.count, so_far.keeps.count) in
    record {
      keeps = keeps_both c.args.waiting.now.items c.loop-from.waiting.items c.try_together.new.waiting.items c.args.self.now c.loop-from.self c.try_together.new.self so_far.keeps tries.keeps;
      first = so_far.last;
      last = omega (arith, all);
      order = omega (arith, all, so_far.last);
      some = λ more. omega (arith, all, more);
      store = feeds_then c.args.store.now c.loop-from.store c.try_together.new.store false so_far.store (Ok false) tries.store;
      settled = λ s waiting are.
          let before = so_far.settled s waiting are in
          settles_tried c.args.store.now s c.args.self.now.manner waiting c.loop-from.store c.try_together.new.store c.loop-from.from c.loop-from.to c.loop-from.self.manner so_far.keeps.manner
          c.in_ok-try_together.field-0 Committed c.in-Committed.is c.loop-from.refused c.loop-from.refused (sym (or-false c.loop-from.refused))
          (g.W.Write.contents c.args.writer.now) (g.W.Write.contents c.loop-from.writer) (g.W.Write.contents c.try_together.new.writer) before
          (tries.tried (after_rounds s before.rounds) waiting (so_far.keeps.waits waiting are));
    }

pub loop-from-preserved-in-Refused : goal.loop-from-preserved-in-Refused
loop-from-preserved-in-Refused g c =
    let so_far = c.loop-from.invariant in
    let tries = c.in_ok-try_together.ensures.tries in
    let all : c.len-to-in-Refused.result ≡ length c.args.waiting.now.items = omega (arith, c.len-to-in-Refused.ensures, c.try_together.new.waiting.ok.0, tries.keeps.count, so_far.keeps.count) in
    let lt : c.loop-from.from < length c.args.waiting.now.items = omega (arith, c.loop-from-test.true, c.len.ensures, c.loop-from.waiting.ok.0, so_far.keeps.count) in
    record {
      keeps = keeps_both c.args.waiting.now.items c.loop-from.waiting.items c.try_together.new.waiting.items c.args.self.now c.loop-from.self c.try_together.new.self so_far.keeps tries.keeps;
      first = omega (arith, lt);
      last = omega (arith, all);
      order = omega (arith, all, lt);
      some = λ more. omega (arith, all, more);
      store = feeds_then c.args.store.now c.loop-from.store c.try_together.new.store false so_far.store (Ok false) tries.store;
      settled = λ s waiting are.
          let before = so_far.settled s waiting are in
          settles_tried c.args.store.now s c.args.self.now.manner waiting c.loop-from.store c.try_together.new.store c.loop-from.from c.loop-from.to c.loop-from.self.manner so_far.keeps.manner
          c.in_ok-try_together.field-0 Refused c.in-Refused.is c.loop-from.refused true (or-true c.loop-from.refused)
          (g.W.Write.contents c.args.writer.now) (g.W.Write.contents c.loop-from.writer) (g.W.Write.contents c.try_together.new.writer) before
          (tries.tried (after_rounds s before.rounds) waiting (so_far.keeps.waits waiting are));
    }

pub loop-from-preserved : goal.loop-from-preserved
loop-from-preserved g c =
    let so_far = c.loop-from.invariant in
    let tries = c.in_ok-try_together.ensures.tries in
    let fewer : IsFewer c.loop-from.from c.loop-from.to (Undone c.in-Undone.place) = subst (IsFewer c.loop-from.from c.loop-from.to) c.in-Undone.is c.in_ok-try_together.ensures.fewer in
    record {
      keeps = keeps_both c.args.waiting.now.items c.loop-from.waiting.items c.try_together.new.waiting.items c.args.self.now c.loop-from.self c.try_together.new.self so_far.keeps tries.keeps;
      first = so_far.first;
      last = omega (arith, fewer.1, so_far.last);
      order = omega (arith, fewer.0);
      some = λ more. fewer.0;
      store = feeds_then c.args.store.now c.loop-from.store c.try_together.new.store false so_far.store (Ok false) tries.store;
      settled = λ s waiting are.
          let before = so_far.settled s waiting are in
          settles_tried c.args.store.now s c.args.self.now.manner waiting c.loop-from.store c.try_together.new.store c.loop-from.from c.loop-from.to c.loop-from.self.manner so_far.keeps.manner
          c.in_ok-try_together.field-0 (Undone c.in-Undone.place) c.in-Undone.is c.loop-from.refused c.loop-from.refused (sym (or-false c.loop-from.refused))
          (g.W.Write.contents c.args.writer.now) (g.W.Write.contents c.loop-from.writer) (g.W.Write.contents c.try_together.new.writer) before
          (tries.tried (after_rounds s before.rounds) waiting (so_far.keeps.waits waiting are));
    }

pub returns-in_err-try_together : goal.returns-in_err-try_together
returns-in_err-try_together g c =
    let so_far = c.loop-from.invariant in
    let tries = c.in_err-try_together.ensures.tries in
    let how = c.args.self.now.manner in
    let now = c.loop-from.store in
    let new = c.try_together.new.store in
    let why = c.in_err-try_together.field-0.0 in
    let a = g.W.Write.contents c.args.writer.now in
    let b = g.W.Write.contents c.loop-from.writer in
    let d = g.W.Write.contents c.try_together.new.writer in
    rw (passed_on _ c.from_residual.ensures.1)
    (record {
      manner = tries.keeps.manner ∙ so_far.keeps.manner;
      batch = tries.keeps.batch ∙ so_far.keeps.batch;
      store = feeds_then c.args.store.now now new false so_far.store (Err why) tries.store;
      settled = λ s waiting are.
          let before = so_far.settled s waiting are in
          let t = after_rounds s before.rounds in
          let told = subst (λ m. Tells m (λ text course. (rounds : List Round) × SettlesWaiting now new t m (drop c.loop-from.from waiting) text course rounds) (Err why) (between b d)) so_far.keeps.manner (tries.tried t waiting (so_far.keeps.waits waiting are)) in
          settles_last c.args.store.now s how waiting now (drop c.loop-from.from waiting) c.loop-from.refused a b before new why d told;
    })

pub returns : goal.returns
returns g c =
    let so_far = c.loop-from.invariant in
    let queue = c.args.waiting.now.items in
    let past : length queue ≤ c.loop-from.from = omega (arith, c.loop-from-test.false, c.len.ensures, c.loop-from.waiting.ok.0, so_far.keeps.count) in
    record {
      manner = so_far.keeps.manner;
      batch = so_far.keeps.batch;
      store = feeds_fine c.args.store.now c.loop-from.store false so_far.store c.loop-from.refused;
      settled = λ s waiting are.
          let none = drop_all c.loop-from.from waiting (omega (arith, past, are_count queue waiting are)) in
          settles_all c.args.store.now s c.args.self.now.manner waiting c.loop-from.store (drop c.loop-from.from waiting) c.loop-from.refused (g.W.Write.contents c.args.writer.now) (g.W.Write.contents c.loop-from.writer)
          (so_far.settled s waiting are) none (λ stop. let bad : Tell ≡ Stop = sym c.requires.telling ∙ stop in cc);
    }
