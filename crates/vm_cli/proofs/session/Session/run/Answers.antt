use Rattle.std.proofs.Common.{◌≡◌, ◌∙◌, [], false, Ok, Err, refl, sym, arith, rules}
use Rattle.std.proofs.KnownBytes.{Consumes-nil, Consumes-trans}
use Rattle.vm_cli.proofs.CarriedLemmas.{passed_on}
use Rattle.vm_cli.proofs.EndLemmas.{answers_as, feeds_as, serves_on, serves_unread, stays_then, feeds_none, feeds_then}
use Rattle.vm_cli.proofs.FeedLemmas.{ended-join, fed-join, fed-nothing, joined}
use Rattle.vm_cli.proofs.ServeLemmas.{read-all, serves-all, serves-last, serves-read, serves-some}
use Rattle.vm_cli.proofs.session.Session.run.Goals as goal

pub loop-init : goal.loop-init
loop-init g c = record {
  same = record { store = refl; writer = refl; manner = refl };
  store = feeds_none c.args.self.now.store.now false;
  bytes = [];
  read = Consumes-nil (g.R.Read.remaining c.args.reader.now);
  fed = λ s. record { to = []; held = c.new-line.ensures; fed = fed-nothing c.args.self.now.store.now s c.args.self.now.manner [] (g.W.Write.contents c.args.self.now.writer.now) };
}

pub returns-then-line : goal.returns-then-line
returns-then-line g c =
    let so_far = c.loop.invariant in
    let more = c.in-Ok-eq0.ensures.bytes in
    let none : c.in-Ok-eq0.field-0 ≡ 0 = omega (arith, c.in-Ok-eq0.field-0-test) in
    let at_end = more.1 none (search rules) in
    record {
      same = so_far.same;
      end = at_end;
      store = serves_on c.args.self.now.store.now c.loop.self.store.now (Ok c.loop.refused) so_far.store;
      answers = λ s.
          let p = so_far.fed s in
          let before = g.W.Write.contents c.args.self.now.writer.now in
          let now = g.W.Write.contents c.loop.self.writer.now in
          serves-all c.args.self.now.store.now c.loop.self.store.now s c.args.self.now.manner c.loop.refused so_far.bytes p.to before now p.fed _
          (read-all _ _ _ so_far.bytes _ c.in-Ok-eq0.field-0 so_far.read more.0 none at_end) (sym p.held.empty ∙ c.if-line.true);
    }

pub returns-in-Ok-eq0 : goal.returns-in-Ok-eq0
returns-in-Ok-eq0 g c =
    let old = c.args.self.now.store.now in
    let mid = c.loop.self.store.now in
    let new = c.answer.new.self.store.now in
    let so_far = c.loop.invariant in
    let more = c.in-Ok-eq0.ensures.bytes in
    let none : c.in-Ok-eq0.field-0 ≡ 0 = omega (arith, c.in-Ok-eq0.field-0-test) in
    let at_end = more.1 none (search rules) in
    let said = answers_as g.W.Write.contents c.loop.self.manner c.args.self.now.manner so_far.same.manner c.in_ok-last-in-Ok-eq0.ensures in
    let last = c.in_ok-last-in-Ok-eq0.last in
    record {
      same = stays_then c.args.self.now c.loop.self c.answer.new.self so_far.same said.same;
      end = at_end;
      store = serves_on old new (joined c.loop.refused (Ok last)) (feeds_then old mid new c.loop.refused so_far.store (Ok last) said.store);
      answers = λ s.
          let p = so_far.fed s in
          let before = g.W.Write.contents c.args.self.now.writer.now in
          let now = g.W.Write.contents c.answer.new.self.writer.now in
          serves-last old mid s c.args.self.now.manner c.loop.refused so_far.bytes p.to before _ p.fed new now _ (Ok last)
          (read-all _ _ _ so_far.bytes _ c.in-Ok-eq0.field-0 so_far.read more.0 none at_end) p.held.unbroken (sym p.held.empty ∙ c.if-line.false) (said.answer _ p.to p.held);
    }

pub returns-in_err-last-in-Ok-eq0 : goal.returns-in_err-last-in-Ok-eq0
returns-in_err-last-in-Ok-eq0 g c =
    let old = c.args.self.now.store.now in
    let mid = c.loop.self.store.now in
    let new = c.answer.new.self.store.now in
    let so_far = c.loop.invariant in
    let said = answers_as g.W.Write.contents c.loop.self.manner c.args.self.now.manner so_far.same.manner c.in_err-last-in-Ok-eq0.ensures in
    let why = c.in_err-last-in-Ok-eq0.field-0.0 in
    rw (passed_on _ c.from_residual.ensures.1)
    (record {
      same = stays_then c.args.self.now c.loop.self c.answer.new.self so_far.same said.same;
      end = tt;
      store = serves_on old new (Err why) (feeds_then old mid new c.loop.refused so_far.store (Err why) said.store);
      answers = λ s.
          let p = so_far.fed s in
          let more = c.in-Ok-eq0.ensures.bytes in
          let none : c.in-Ok-eq0.field-0 ≡ 0 = omega (arith, c.in-Ok-eq0.field-0-test) in
          let before = g.W.Write.contents c.args.self.now.writer.now in
          let now = g.W.Write.contents c.answer.new.self.writer.now in
          serves-last old mid s c.args.self.now.manner c.loop.refused so_far.bytes p.to before _ p.fed new now _ (Err why)
          (read-all _ _ _ so_far.bytes _ c.in-Ok-eq0.field-0 so_far.read more.0 none (more.1 none (search rules))) p.held.unbroken (sym p.held.empty ∙ c.if-line.false) (said.answer _ p.to p.held);
    })

pub returns-in_err-refused-in-Ok : goal.returns-in_err-refused-in-Ok
returns-in_err-refused-in-Ok g c =
    let old = c.args.self.now.store.now in
    let mid = c.loop.self.store.now in
    let new = c.feed.new.self.store.now in
    let so_far = c.loop.invariant in
    let said = feeds_as g.W.Write.contents c.loop.self.manner c.args.self.now.manner so_far.same.manner c.in_err-refused-in-Ok.ensures in
    let why = c.in_err-refused-in-Ok.field-0.0 in
    rw (passed_on _ c.from_residual-in_err-refused-in-Ok.ensures.1)
    (record {
      same = stays_then c.args.self.now c.loop.self c.feed.new.self so_far.same said.same;
      end = tt;
      store = serves_on old new (Err why) (feeds_then old mid new c.loop.refused so_far.store (Err why) said.store);
      answers = λ s.
          let p = so_far.fed s in
          let before = g.W.Write.contents c.args.self.now.writer.now in
          let now = g.W.Write.contents c.feed.new.self.writer.now in
          let q = said.ended _ p.to p.held in
          serves-some old new s c.args.self.now.manner (Err why) before now (g.R.Read.remaining c.args.reader.now) (g.R.Read.remaining c.read.new.self) _
          (Consumes-trans _ _ _ so_far.bytes _ so_far.read c.in-Ok.ensures.bytes.0)
          (λ more. ended-join old mid new s c.args.self.now.manner _ so_far.bytes _ [] p.to before _ now p.fed why more (q more));
    })

pub returns-in-Err : goal.returns-in-Err
returns-in-Err g c =
    let so_far = c.loop.invariant in
    record {
      same = so_far.same;
      end = tt;
      store = serves_unread c.args.self.now.store.now c.loop.self.store.now c.loop.refused so_far.store;
      answers = λ s.
          let p = so_far.fed s in
          serves-read c.args.self.now.store.now c.loop.self.store.now s c.args.self.now.manner c.loop.refused so_far.bytes p.to (g.W.Write.contents c.args.self.now.writer.now) (g.W.Write.contents c.loop.self.writer.now) p.fed
          (g.R.Read.remaining c.args.reader.now) (g.R.Read.remaining c.loop.reader) so_far.read;
    }

pub returns : goal.returns
returns g c =
    let so_far = c.loop.invariant in
    record {
      same = so_far.same;
      end = tt;
      store = serves_unread c.args.self.now.store.now c.loop.self.store.now c.loop.refused so_far.store;
      answers = λ s.
          let p = so_far.fed s in
          serves-read c.args.self.now.store.now c.loop.self.store.now s c.args.self.now.manner c.loop.refused so_far.bytes p.to (g.W.Write.contents c.args.self.now.writer.now) (g.W.Write.contents c.loop.self.writer.now) p.fed
          (g.R.Read.remaining c.args.reader.now) (g.R.Read.remaining c.loop.reader) so_far.read;
    }

pub loop-preserved : goal.loop-preserved
loop-preserved g c =
    let old = c.args.self.now.store.now in
    let mid = c.loop.self.store.now in
    let new = c.feed.new.self.store.now in
    let so_far = c.loop.invariant in
    let said = feeds_as g.W.Write.contents c.loop.self.manner c.args.self.now.manner so_far.same.manner c.in_ok-refused-in-Ok.ensures in
    let before = g.W.Write.contents c.args.self.now.writer.now in
    let now = g.W.Write.contents c.feed.new.self.writer.now in
    record {
      same = stays_then c.args.self.now c.loop.self c.feed.new.self so_far.same said.same;
      store = feeds_then old mid new c.loop.refused so_far.store (Ok c.in_ok-refused-in-Ok.field-0) said.store;
      bytes = _;
      read = Consumes-trans _ _ _ so_far.bytes _ so_far.read c.in-Ok.ensures.bytes.0;
      fed = λ s.
          let p = so_far.fed s in
          let q = said.fed _ p.to p.held in
          record { to = q.to; held = q.held; fed = fed-join old mid new s c.args.self.now.manner _ so_far.bytes _ [] p.to before _ now p.fed _ q.to q.fed };
    }
