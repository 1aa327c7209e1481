use Rattle.std.proofs.Common.{◌||◌, ◌++◌, [], false, Err, Ok, arith, refl, rules, subst, sym, take, drop, ◌+◌}
use Rattle.vm_cli.specs.session.Feeds.{Fed, chunk}
use Rattle.vm_cli.specs.session.Known.{between}
use Rattle.vm_cli.specs.lines.Lines.{lines_of}
use Rattle.vm_cli.specs.session.Session.{ServesLines}
use Rattle.vm_cli.proofs.CarriedLemmas.{passed_on}
use Rattle.vm_cli.proofs.EndLemmas.{feeds_as, stays_then, feeds_none, feeds_then}
use Rattle.vm_cli.proofs.FeedLemmas.{ended-join, fed-join, fed-nothing, fed-part, line_is, line_split, or-false, part_before, whole_part}
use Rattle.vm_cli.proofs.Known.{split_more}
use Rattle.vm_cli.proofs.session.Session.feed.Goals as goal

pub loop-end-init : goal.loop-end-init
loop-end-init g c = record {
  done = [];
  split = refl;
  same = record { store = refl; writer = refl; manner = refl };
  store = feeds_none c.args.self.now.store.now false;
  fed = λ s from h. record { to = from; held = h; fed = fed-nothing c.args.self.now.store.now s c.args.self.now.manner from _ };
}

pub feed_line-requires : goal.feed_line-requires
feed_line-requires g c =
    let first = c.in-Some.ensures in
    part_before c.loop-end.rest.now c.in-Some.end (omega (arith, first.0.high)) (λ k lt. first.0.before k (omega arith) lt)

pub extend-requires : goal.extend-requires
extend-requires g c = whole_part c.loop-end.rest.now c.memchr.result c.memchr.ensures (search rules)

pub returns-in_err-refused : goal.returns-in_err-refused
returns-in_err-refused g c =
    let old = c.args.self.now.store.now in
    let mid = c.loop-end.self.store.now in
    let new = c.feed_line.new.self.store.now in
    let so_far = c.loop-end.invariant in
    let said = feeds_as g.W.Write.contents c.loop-end.self.manner c.args.self.now.manner so_far.same.manner c.in_err-refused.ensures in
    rw (passed_on _ c.from_residual.ensures.1)
    (record {
      same = stays_then c.args.self.now c.loop-end.self c.feed_line.new.self so_far.same said.same;
      store = feeds_then old mid new c.loop-end.refused so_far.store (Err c.in_err-refused.field-0.0) said.store;
      fed = λ s from h. tt;
      ended = λ s from h more.
          let before = g.W.Write.contents c.args.self.now.writer.now in
          let now = g.W.Write.contents c.feed_line.new.self.writer.now in
          let first = c.in-Some.ensures in
          let p = so_far.fed s from h in
          let rest = drop (c.in-Some.end + 1) c.loop-end.rest.now ++ more in
          let q = said.ended _ p.to p.held rest in
          let bytes = sym (line_split c.args.bytes.now so_far.done c.loop-end.rest.now more c.in-Some.end so_far.split first.0.high first.1) in
          subst (λ bs. ServesLines old new s c.args.self.now.manner (Err c.in_err-refused.field-0.0) (between before now) (lines_of (from ++ bs))) bytes
          (ended-join old mid new s c.args.self.now.manner _ _ _ from p.to before _ now p.fed c.in_err-refused.field-0.0 rest q);
    })

pub loop-end-preserved : goal.loop-end-preserved
loop-end-preserved g c =
    let old = c.args.self.now.store.now in
    let mid = c.loop-end.self.store.now in
    let new = c.feed_line.new.self.store.now in
    let before = g.W.Write.contents c.args.self.now.writer.now in
    let now = g.W.Write.contents c.feed_line.new.self.writer.now in
    let so_far = c.loop-end.invariant in
    let first = c.in-Some.ensures in
    let said = feeds_as g.W.Write.contents c.loop-end.self.manner c.args.self.now.manner so_far.same.manner c.in_ok-refused.ensures in
    let line = line_is c.loop-end.rest.now c.in-Some.end first.0.high first.1 in
    record {
      done = so_far.done ++ take (c.in-Some.end + 1) c.loop-end.rest.now;
      split = split_more c.args.bytes.now so_far.done c.loop-end.rest.now (c.in-Some.end + 1) so_far.split;
      same = stays_then c.args.self.now c.loop-end.self c.feed_line.new.self so_far.same said.same;
      store = feeds_then old mid new c.loop-end.refused so_far.store (Ok c.in_ok-refused.field-0) said.store;
      fed = λ s from h.
          let p = so_far.fed s from h in
          let q = said.fed _ p.to p.held in
          record {
            to = q.to;
            held = q.held;
            fed = subst (λ bs. Fed old new s c.args.self.now.manner (c.loop-end.refused || c.in_ok-refused.field-0) (chunk from (so_far.done ++ bs) q.to) (between before now)) (sym line)
                (fed-join old mid new s c.args.self.now.manner _ _ _ from p.to before _ now p.fed _ q.to q.fed);
          };
    }

pub returns : goal.returns
returns g c =
    let so_far = c.loop-end.invariant in
    record {
      same = so_far.same;
      store = so_far.store;
      fed = λ s from h.
          let before = g.W.Write.contents c.args.self.now.writer.now in
          let now = g.W.Write.contents c.loop-end.self.writer.now in
          let rest = c.loop-end.rest.now in
          let p = so_far.fed s from h in
          record {
            to = p.to ++ rest;
            held = c.extend.ensures p.to p.held;
            fed = subst (λ b. Fed c.args.self.now.store.now c.loop-end.self.store.now s c.args.self.now.manner b (chunk from c.args.bytes.now (p.to ++ rest)) (between before now)) (or-false c.loop-end.refused)
                (subst (λ bs. Fed c.args.self.now.store.now c.loop-end.self.store.now s c.args.self.now.manner (c.loop-end.refused || false) (chunk from bs (p.to ++ rest)) (between before now)) (sym so_far.split)
                (fed-join c.args.self.now.store.now c.loop-end.self.store.now c.loop-end.self.store.now s c.args.self.now.manner _ _ _ from p.to before _ now p.fed false (p.to ++ rest) (fed-part c.loop-end.self.store.now _ c.args.self.now.manner p.to rest now)));
          };
      ended = λ s from h more. tt;
    }
