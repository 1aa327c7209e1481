use Rattle.std.proofs.Common.{◌++◌, [], ◌∷◌}
use Rattle.vm_cli.specs.session.Feeds.{Fed, chunk}
use Rattle.vm_cli.specs.session.Known.{between}
use Rattle.vm_cli.proofs.CarriedLemmas.{passed_on}
use Rattle.vm_cli.proofs.FeedLemmas.{ended-line, fed-line}
use Rattle.vm_cli.proofs.session.Session.feed_line.Goals as goal

pub returns-in_err-refused : goal.returns-in_err-refused
returns-in_err-refused g c =
    let said = c.in_err-refused.ensures in
    rw (passed_on _ c.from_residual.ensures.1)
    (record {
      same = said.same;
      store = said.store;
      fed = λ s from h. tt;
      ended = λ s from h more.
          let before = g.W.Write.contents c.args.self.now.writer.now in
          let after = g.W.Write.contents c.answer.new.self.writer.now in
          let held = c.extend.ensures from h in
          ended-line c.args.self.now.store.now c.answer.new.self.store.now s c.args.self.now.manner from c.args.bytes.now held.unbroken before after _ more (said.answer s (from ++ c.args.bytes.now) held);
    })

pub returns : goal.returns
returns g c =
    let said = c.in_ok-refused.ensures in
    record {
      same = said.same;
      store = said.store;
      fed = λ s from h.
          let before = g.W.Write.contents c.args.self.now.writer.now in
          let after = g.W.Write.contents c.answer.new.self.writer.now in
          let held = c.extend.ensures from h in
          let fed : Fed c.args.self.now.store.now c.answer.new.self.store.now s c.args.self.now.manner c.in_ok-refused.refused (chunk from (c.args.bytes.now ++ 10 ∷ []) []) (between before after) =
          fed-line c.args.self.now.store.now c.answer.new.self.store.now s c.args.self.now.manner from c.args.bytes.now held.unbroken before after c.in_ok-refused.refused (said.answer s (from ++ c.args.bytes.now) held) in
          record { to = []; held = c.clear.ensures; fed = fed };
      ended = λ s from h more. tt;
    }
