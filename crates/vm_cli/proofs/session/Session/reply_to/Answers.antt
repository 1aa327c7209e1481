use Rattle.std.proofs.Common.{◌≡◌, arith, length, refl}
use Rattle.vm_types.specs.declared.refusal.Refusal.TheVariants.{Memory}
use Rattle.vm_cli.specs.session.Session.{HandlesLine}
use Rattle.vm_cli.specs.declared.answers.reply.Reply.TheVariants as reply
use Rattle.vm_cli.proofs.HandledLemmas.{kept_handled, long_handled, memory_handled, replied_whole}
use Rattle.vm_cli.proofs.EndLemmas.{nothing_asked}
use Rattle.vm_cli.proofs.session.Session.reply_to.Goals as goal

pub returns-in-Long : goal.returns-in-Long
returns-in-Long g c =
    let store = c.args.self.now.store.now in
    let none : length c.args.self.now.text ≡ 0 = rw c.requires refl in
    record {
      same = record { store = refl; writer = refl; manner = refl };
      room = omega (arith, none);
      store = nothing_asked store reply.LongLine refl;
      answer = λ s part h.
          replied_whole (HandlesLine store store s c.args.self.now.manner part) reply.LongLine _ c.args.self.now.text c.requires (long_handled store s c.args.self.now.manner c.args.line.now part h c.in-Long.is);
    }

pub returns-in-NoMemory : goal.returns-in-NoMemory
returns-in-NoMemory g c =
    let store = c.args.self.now.store.now in
    let none : length c.args.self.now.text ≡ 0 = rw c.requires refl in
    record {
      same = record { store = refl; writer = refl; manner = refl };
      room = omega (arith, none);
      store = nothing_asked store (reply.Refused Memory) refl;
      answer = λ s part h.
          replied_whole (HandlesLine store store s c.args.self.now.manner part) (reply.Refused Memory) _ c.args.self.now.text c.requires (memory_handled store s c.args.self.now.manner part);
    }

pub returns-in-Kept : goal.returns-in-Kept
returns-in-Kept g c =
    let said = c.reply_to_words.ensures in
    record {
      same = said.same;
      room = said.asks.room;
      store = said.asks.store;
      answer = λ s part h.
          kept_handled c.args.self.now.store.now c.reply_to_words.new.self.store.now s c.args.self.now.manner c.args.line.now part h c.in-Kept.is c.text.result.now c.text.ensures
          c.reply_to_words.result _ c.reply_to_words.new.self.text (said.asks.answers s);
    }
