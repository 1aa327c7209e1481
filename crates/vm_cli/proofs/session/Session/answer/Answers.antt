use Rattle.std.proofs.Common.{◌≡◌, true, false, ap, refl, sym, ◌∙◌}
use Rattle.vm_cli.specs.session.Session.{HandlesLine}
use Rattle.vm_cli.specs.declared.session.Manner.{Manner}
use Rattle.vm_cli.specs.declared.session.OnRefusal.TheVariants.{Ignore, Stop, Tell}
use Rattle.vm_cli.specs.declared.session.ServeFault.TheVariants.{Refused, Write}
use Rattle.vm_cli.proofs.EndLemmas.{feeds_ended, feeds_on, feeds_stopped}
use Rattle.vm_cli.proofs.WritesLemmas.{writes-all, writes-begun, writes-halted, writes-last, writes-refused}
use Rattle.vm_cli.proofs.session.Session.answer.Goals as goal

pub returns-in_default : goal.returns-in_default
returns-in_default g c =
    let said = c.in_default.ensures in
    record {
      same = record { store = said.same.store; writer = said.same.writer; manner = said.same.manner };
      store = feeds_stopped c.args.self.now.store.now c.reply_to.new.self.store.now _ said.store Write tt;
      answer = λ s part h. writes-halted c.args.self.now.manner (HandlesLine c.args.self.now.store.now c.reply_to.new.self.store.now s c.args.self.now.manner part) _ _ (said.answer s part h);
    }

pub returns-in_default-send : goal.returns-in_default-send
returns-in_default-send g c =
    let said = c.in-Ok.ensures in
    record {
      same = record { store = said.same.store; writer = said.same.writer; manner = said.same.manner };
      store = feeds_stopped c.args.self.now.store.now c.reply_to.new.self.store.now _ said.store Write tt;
      answer = λ s part h.
          writes-begun c.args.self.now.manner (HandlesLine c.args.self.now.store.now c.reply_to.new.self.store.now s c.args.self.now.manner part) _ _ _ c.in-Ok.reply c.reply_to.new.self.text (said.answer s part h) c.in_default-send.ensures.err;
    }

pub returns-then-is_last : goal.returns-then-is_last
returns-then-is_last g c =
    let said = c.in-Ok.ensures in
    let ends = sym c.is_last.ensures ∙ c.if-is_last.true in
    record {
      same = record { store = said.same.store; writer = said.same.writer; manner = said.same.manner };
      store = feeds_ended c.args.self.now.store.now c.reply_to.new.self.store.now c.in-Ok.reply said.store ends;
      answer = λ s part h.
          writes-last c.args.self.now.manner (HandlesLine c.args.self.now.store.now c.reply_to.new.self.store.now s c.args.self.now.manner part) _ _ _ c.in-Ok.reply c.reply_to.new.self.text (said.answer s part h) ends c.in-Ok-send.ensures.ok;
    }

pub returns-in-Ignore : goal.returns-in-Ignore
returns-in-Ignore g c =
    let said = c.in-Ok.ensures in
    let goes_on = sym c.is_last.ensures ∙ c.if-is_last.false in
    record {
      same = record { store = said.same.store; writer = said.same.writer; manner = said.same.manner };
      store = feeds_on c.args.self.now.store.now c.reply_to.new.self.store.now c.in-Ok.reply said.store goes_on true;
      answer = λ s part h.
          writes-all c.args.self.now.manner (HandlesLine c.args.self.now.store.now c.reply_to.new.self.store.now s c.args.self.now.manner part) _ _ _ c.in-Ok.reply c.reply_to.new.self.text (said.answer s part h) true goes_on
          (sym c.if-is_refusal.true ∙ c.is_refusal.ensures) (λ stop. let bad : Ignore ≡ Stop = sym c.in-Ignore.is ∙ (ap (λ (on : Manner). on.on_refusal) said.same.manner ∙ stop) in cc) c.in-Ok-send.ensures.ok;
    }

pub returns-in-Tell : goal.returns-in-Tell
returns-in-Tell g c =
    let said = c.in-Ok.ensures in
    let goes_on = sym c.is_last.ensures ∙ c.if-is_last.false in
    record {
      same = record { store = said.same.store; writer = said.same.writer; manner = said.same.manner };
      store = feeds_on c.args.self.now.store.now c.reply_to.new.self.store.now c.in-Ok.reply said.store goes_on true;
      answer = λ s part h.
          writes-all c.args.self.now.manner (HandlesLine c.args.self.now.store.now c.reply_to.new.self.store.now s c.args.self.now.manner part) _ _ _ c.in-Ok.reply c.reply_to.new.self.text (said.answer s part h) true goes_on
          (sym c.if-is_refusal.true ∙ c.is_refusal.ensures) (λ stop. let bad : Tell ≡ Stop = sym c.in-Tell.is ∙ (ap (λ (on : Manner). on.on_refusal) said.same.manner ∙ stop) in cc) c.in-Ok-send.ensures.ok;
    }

pub returns-in-Stop : goal.returns-in-Stop
returns-in-Stop g c =
    let said = c.in-Ok.ensures in
    record {
      same = record { store = said.same.store; writer = said.same.writer; manner = said.same.manner };
      store = feeds_stopped c.args.self.now.store.now c.reply_to.new.self.store.now _ said.store Refused tt;
      answer = λ s part h.
          writes-refused c.args.self.now.manner (HandlesLine c.args.self.now.store.now c.reply_to.new.self.store.now s c.args.self.now.manner part) _ _ _ c.in-Ok.reply c.reply_to.new.self.text (said.answer s part h) (sym c.is_last.ensures ∙ c.if-is_last.false)
          (sym c.is_refusal.ensures ∙ c.if-is_refusal.true) (sym (ap (λ (on : Manner). on.on_refusal) said.same.manner) ∙ c.in-Stop.is) c.in-Ok-send.ensures.ok;
    }

pub returns : goal.returns
returns g c =
    let said = c.in-Ok.ensures in
    let goes_on = sym c.is_last.ensures ∙ c.if-is_last.false in
    record {
      same = record { store = said.same.store; writer = said.same.writer; manner = said.same.manner };
      store = feeds_on c.args.self.now.store.now c.reply_to.new.self.store.now c.in-Ok.reply said.store goes_on false;
      answer = λ s part h.
          writes-all c.args.self.now.manner (HandlesLine c.args.self.now.store.now c.reply_to.new.self.store.now s c.args.self.now.manner part) _ _ _ c.in-Ok.reply c.reply_to.new.self.text (said.answer s part h) false goes_on
          (sym c.if-is_refusal.false ∙ c.is_refusal.ensures) (λ stop. refl) c.in-Ok-send.ensures.ok;
    }
