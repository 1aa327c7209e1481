use Rattle.std.proofs.Common.{◌≡◌, ◌-◌, Err, Ok, arith, inl, inr, rules}
use Rattle.vm_types.specs.declared.command.Command.TheVariants.{Grow}
use Rattle.vm_types.specs.declared.refusal.Refusal.TheVariants.{Full}
use Rattle.vm_store.specs.Store.{blocks_of}
use Rattle.vm_cli.specs.answers.Replies.{reply_text}
use Rattle.vm_cli.proofs.ChainLemmas.{counted_blocks, full_sound, grown_sound, grows_first, tries_again, tries_no_more}
use Rattle.vm_cli.proofs.EndLemmas.{applied_ends, ends_after}
use Rattle.vm_cli.proofs.GrowthLemmas.{full_before, tries_last}
use Rattle.vm_cli.proofs.PassLemmas.{grows_any, grows_both, never_both}
use Rattle.vm_cli.proofs.session.growth.+carry_out.Goals as goal

pub returns-then-not-is_full : goal.returns-then-not-is_full
returns-then-not-is_full g t c =
    let said = c.apply-answer.ensures in
    let answered = c.answered.ensures in
    tries_last c.args.command.now c.args.store.now c.apply-answer.new.self c.apply-answer.result (record { refused = said.refused; done = said.done }) c.args.growths c.args.most c.answered.result answered.text answered.last answered.device answered.failed
    (λ sound full. absurd (search (rules, full)))

pub returns-then-growths-eq0 : goal.returns-then-growths-eq0
returns-then-growths-eq0 g t c =
    let said = c.apply-answer.ensures in
    let answered = c.answered-then-growths-eq0.ensures in
    tries_last c.args.command.now c.args.store.now c.apply-answer.new.self c.apply-answer.result (record { refused = said.refused; done = said.done }) c.args.growths c.args.most c.answered-then-growths-eq0.result answered.text answered.last answered.device answered.failed
    (λ sound full. inr c.if-growths-eq0.true)

pub returns-in_default : goal.returns-in_default
returns-in_default g t c =
    let said = c.apply-answer.ensures in
    let answered = c.answered-in_default.ensures in
    tries_last c.args.command.now c.args.store.now c.apply-answer.new.self c.apply-answer.result (record { refused = said.refused; done = said.done }) c.args.growths c.args.most c.answered-in_default.result answered.text answered.last answered.device answered.failed
    (λ sound full.
    let fine = full_sound c.args.store.now c.apply-answer.new.self c.args.command.now c.apply-answer.result (said.done sound) full in
    let counted = c.in_default.ensures.counted fine in
    absurd cc)

pub returns-then-blocks-most : goal.returns-then-blocks-most
returns-then-blocks-most g t c =
    let said = c.apply-answer.ensures in
    let answered = c.answered-then-blocks-most.ensures in
    tries_last c.args.command.now c.args.store.now c.apply-answer.new.self c.apply-answer.result (record { refused = said.refused; done = said.done }) c.args.growths c.args.most c.answered-then-blocks-most.result answered.text answered.last answered.device answered.failed
    (λ sound full.
    let fine = full_sound c.args.store.now c.apply-answer.new.self c.args.command.now c.apply-answer.result (said.done sound) full in
    let counted = counted_blocks c.blocks-2.result c.in-Ok.blocks (blocks_of c.apply-answer.new.self) c.in-Ok.is (c.blocks-2.ensures.counted fine) in
    inl (omega (arith, counted, c.if-blocks-most.true)))

pub returns-in-Ok-apply : goal.returns-in-Ok-apply
returns-in-Ok-apply g t c =
    let said = c.apply-answer.ensures in
    let full : c.apply-answer.result ≡ Err Full = search rules in
    let sound = full_before c.args.command.now c.args.store.now c.apply-answer.new.self c.apply-answer.result (record { refused = said.refused; done = said.done }) full in
    let tried = said.done sound in
    let fine = full_sound c.args.store.now c.apply-answer.new.self c.args.command.now c.apply-answer.result tried full in
    let counted = counted_blocks c.blocks-2.result c.in-Ok.blocks (blocks_of c.apply-answer.new.self) c.in-Ok.is (c.blocks-2.ensures.counted fine) in
    let grown = c.in-Ok-apply.ensures.done fine in
    let later = grown_sound c.apply-answer.new.self c.apply.new.self (Grow c.larger-blocks.result) c.in-Ok-apply.field-0 grown in
    let first = grows_first c.args.most c.args.command.now c.args.store.now c.apply-answer.new.self c.apply.new.self c.apply-answer.result (Ok c.in-Ok-apply.field-0) c.in-Ok.blocks c.larger-blocks.result full tried counted
    (omega (arith, c.if-blocks-most.false)) c.larger-blocks.ensures grown in
    record {
      store = ends_after c.args.store.now c.apply.new.self c.carry_out.new.store (grows_both _ _ _ (grows_any _ _ _ tried.performs.goes) (grows_any _ _ _ grown.performs.goes)) sound later (Ok c.carry_out.result) c.carry_out.ensures.store;
      refused = λ was. absurd (never_both _ sound was);
      tried = λ was.
          tries_again (c.args.growths - 1) c.args.growths c.args.most (omega (arith, c.if-growths-eq0.false)) c.args.command.now c.args.store.now c.apply.new.self c.carry_out.new.store (Grow c.larger-blocks.result)
          c.apply-answer.result c.in-Ok-apply.field-0 (reply_text c.carry_out.result) first (c.carry_out.ensures.tried later);
    }

pub returns : goal.returns
returns g t c =
    let said = c.apply-answer.ensures in
    let full : c.apply-answer.result ≡ Err Full = search rules in
    let sound = full_before c.args.command.now c.args.store.now c.apply-answer.new.self c.apply-answer.result (record { refused = said.refused; done = said.done }) full in
    let tried = said.done sound in
    let fine = full_sound c.args.store.now c.apply-answer.new.self c.args.command.now c.apply-answer.result tried full in
    let counted = counted_blocks c.blocks-2.result c.in-Ok.blocks (blocks_of c.apply-answer.new.self) c.in-Ok.is (c.blocks-2.ensures.counted fine) in
    let refused = c.in-Err.ensures in
    let answered = c.answered-in-Err.ensures in
    let first = grows_first c.args.most c.args.command.now c.args.store.now c.apply-answer.new.self c.apply.new.self c.apply-answer.result (Err c.in-Err.refusal) c.in-Ok.blocks c.larger-blocks.result full tried counted
    (omega (arith, c.if-blocks-most.false)) c.larger-blocks.ensures (refused.done fine) in
    record {
      store = ends_after c.args.store.now c.apply-answer.new.self c.apply.new.self (grows_any _ _ _ tried.performs.goes) sound fine (Ok c.answered-in-Err.result)
          (applied_ends c.apply-answer.new.self c.apply.new.self (Grow c.larger-blocks.result) (Err c.in-Err.refusal) (record { refused = refused.refused; done = refused.done }) c.answered-in-Err.result answered.last answered.device);
      refused = λ was. absurd (never_both _ sound was);
      tried = λ was.
          tries_no_more (c.args.growths - 1) c.args.growths c.args.most (omega (arith, c.if-growths-eq0.false)) c.args.command.now c.args.store.now c.apply.new.self (Grow c.larger-blocks.result) c.apply-answer.result c.in-Err.refusal
          (reply_text c.answered-in-Err.result) first answered.text;
    }
