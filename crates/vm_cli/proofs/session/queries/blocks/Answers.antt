use Rattle.std.proofs.Common.{◌≡◌, ◌∙◌, ap, refl, sym}
use Rattle.vm_store.specs.Store.{blocks_of, has_failed}
use Rattle.vm_cli.specs.lines.Asking.{Request}
use Rattle.vm_cli.specs.answers.Replies.{reply_text}
use Rattle.vm_cli.specs.declared.answers.reply.Reply.TheVariants as reply
use Rattle.vm_cli.proofs.HandledLemmas.{refusal_handled, told}
use Rattle.vm_cli.proofs.PassLemmas.{passes_none}
use Rattle.vm_cli.proofs.SessionLemmas.{was_sound}
use Rattle.vm_cli.proofs.EndLemmas.{never_ends}
use Rattle.vm_cli.proofs.session.queries.blocks.Goals as goal

pub returns-in-Ok : goal.returns-in-Ok
returns-in-Ok g c =
    let store = c.args.store.now in
    let said = c.in-Ok.ensures in
    let sound = was_sound (has_failed store) c.in-Ok.count said.failed in
    let same : c.in-Ok.count ≡ blocks_of store = (let counted = said.counted sound in cc) in
    record {
      store = never_ends store _ (λ fine. refl);
      answers = λ s.
          told store store s Request.Blocks (passes_none store) refl (λ failed. refl) (λ stood. stood.holds)
          _ sound (refl, sound, (refl, (ap (λ n. reply_text (reply.Blocks n)) same, λ holds. sym same ∙ (let is = said.value sound s holds in cc))), tt);
    }

pub returns-in-Err : goal.returns-in-Err
returns-in-Err g c =
    let store = c.args.store.now in
    let said = c.in-Err.ensures in
    let refusal = c.in-Err.refusal in
    record {
      store = never_ends store _ (λ sound. c.from_refusal.ensures.last (λ is. let counted = said.counted sound in cc));
      answers = λ s.
          refusal_handled store store s Request.Blocks (passes_none store) refl (λ failed. refl) (λ stood. stood.holds)
          refusal c.from_refusal.result c.from_refusal.ensures.text c.from_refusal.ensures.last c.from_refusal.ensures.failed (λ failed. let e = said.failed failed in cc)
          (λ sound is. let counted = said.counted sound in cc)
          (λ text ends is last. (is, last))
          (λ sound. let counted = said.counted sound in absurd cc);
    }
