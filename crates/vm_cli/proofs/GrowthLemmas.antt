-- Commands for which a store may grow.
use Rattle.std.proofs.Common.{◌≡◌, ◌⊎◌, ◌≤◌, ◌∙◌, inl, inr, ℕ, true, false, Result, Err, ap, sym}
use Rattle.vm_types.specs.declared.answer.Answer.{Answer}
use Rattle.vm_types.specs.declared.command.Command.{Command}
use Rattle.vm_types.specs.declared.refusal.Refusal.{Refusal}
use Rattle.vm_types.specs.declared.refusal.Refusal.TheVariants.{Device, Failed, Full}
use Rattle.vm_store.specs.Store.{blocks_of, has_failed}
use Rattle.vm_store.specs.declared.store.Store.{Store}
use Rattle.vm_cli.specs.session.Feeds.{SessionGoesOn, TriesBy}
use Rattle.vm_cli.specs.answers.Replies.{ends_session, reply_text}
use Rattle.vm_cli.specs.session.Session.{answer_text}
use Rattle.vm_cli.specs.declared.answers.reply.Reply.{Reply}
use Rattle.vm_cli.proofs.ChainLemmas.{tries_once}
use Rattle.vm_cli.proofs.EndLemmas.{applied_ends}
use Rattle.vm_cli.proofs.HandledLemmas.{Applied}
use Rattle.vm_cli.proofs.PassLemmas.{failed_or}

module _ {D : Type 0} {members : _} (command : Command) (old new : Store D members) (answer : Result Answer Refusal) (applied : Applied old new command answer) where
  -- its answer is the last
  pub tries_last : (left most : ℕ) (reply : Reply) → reply_text reply ≡ answer_text answer → SessionGoesOn answer reply → (answer ≡ Err Device → ends_session reply ≡ true) → (answer ≡ Err Failed → ends_session reply ≡ true)
      → (has_failed old ≡ false → answer ≡ Err Full → (most ≤ blocks_of new) ⊎ (left ≡ 0)) → TriesBy left most command reply old new
  tries_last left most reply text goes_on device failed full = record {
    store = applied_ends old new command answer applied reply goes_on device;
    refused = λ was. (text ∙ ap answer_text (applied.refused was).0, failed (applied.refused was).0);
    tried = λ sound. tries_once left most command old new answer (reply_text reply) (applied.done sound) text (full sound);
  }

  -- a store that answers Full had not failed
  pub full_before : answer ≡ Err Full → has_failed old ≡ false
  full_before full = either (failed_or (has_failed old))
    where
      either : (has_failed old ≡ false) ⊎ (has_failed old ≡ true) → has_failed old ≡ false
      either (inl sound) = sound
      either (inr was) = let never = sym full ∙ (applied.refused was).0 in absurd cc
