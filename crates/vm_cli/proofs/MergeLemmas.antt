-- Merges with a side for all conflicts.
use Rattle.std.proofs.Common.{◌≡◌, ◌≢◌, ◌⊎◌, inl, inr, ℕ, Bool, true, false, List, [], Option, Some, None, Result, Ok, Err, IsOk, refl, sym, ap, subst, ◌∙◌}
use Rattle.std.proofs.lemmas.List.{append-nil}
use Rattle.vm_types.specs.Queries.{IsListing, conflicts_in}
use Rattle.vm_types.specs.State.{State}
use Rattle.vm_types.specs.declared.change.Conflict.{Conflict}
use Rattle.vm_types.specs.declared.command.Command.{Command}
use Rattle.vm_types.specs.declared.command.Command.TheVariants.{Merge}
use Rattle.vm_types.specs.declared.command.Side.{Side}
use Rattle.vm_types.specs.declared.key.Key.{Key}
use Rattle.vm_types.specs.declared.refusal.Refusal.{Refusal}
use Rattle.vm_types.specs.declared.refusal.Refusal.TheVariants.{Device, Failed, Memory}
use Rattle.vm_store.specs.Queries.{Queries}
use Rattle.vm_store.specs.Store.{Holds, has_failed}
use Rattle.vm_store.specs.declared.store.Store.{Store}
use Rattle.vm_cli.specs.lines.Asking.{Request}
use Rattle.vm_cli.specs.session.Feeds.{AsksBy, HandlesRequest}
use Rattle.vm_cli.specs.answers.Replies.{ends_session, reply_text}
use Rattle.vm_cli.specs.lines.Requests.{asked_in, limit_of}
use Rattle.vm_cli.specs.lines.Settlements.{for_all}
use Rattle.vm_cli.specs.session.Session.{AnsweredRequest, AnswersWithin, Done, Failing, Meets, Passes, RefusesMerge, Stood, after_line, error_text}
use Rattle.vm_cli.specs.session.Session.AnsweredRequest.{had_failed, met}
use Rattle.vm_cli.specs.declared.answers.reply.Reply.{Reply}
use Rattle.vm_cli.specs.declared.answers.reply.Reply.TheVariants as reply
use Rattle.vm_cli.specs.declared.session.OnCommand.{OnCommand}
use Rattle.vm_cli.specs.declared.session.OnCommand.TheVariants.{CarryOut, GrowIfFull, Refuse}
use Rattle.vm_cli.proofs.EndLemmas.{ends_after}
use Rattle.vm_cli.proofs.HandledLemmas.{refusal_handled, request_as, told}
use Rattle.vm_cli.proofs.PassLemmas.{goes_any, grows_both, never_both, passes_command, passes_reads}
use Rattle.vm_cli.proofs.SessionLemmas.{was_sound}

-- in a session that refuses no command
all_in : (on : OnCommand) (alt : List ℕ) (side : Side) (settled : List (Key × Side)) → on ≢ Refuse → asked_in on (Request.MergeAll None alt side settled) ≡ Request.MergeAll (limit_of on) alt side settled
all_in CarryOut alt side settled not = refl
all_in (GrowIfFull most) alt side settled not = refl
all_in Refuse alt side settled not = absurd (not refl)

module _ {D : Type 0} {members : _} (mid new : Store D members) (s : State) (command : Command) where
  within : (on : OnCommand) (text : List ℕ) (was : Done) → on ≢ Refuse → Meets mid new s (asked_in on (Request.Command command)) text was → AnswersWithin (limit_of on) mid new command text was
  within CarryOut text was not meets = meets
  within (GrowIfFull most) text was not meets = meets
  within Refuse text was not meets = absurd (not refl)

  none_within : (limit : Option ℕ) (text : List ℕ) → AnswersWithin limit mid new command text None → ⊥
  none_within None text answers = answers
  none_within (Some most) text answers = answers

module _ {D : Type 0} {members : _} (on : OnCommand) (not : on ≢ Refuse) (alt : List ℕ) (side : Side) (settled : List (Key × Side)) (old mid : Store D members) (asks : Passes old mid None) (same : has_failed mid ≡ has_failed old)
    (left : has_failed old ≡ true → mid ≡ old) (holds : (s : State) → Stood old mid s → Holds mid s) where
  abbrev asked : Request
  asked = Request.MergeAll (limit_of on) alt side settled

  -- it is refused before it begins
  refused_by : (reply : Reply) → ((s : State) → HandlesRequest old mid s asked (reply_text reply) (ends_session reply)) → (has_failed old ≡ false → ends_session reply ≡ has_failed mid) → AsksBy (asked_in on (Request.MergeAll None alt side settled)) reply old mid
  refused_by reply handled last = record {
    store = record {
      goes = asks.goes;
      last = last;
      failing = λ sound failed. absurd (never_both _ (same ∙ sound) failed);
      left = left;
    };
    answers = λ s. request_as old mid s _ asked (all_in on alt side settled not) _ _ (handled s);
  }

  -- its conflicts could not be told
  conflicts_refused : (refusal : Refusal) (reply : Reply) → reply_text reply ≡ error_text refusal → (refusal ≢ Failed → ends_session reply ≡ false) → (refusal ≡ Failed → ends_session reply ≡ true)
      → (has_failed old ≡ true → refusal ≡ Failed) → (has_failed old ≡ false → refusal ≢ Failed) → ((s : State) → has_failed old ≡ false → RefusesMerge old mid s alt (reply_text reply))
      → AsksBy (asked_in on (Request.MergeAll None alt side settled)) reply old mid
  conflicts_refused refusal reply text goes_on ends refused only why =
      refused_by reply
      (λ s.
      refusal_handled old mid s asked asks same left (holds s) refusal reply text goes_on ends refused only (λ text ends is last. (is, last))
      (λ sound. (same ∙ sound, why s sound)))
      (λ sound. goes_on (only sound) ∙ sym (same ∙ sound))

  -- there was no memory for their settlements
  settlements_refused : has_failed old ≡ false → ((s : State) → RefusesMerge old mid s alt (error_text Memory)) → AsksBy (asked_in on (Request.MergeAll None alt side settled)) (reply.Refused Memory) old mid
  settlements_refused sound why =
      refused_by (reply.Refused Memory) (λ s. told old mid s asked asks same left (holds s) (error_text Memory) sound (same ∙ sound, why s)) (λ was. sym (same ∙ was))

  -- it was carried out
  module _ (new : Store D members) (conflicts : List Conflict) (due : (s : State) → (Stood old mid s → conflicts_in s.working alt ≡ Ok conflicts) ⊎ (Failing old mid × (conflicts ≡ []))) (sound : has_failed old ≡ false) where
    abbrev command : Command
    command = Merge alt (for_all side settled conflicts)

    merged : (s : State) (text : List ℕ) (ends : Bool) → HandlesRequest mid new s (asked_in on (Request.Command command)) text ends → HandlesRequest old new s asked text ends
    merged s text ends handled = either handled.answers
      where
        go : (last : ends ≡ has_failed new) (was : Done) → was ≡ handled.done → AnswersWithin (limit_of on) mid new command text was → HandlesRequest old new s asked text ends
        go last None is answers = absurd (none_within mid new s command (limit_of on) text answers)
        go last (Some each) is answers = record {
          done = Some each;
          answers = met sound last (record { mid = mid; conflicts = conflicts; asks = asks; still = same; told = due s; merges = answers });
          passes = passes_command old new each (grows_both _ _ _ asks.goes handled.passes.goes);
          still = λ e. handled.still e ∙ same;
          holds = λ stood fine.
              let there = handled.passes.goes.earlier stood.honest in
              subst (λ (d : Done). Holds new (after_line s d)) (sym is)
              (handled.holds (record { honest = stood.honest; holds = holds s (record { honest = there; holds = stood.holds }) }) fine);
        }

        either : AnsweredRequest mid new s (asked_in on (Request.Command command)) text ends handled.done → HandlesRequest old new s asked text ends
        either (met fine last meets) = go last handled.done refl (within mid new s command on text handled.done not meets)
        either (had_failed failed left none says) = absurd (never_both _ (same ∙ sound) failed)

    merged_by : (reply : Reply) → AsksBy (asked_in on (Request.Command command)) reply mid new → AsksBy (asked_in on (Request.MergeAll None alt side settled)) reply old new
    merged_by reply by = record {
      store = ends_after old mid new asks.goes sound (same ∙ sound) (Ok reply) by.store;
      answers = λ s. request_as old new s _ asked (all_in on alt side settled not) _ _ (merged s (reply_text reply) (ends_session reply) (by.answers s));
    }

-- a merge by what a query for the conflicts answered
module _ {D : Type 0} {members : _} (on : OnCommand) (not : on ≢ Refuse) (alt : List ℕ) (side : Side) (settled : List (Key × Side)) (old mid : Store D members) (answer : Result (List Conflict) Refusal)
    (said : Queries old mid answer (λ s. IsListing answer (conflicts_in s.working alt))) where
  asked_for : Passes old mid None
  asked_for = passes_reads old mid (goes_any _ _ _ said.any) said.reads said.unchanged

  stands : (s : State) → Stood old mid s → Holds mid s
  stands s stood = said.state stood.honest s stood.holds

  -- the device failed while they were told
  pub unlisted_merged : answer ≡ Err Device → (new : Store D members) (reply : Reply) → AsksBy (asked_in on (Request.Command (Merge alt settled))) reply mid new
      → AsksBy (asked_in on (Request.MergeAll None alt side settled)) reply old new
  unlisted_merged device later said_of answered =
      merged_by on not alt side settled old mid asked_for said.failed said.no_calls stands later [] (λ s. inr (said.any.fault device, refl))
      (not_failed (has_failed old) (λ failed. let bad : ◌≡◌ {A = Result (List Conflict) Refusal} (Err Device) (Err Failed) = sym device ∙ said.refused failed in cc)) said_of
      (subst (λ (all : List (Key × Side)). AsksBy (asked_in on (Request.Command (Merge alt all))) said_of mid later) (sym (append-nil settled)) answered)
    where
      not_failed : (b : Bool) → (b ≡ true → ⊥) → b ≡ false
      not_failed true never = absurd (never refl)
      not_failed false _ = refl

  pub query_refused : (refusal : Refusal) → answer ≡ Err refusal → refusal ≢ Device → (reply : Reply) → reply_text reply ≡ error_text refusal → (refusal ≢ Failed → ends_session reply ≡ false) → (refusal ≡ Failed → ends_session reply ≡ true)
      → AsksBy (asked_in on (Request.MergeAll None alt side settled)) reply old mid
  query_refused refusal is no_device reply text goes_on ends =
      let only : has_failed old ≡ false → refusal ≢ Failed = λ sound same. said.only_then sound (is ∙ ap Err same) in
      conflicts_refused on not alt side settled old mid asked_for said.failed said.no_calls stands refusal reply text goes_on ends (λ failed. let e = said.refused failed in cc) only
      (λ s sound. record {
        refusal = refusal;
        says = text;
        no_device = no_device;
        only_then = only sound;
        due = λ stood. subst (λ (r : Result (List Conflict) Refusal). IsListing r (conflicts_in s.working alt)) is (said.value stood.honest sound s stood.holds);
      })

  module _ (conflicts : List Conflict) (is : answer ≡ Ok conflicts) where
    sound : has_failed old ≡ false
    sound = was_sound (has_failed old) conflicts (λ failed. sym is ∙ said.refused failed)

    listed : (s : State) → Stood old mid s → conflicts_in s.working alt ≡ Ok conflicts
    listed s stood = subst (λ (r : Result (List Conflict) Refusal). IsListing r (conflicts_in s.working alt)) is (said.value stood.honest sound s stood.holds)

    pub memory_refused : AsksBy (asked_in on (Request.MergeAll None alt side settled)) (reply.Refused Memory) old mid
    memory_refused =
        settlements_refused on not alt side settled old mid asked_for said.failed said.no_calls stands sound
        (λ s. record {
          refusal = Memory;
          says = refl;
          no_device = λ same. cc;
          only_then = λ same. cc;
          due = λ stood. inl (subst (λ (r : Result (List Conflict) Refusal). IsOk r) (sym (listed s stood)) refl, inr refl);
        })

    pub all_merged : (new : Store D members) (reply : Reply) → AsksBy (asked_in on (Request.Command (Merge alt (for_all side settled conflicts)))) reply mid new
        → AsksBy (asked_in on (Request.MergeAll None alt side settled)) reply old new
    all_merged new = merged_by on not alt side settled old mid asked_for said.failed said.no_calls stands new conflicts (λ s. inl (listed s)) sound
