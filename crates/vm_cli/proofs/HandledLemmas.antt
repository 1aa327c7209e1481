-- What a store has done when a line is answered.
use Rattle.std.proofs.Common.{◌≡◌, ◌≢◌, ◌⊎◌, inl, inr, ℕ, Bool, true, false, List, [], ◌∷◌, ◌++◌, ◌≤◌, length, Option, Some, None, Result, Err, Ok, refl, ap, sym, subst, ◌∙◌}
use Rattle.vm_types.specs.declared.answer.Answer.{Answer}
use Rattle.vm_types.specs.declared.command.Command.{Command}
use Rattle.vm_types.specs.declared.command.Command.TheVariants.{Merge}
use Rattle.vm_types.specs.declared.refusal.Refusal.{Refusal}
use Rattle.vm_types.specs.declared.refusal.Refusal.TheVariants.{Failed, Memory}
use Rattle.vm_types.specs.State.{State}
use Rattle.vm_store.specs.Commands.{CarriesOut}
use Rattle.vm_store.specs.Store.{GrowsOn, Holds, has_failed}
use Rattle.vm_store.specs.declared.store.Store.{Store}
use Rattle.vm_cli.specs.session.Feeds.{AnsweredOrWanting, HandlesRequest, HandlesOrWants, Replied, Replies, TriesSome}
use Rattle.vm_cli.specs.session.Feeds.AnsweredOrWanting.{out_of_memory, request_answered}
use Rattle.vm_cli.specs.session.Known.{Written, between}
use Rattle.vm_cli.specs.lines.Input.{HoldsLine, KindHolds, without_return}
use Rattle.vm_cli.specs.answers.Replies.{ends_session, is_error, reply_text}
use Rattle.vm_cli.specs.lines.Requests.{asked_in, request_of}
use Rattle.vm_cli.specs.lines.Settlements.{for_all}
use Rattle.vm_cli.specs.lines.Spaces.{words_of}
use Rattle.vm_cli.specs.session.Session.{DoesNothing, Answered, AnsweredRequest, AnswersWithin, Done, FailsInLast, Failing, Handled, HandlesLine, Meets, Passes, SaysFailed, Stood, Stops, answer_text, error_text}
use Rattle.vm_cli.specs.session.Session.Answered.{as_asked, too_long, wanting}
use Rattle.vm_cli.specs.session.Session.AnsweredRequest.{had_failed, met}
use Rattle.vm_cli.specs.declared.lines.line.LineKind.TheVariants.{Kept, Long}
use Rattle.vm_cli.specs.declared.lines.line.Line.{Line}
use Rattle.vm_cli.specs.declared.lines.mistake.Mistake.{Mistake}
use Rattle.vm_cli.specs.declared.answers.reply.Reply.{Reply}
use Rattle.vm_cli.specs.declared.answers.reply.Reply.TheVariants as reply
use Rattle.vm_cli.specs.lines.Asking.{Request}
use Rattle.vm_cli.specs.declared.session.Manner.{Manner}
use Rattle.vm_cli.specs.declared.answers.output.WriteFault.{WriteFault}
use Rattle.vm_cli.specs.declared.session.growth.TheConstants.{GROWTHS}
use Rattle.vm_cli.proofs.CarriedLemmas.{carries-nothing}
use Rattle.vm_cli.proofs.ChainLemmas.{Chain, Led, chain_holds, chain_one, led_at_once, led_fails, tries_chain}
use Rattle.vm_cli.proofs.PassLemmas.{failed_or, grows_any, grows_none, never_both, passes_command, passes_left, passes_none}

-- a reply that is the whole answer
pub replied_whole : (P : List ℕ → Bool → Type 0) (reply : Reply) (a : Option (List ℕ)) (rest : List ℕ) → rest ≡ [] → P (reply_text reply) (ends_session reply) → Replied P reply (between a a) rest
replied_whole P reply a rest none p = record { whole = []; says = p; tells = refl; carries = rw none (carries-nothing a []) }

-- a reply behind what stands in the text
pub replied_with : (P : List ℕ → Bool → Type 0) (reply : Reply) (a : Option (List ℕ)) (text : List ℕ) → P (text ++ reply_text reply) (ends_session reply) → is_error (text ++ reply_text reply) ≡ is_error (reply_text reply) → Replied P reply (between a a) text
replied_with P reply a text says tells = record { whole = text; says = says; tells = tells; carries = carries-nothing a text }

-- a reply behind no text
pub with_nothing : (P : List ℕ → Bool → Type 0) (reply : Reply) (text : List ℕ) → text ≡ [] → P (reply_text reply) (ends_session reply) → P (text ++ reply_text reply) (ends_session reply)
with_nothing P reply text none p = rw none p

pub tells_nothing : (reply : Reply) (text : List ℕ) → text ≡ [] → is_error (text ++ reply_text reply) ≡ is_error (reply_text reply)
tells_nothing reply text none = rw none refl

-- what is said of each answer
pub replies_as : (P Q : List ℕ → Bool → Type 0) → ((text : List ℕ) (ends : Bool) → P text ends → Q text ends) → (r : Result Reply WriteFault) (output : Written) (rest : List ℕ) → Replies P r output rest
    → Replies Q r output rest
replies_as P Q f (Ok reply) output rest p = record { whole = p.whole; says = f _ _ p.says; tells = p.tells; carries = p.carries }
replies_as P Q f (Err fault) output rest p = record { whole = p.whole; ends = p.ends; says = f _ _ p.says; begins = p.begins }

module _ {D : Type 0} {members : _} (store : Store D members) (s : State) where
  -- the store was asked nothing
  pub unmoved : (ends : Bool) (IsAnswer : Done → Type 0) → IsAnswer None → Handled store store s ends IsAnswer
  unmoved ends IsAnswer p = record {
    done = None;
    answers = p;
    passes = passes_none store;
    still = λ e. refl;
    holds = λ stood fine. stood.holds;
  }

  does_nothing : DoesNothing store store false None
  does_nothing = record { same = refl; none = refl; goes_on = refl }

  -- a line without words
  pub nothing_handled : HandlesRequest store store s Request.Nothing [] false
  nothing_handled = unmoved false (AnsweredRequest store store s Request.Nothing [] false) (either (failed_or (has_failed store)))
    where
      either : (has_failed store ≡ false) ⊎ (has_failed store ≡ true) → AnsweredRequest store store s Request.Nothing [] false None
      either (inl sound) = met sound (sym sound) (refl, sound, (refl, refl), tt)
      either (inr failed) = had_failed failed refl refl (refl, refl)

  -- a line that asks for nothing that there is
  pub bad_handled : (mistake : Mistake) → HandlesRequest store store s (Request.Bad mistake) (reply_text (reply.BadLine mistake)) false
  bad_handled mistake = unmoved false (AnsweredRequest store store s (Request.Bad mistake) (reply_text (reply.BadLine mistake)) false) (either (failed_or (has_failed store)))
    where
      either : (has_failed store ≡ false) ⊎ (has_failed store ≡ true) → AnsweredRequest store store s (Request.Bad mistake) (reply_text (reply.BadLine mistake)) false None
      either (inl sound) = met sound (sym sound) (refl, sound, (refl, refl), tt)
      either (inr failed) = had_failed failed refl refl (refl, refl)

  -- a command, where the store is only read
  pub forbidden_handled : HandlesRequest store store s Request.Forbidden (reply_text reply.ReadOnly) false
  forbidden_handled = unmoved false (AnsweredRequest store store s Request.Forbidden (reply_text reply.ReadOnly) false) (either (failed_or (has_failed store)))
    where
      either : (has_failed store ≡ false) ⊎ (has_failed store ≡ true) → AnsweredRequest store store s Request.Forbidden (reply_text reply.ReadOnly) false None
      either (inl sound) = met sound (sym sound) (refl, sound, (refl, refl), tt)
      either (inr failed) = had_failed failed refl refl (refl, refl)

  -- a request for which there was no memory
  pub memory_told : (request : Request) → HandlesOrWants store store s request (reply_text (reply.Refused Memory)) false
  memory_told request = unmoved false _ (out_of_memory does_nothing refl)

  -- a line for which there was no memory
  pub memory_handled : (on : Manner) (part : List ℕ) → HandlesLine store store s on part (reply_text (reply.Refused Memory)) false
  memory_handled on part = unmoved false _ (wanting does_nothing refl)

  -- a line that is too long
  pub long_handled : (on : Manner) (line : Line) (part : List ℕ) → HoldsLine line part → line.kind ≡ Long → HandlesLine store store s on part (reply_text reply.LongLine) false
  long_handled on line part h is =
      let long : KindHolds Long line.bytes.items part = rw is at h.kind in
      unmoved false _ (too_long long does_nothing refl)

module _ {D : Type 0} {members : _} (old new : Store D members) (s : State) where
  -- a request for which memory may be wanting
  pub asked_handled : (asked : Request) (text : List ℕ) (ends : Bool) → HandlesRequest old new s asked text ends → HandlesOrWants old new s asked text ends
  asked_handled asked text ends handled = record {
    done = handled.done;
    answers = request_answered handled.answers;
    passes = handled.passes;
    still = handled.still;
    holds = handled.holds;
  }

  pub asked_replied : (asked : Request) (r : Result Reply WriteFault) (output : Written) (rest : List ℕ) → Replies (HandlesRequest old new s asked) r output rest
      → Replies (HandlesOrWants old new s asked) r output rest
  asked_replied asked = replies_as (HandlesRequest old new s asked) (HandlesOrWants old new s asked) (asked_handled asked)

  -- a line of words
  line_answered : (on : Manner) (words : List (List ℕ)) (part text : List ℕ) (ends : Bool) (was : Done) → length part ≤ 1048576 → words ≡ words_of (without_return part)
      → AnsweredOrWanting old new s (asked_in on.on_command (request_of words)) text ends was → Answered old new s on part text ends was
  line_answered on words part text ends was short same (out_of_memory nothing says) = wanting nothing says
  line_answered on words part text ends was short same (request_answered answered) =
      as_asked short (subst (λ ws. AnsweredRequest old new s (asked_in on.on_command (request_of ws)) text ends was) same answered)

  pub kept_handled : (on : Manner) (line : Line) (part : List ℕ) → HoldsLine line part → line.kind ≡ Kept → (bytes : List ℕ) → bytes ≡ without_return line.bytes.items
      → (r : Result Reply WriteFault) (output : Written) (rest : List ℕ) → Replies (HandlesOrWants old new s (asked_in on.on_command (request_of (words_of bytes)))) r output rest
      → Replies (HandlesLine old new s on part) r output rest
  kept_handled on line part h is bytes whose =
      let kept : KindHolds Kept line.bytes.items part = rw is at h.kind in
      let same : words_of bytes ≡ words_of (without_return part) = ap words_of (whose ∙ ap without_return kept.0) in
      replies_as (HandlesOrWants old new s (asked_in on.on_command (request_of (words_of bytes)))) (HandlesLine old new s on part)
      (λ text ends handled. record {
        done = handled.done;
        answers = line_answered on (words_of bytes) part text ends handled.done kept.1 same handled.answers;
        passes = handled.passes;
        still = handled.still;
        holds = handled.holds;
      })

  -- what is asked for is this
  pub request_as : (asked query : Request) → asked ≡ query → (text : List ℕ) (ends : Bool) → HandlesRequest old new s query text ends → HandlesRequest old new s asked text ends
  request_as asked query is text ends p = subst (λ q. HandlesRequest old new s q text ends) (sym is) p

  -- a query, after which the store has failed where it had before, and is else as good
  module _ (query : Request) (passes : Passes old new None) (same : has_failed new ≡ has_failed old) (left : has_failed old ≡ true → new ≡ old) (holds : Stood old new s → Holds new s) where
    pub asked : (text : List ℕ) (ends : Bool) → (has_failed old ≡ false → (ends ≡ false) × Meets old new s query text None) → (has_failed old ≡ true → SaysFailed query text ends)
        → HandlesRequest old new s query text ends
    asked text ends meets fails = record {
      done = None;
      answers = either (failed_or (has_failed old));
      passes = passes;
      still = λ e. same;
      holds = λ stood fine. holds stood;
    }
      where
        either : (has_failed old ≡ false) ⊎ (has_failed old ≡ true) → AnsweredRequest old new s query text ends None
        either (inl sound) = let all = meets sound in met sound (all.0 ∙ sym sound ∙ sym same) all.1
        either (inr failed) = had_failed failed (left failed) refl (fails failed)

    -- it is answered
    pub told : (text : List ℕ) → has_failed old ≡ false → Meets old new s query text None → HandlesRequest old new s query text false
    told text sound meets = asked text false (λ fine. (refl, meets)) (λ failed. absurd (never_both _ sound failed))

    -- it is refused
    pub refusal_handled : (refusal : Refusal) (reply : Reply) → reply_text reply ≡ error_text refusal → (refusal ≢ Failed → ends_session reply ≡ false) → (refusal ≡ Failed → ends_session reply ≡ true)
        → (has_failed old ≡ true → refusal ≡ Failed) → (has_failed old ≡ false → refusal ≢ Failed) → ((text : List ℕ) (ends : Bool) → text ≡ error_text Failed → ends ≡ true → SaysFailed query text ends)
        → (has_failed old ≡ false → Meets old new s query (reply_text reply) None) → HandlesRequest old new s query (reply_text reply) (ends_session reply)
    refusal_handled refusal reply text goes_on ends refused only lift meets =
        asked (reply_text reply) (ends_session reply) (λ sound. (goes_on (only sound), meets sound))
        (λ failed. lift (reply_text reply) (ends_session reply) (text ∙ ap error_text (refused failed)) (ends (refused failed)))

-- what `apply` promises of a command and its answer
pub record Applied {D : Type 0} {members : _} (old new : Store D members) (command : Command) (answer : Result Answer Refusal) : Type 0 where
  pub refused : has_failed old ≡ true → (answer ≡ Err Failed) × (new ≡ old)
  pub done : has_failed old ≡ false → CarriesOut old new command answer

-- so it does to the disk what any call may do
module _ {D : Type 0} {members : _} (old new : Store D members) (command : Command) (answer : Result Answer Refusal) (applied : Applied old new command answer) where
  pub applied_goes : GrowsOn ⊥ old new
  applied_goes = either (failed_or (has_failed old))
    where
      either : (has_failed old ≡ false) ⊎ (has_failed old ≡ true) → GrowsOn ⊥ old new
      either (inl sound) = grows_any _ _ _ (applied.done sound).performs.goes
      either (inr failed) = subst (λ (t : Store D members). GrowsOn ⊥ old t) (sym (applied.refused failed).1) (grows_none _)

  -- and what it ends a session by is that the device failed
  pub applied_fails : has_failed old ≡ false → has_failed new ≡ true → Failing old new
  applied_fails sound failed = let e = applied.done sound in e.performs.goes.fault (e.failed.0 failed)

-- a command
module _ {D : Type 0} {members : _} (old new : Store D members) (s : State) (command : Command) (answer : Result Answer Refusal) (applied : Applied old new command answer) where
  pub carried : (text : List ℕ) (ends : Bool) → text ≡ answer_text answer → (has_failed old ≡ false → ends ≡ has_failed new) → (answer ≡ Err Failed → ends ≡ true)
      → HandlesRequest old new s (Request.Command command) text ends
  carried text ends says last fails = either (failed_or (has_failed old))
    where
      either : (has_failed old ≡ false) ⊎ (has_failed old ≡ true) → HandlesRequest old new s (Request.Command command) text ends
      either (inl sound) =
          let carries = applied.done sound in
          record {
            done = Some ((command, answer) ∷ []);
            answers = met sound (last sound) (refl, carries, says);
            passes = passes_command old new ((command, answer) ∷ []) (applied_goes old new command answer applied);
            still = λ e. sym (last sound) ∙ e ∙ sym sound;
            holds = λ stood fine. (carries.performs.carried stood.honest s stood.holds).state (λ device. never_both _ fine (carries.failed.1 device));
          }
      either (inr failed) =
          let same = (applied.refused failed).1 in
          record {
            done = None;
            answers = had_failed failed same refl (says ∙ ap answer_text (applied.refused failed).0, fails (applied.refused failed).0);
            passes = passes_left old new same;
            still = λ e. ap (λ (t : Store D members). has_failed t) same;
            holds = λ stood fine. absurd (never_both _ fine (ap (λ (t : Store D members). has_failed t) same ∙ failed));
          }

-- a command for which the store may grow
module _ {D : Type 0} {members : _} (old new : Store D members) (s : State) (most : ℕ) (command : Command) where
  pub grown_handled : (text : List ℕ) (ends : Bool) → (has_failed old ≡ false → TriesSome GROWTHS most command old new text) → (has_failed old ≡ true → (text ≡ error_text Failed) × (ends ≡ true))
      → (has_failed old ≡ true → new ≡ old) → GrowsOn ⊥ old new → (has_failed old ≡ false → ends ≡ has_failed new) → HandlesRequest old new s (Request.Growing most command) text ends
  grown_handled text ends tried refused left goes last = either (failed_or (has_failed old))
    where
      either : (has_failed old ≡ false) ⊎ (has_failed old ≡ true) → HandlesRequest old new s (Request.Growing most command) text ends
      either (inl sound) =
          let each = (tried sound).each in
          let tries = (tried sound).tries in
          record {
            done = Some each;
            answers = met sound (last sound) tries;
            passes = passes_command old new each goes;
            still = λ e. sym (last sound) ∙ e ∙ sym sound;
            holds = λ stood fine. chain_holds each old new s (tries_chain GROWTHS most command old new text each tries) stood.honest fine stood.holds;
          }
      either (inr failed) =
          let same = left failed in
          record {
            done = None;
            answers = had_failed failed same refl (refused failed);
            passes = passes_left old new same;
            still = λ e. ap (λ (t : Store D members). has_failed t) same;
            holds = λ stood fine. absurd (never_both _ fine (ap (λ (t : Store D members). has_failed t) same ∙ failed));
          }

-- commands are not none
never_none : {A : Type 0} (each : List (Command × Result Answer Refusal)) → ◌≡◌ {A = Done} (Some each) None → A
never_none each none = let bad : ⊥ = cc in absurd bad

-- what a request was that was answered by commands
module _ {D : Type 0} {members : _} (old new : Store D members) (s : State) where
  within_chain : (limit : Option ℕ) (from : Store D members) (command : Command) (text : List ℕ) (each : List (Command × Result Answer Refusal)) → AnswersWithin limit from new command text (Some each) → Chain from new each
  within_chain None from command text [] answers = absurd answers
  within_chain None from command text ((asked, answer) ∷ []) answers = chain_one from new asked command answer answers.0 answers.1
  within_chain None from command text (first ∷ (second ∷ more)) answers = absurd answers
  within_chain (Some most) from command text each answers = tries_chain GROWTHS most command from new text each answers

  pub meets_led : (asked : Request) (text : List ℕ) (each : List (Command × Result Answer Refusal)) → Meets old new s asked text (Some each) → Led old new each
  meets_led (Request.Command command) text each meets = led_at_once old new each (within_chain None old command text each meets)
  meets_led (Request.Growing most command) text each meets = led_at_once old new each (within_chain (Some most) old command text each meets)
  meets_led (Request.MergeAll limit alt side settled) text each meets =
      record { begun = meets.mid; asks = meets.asks; still = meets.still; chain = within_chain limit meets.mid (Merge alt (for_all side settled meets.conflicts)) text each meets.merges }
  meets_led (Request.Get at key) text each meets = never_none each meets.0
  meets_led (Request.List at) text each meets = never_none each meets.0
  meets_led (Request.Part at low high) text each meets = never_none each meets.0
  meets_led (Request.Page at low count) text each meets = never_none each meets.0
  meets_led Request.Alternatives text each meets = never_none each meets.0
  meets_led (Request.Checkpoints alt) text each meets = never_none each meets.0
  meets_led (Request.Changes alt) text each meets = never_none each meets.0
  meets_led (Request.Diff first second) text each meets = never_none each meets.0
  meets_led (Request.DiffPart first second low high) text each meets = never_none each meets.0
  meets_led (Request.Conflicts alt) text each meets = never_none each meets.0
  meets_led (Request.Tally alt) text each meets = never_none each meets.0
  meets_led Request.Free text each meets = never_none each meets.0
  meets_led Request.Blocks text each meets = never_none each meets.0
  meets_led Request.Nothing text each meets = never_none each meets.0
  meets_led (Request.Bad mistake) text each meets = never_none each meets.0
  meets_led Request.Forbidden text each meets = never_none each meets.0

-- an answer that ends the session
module _ {D : Type 0} {members : _} (old new : Store D members) (s : State) where
  -- it can be no query's, unless the store had failed
  meets_stops : (asked : Request) (text : List ℕ) (was : Done) → has_failed old ≡ false → has_failed new ≡ true → Meets old new s asked text was → FailsInLast old new
  meets_stops (Request.Command command) text None sound failed meets = absurd meets
  meets_stops (Request.Command command) text (Some each) sound failed meets = led_fails old new each (meets_led old new s (Request.Command command) text each meets) sound failed
  meets_stops (Request.Growing most command) text None sound failed meets = absurd meets
  meets_stops (Request.Growing most command) text (Some each) sound failed meets = led_fails old new each (meets_led old new s (Request.Growing most command) text each meets) sound failed
  meets_stops (Request.MergeAll limit alt side settled) text None sound failed meets = absurd (never_both _ meets.0 failed)
  meets_stops (Request.MergeAll limit alt side settled) text (Some each) sound failed meets = led_fails old new each (meets_led old new s (Request.MergeAll limit alt side settled) text each meets) sound failed
  meets_stops (Request.Get at key) text was sound failed meets = absurd (never_both _ meets.1 failed)
  meets_stops (Request.List at) text was sound failed meets = absurd (never_both _ meets.1 failed)
  meets_stops (Request.Part at low high) text was sound failed meets = absurd (never_both _ meets.1 failed)
  meets_stops (Request.Page at low count) text was sound failed meets = absurd (never_both _ meets.1 failed)
  meets_stops Request.Alternatives text was sound failed meets = absurd (never_both _ meets.1 failed)
  meets_stops (Request.Checkpoints alt) text was sound failed meets = absurd (never_both _ meets.1 failed)
  meets_stops (Request.Changes alt) text was sound failed meets = absurd (never_both _ meets.1 failed)
  meets_stops (Request.Diff first second) text was sound failed meets = absurd (never_both _ meets.1 failed)
  meets_stops (Request.DiffPart first second low high) text was sound failed meets = absurd (never_both _ meets.1 failed)
  meets_stops (Request.Conflicts alt) text was sound failed meets = absurd (never_both _ meets.1 failed)
  meets_stops (Request.Tally alt) text was sound failed meets = absurd (never_both _ meets.1 failed)
  meets_stops Request.Free text was sound failed meets = absurd (never_both _ meets.1 failed)
  meets_stops Request.Blocks text was sound failed meets = absurd (never_both _ meets.1 failed)
  meets_stops Request.Nothing text was sound failed meets = absurd (never_both _ meets.1 failed)
  meets_stops (Request.Bad mistake) text was sound failed meets = absurd (never_both _ meets.1 failed)
  meets_stops Request.Forbidden text was sound failed meets = absurd (never_both _ meets.1 failed)

  request_stops : (asked : Request) (text : List ℕ) (ends : Bool) (was : Done) → ends ≡ true → AnsweredRequest old new s asked text ends was → Stops old new
  request_stops asked text ends was e (met sound last meets) = inl (sound, meets_stops asked text was sound (sym last ∙ e) meets)
  request_stops asked text ends was e (had_failed failed same none says) = inr (failed, same)

  line_stops : (on : Manner) (line text : List ℕ) (ends : Bool) (was : Done) → ends ≡ true → Answered old new s on line text ends was → Stops old new
  line_stops on line text ends was e (wanting nothing says) = absurd (never_both ends nothing.goes_on e)
  line_stops on line text ends was e (too_long long nothing says) = absurd (never_both ends nothing.goes_on e)
  line_stops on line text ends was e (as_asked short answered) = request_stops (asked_in on.on_command (request_of (words_of (without_return line)))) text ends was e answered

  pub handled_stops : (on : Manner) (line text : List ℕ) (ends : Bool) → HandlesLine old new s on line text ends → ends ≡ true → Stops old new
  handled_stops on line text ends handled e = line_stops on line text ends handled.done e handled.answers
