-- When a session ends, on any disk.
use Rattle.std.proofs.Common.{◌≡◌, ◌⊎◌, inl, inr, ◌∙◌, ℕ, Bool, List, Option, true, false, Result, Ok, Err, IfErr, refl, subst, sym, arith}
use Rattle.vm_types.specs.declared.answer.Answer.{Answer}
use Rattle.vm_types.specs.declared.command.Command.{Command}
use Rattle.vm_types.specs.declared.refusal.Refusal.{Refusal}
use Rattle.vm_types.specs.declared.refusal.Refusal.TheVariants.{Device}
use Rattle.vm_store.specs.Store.{GrowsOn, has_failed}
use Rattle.vm_store.specs.declared.store.Store.{Store}
use Rattle.vm_store.proofs.LongerLemmas.{goes_grow}
use Rattle.vm_cli.specs.session.Feeds.{AnswersLine, EndsIfFailed, FeedsLine, NeverEnds, ServesOn, Stays, SessionGoesOn, FeedsOn}
use Rattle.vm_cli.specs.answers.Replies.{ends_session}
use Rattle.vm_cli.specs.session.Session.{EndsBy, Failing, FailsByDevice, StoreFails}
use Rattle.vm_cli.specs.declared.answers.output.WriteFault.{WriteFault}
use Rattle.vm_cli.specs.declared.answers.reply.Reply.{Reply}
use Rattle.vm_cli.specs.declared.lines.line.Line.{Line}
use Rattle.vm_cli.specs.declared.session.Manner.{Manner}
use Rattle.vm_cli.specs.declared.session.ServeFault.{ServeFault}
use Rattle.vm_cli.specs.declared.session.Session.{Session}
use Rattle.vm_cli.specs.declared.session.ServeFault.TheVariants as fault
use Rattle.vm_cli.proofs.FeedLemmas.{joined}
use Rattle.vm_cli.proofs.HandledLemmas.{Applied, applied_fails, applied_goes}
use Rattle.vm_cli.proofs.PassLemmas.{failed_or, goes_none, grows_both, grows_none, left_again, never_both}
use Rattle.vm_cli.proofs.SessionLemmas.{last-is}

-- a session goes on through two calls
pub stays_then : {D W : Type 0} {members : _} (old mid new : Session W D members) → Stays old mid → Stays mid new → Stays old new
stays_then old mid new first second = record { store = second.store ∙ first.store; writer = second.writer ∙ first.writer; manner = second.manner ∙ first.manner }

-- its manner is this
pub feeds_as : {D W : Type 0} {members : _} (contents : W → Option (List ℕ)) (on on' : Manner) {bytes : List ℕ} {line line' : Line} {result : Result Bool ServeFault} {old new : Session W D members} → on ≡ on'
    → FeedsLine contents on bytes line line' result old new → FeedsLine contents on' bytes line line' result old new
feeds_as contents on on' {bytes} {line} {line'} {result} {old} {new} is feeds = subst (λ o. FeedsLine contents o bytes line line' result old new) is feeds

pub answers_as : {D W : Type 0} {members : _} (contents : W → Option (List ℕ)) (on on' : Manner) {line : Line} {result : Result Bool ServeFault} {old new : Session W D members} → on ≡ on'
    → AnswersLine contents on line result old new → AnswersLine contents on' line result old new
answers_as contents on on' {line} {result} {old} {new} is answers = subst (λ o. AnswersLine contents o line result old new) is answers

module _ {D : Type 0} {members : _} where
  -- a reply that ends no session, where the store was asked nothing
  pub nothing_asked : (store : Store D members) (reply : Reply) → ends_session reply ≡ false → EndsIfFailed (Ok reply) store store
  nothing_asked store reply goes_on = record {
    goes = grows_none _;
    last = λ sound. goes_on ∙ sym sound;
    failing = λ sound failed. absurd (never_both _ sound failed);
    left = λ failed. refl;
  }

  -- a query that leaves the store as it was
  pub never_ends : (store : Store D members) (reply : Reply) → (has_failed store ≡ false → ends_session reply ≡ false) → NeverEnds reply store store
  never_ends store reply goes_on = record {
    goes = goes_none _;
    failed = refl;
    last = goes_on;
    left = λ failed. refl;
  }

  -- a query fails no store
  pub query_ends : (old new : Store D members) (reply : Reply) → NeverEnds reply old new → EndsIfFailed (Ok reply) old new
  query_ends old new reply query = record {
    goes = goes_grow _ _ _ query.goes;
    last = λ sound. query.last sound ∙ sym (query.failed ∙ sound);
    failing = λ sound failed. absurd (never_both _ (query.failed ∙ sound) failed);
    left = query.left;
  }

  -- a command that was carried out
  pub applied_ends : (old new : Store D members) (command : Command) (answer : Result Answer Refusal) → Applied old new command answer → (reply : Reply) → SessionGoesOn answer reply → (answer ≡ Err Device → ends_session reply ≡ true)
      → EndsIfFailed (Ok reply) old new
  applied_ends old new command answer applied reply goes_on device = record {
    goes = applied_goes old new command answer applied;
    last = λ sound. last-is (ends_session reply) (has_failed new) answer (applied.done sound).failed (applied.done sound).performs.only_then device goes_on;
    failing = applied_fails old new command answer applied;
    left = λ failed. (applied.refused failed).1;
  }

  -- a call after one that left the store sound
  pub ends_after : (old mid new : Store D members) → GrowsOn ⊥ old mid → has_failed old ≡ false → has_failed mid ≡ false → (result : Result Reply WriteFault) → EndsIfFailed result mid new → EndsIfFailed result old new
  ends_after old mid new goes sound fine result by = record {
    goes = grows_both _ _ _ goes by.goes;
    last = λ was. by.last fine;
    failing = λ was failed. rises (by.failing fine failed);
    left = λ failed. absurd (never_both _ sound failed);
  }
    where
      rises : Failing mid new → Failing old new
      rises more = omega (arith, goes.rising, more)

  -- the session goes on after a line
  pub feeds_on : (old new : Store D members) (reply : Reply) → EndsIfFailed (Ok reply) old new → ends_session reply ≡ false → (refused : Bool) → FeedsOn (Ok refused) old new
  feeds_on old new reply by goes_on refused = record {
    goes = by.goes;
    ok = λ sound. sym (by.last sound) ∙ goes_on;
    err = λ sound. tt;
    failing = by.failing;
    left = by.left;
  }

  -- it ends with the answer
  pub feeds_ended : (old new : Store D members) (reply : Reply) → EndsIfFailed (Ok reply) old new → ends_session reply ≡ true → FeedsOn (Err fault.Store) old new
  feeds_ended old new reply by ends = record {
    goes = by.goes;
    ok = λ sound. tt;
    err = λ sound. let failed : has_failed new ≡ true = sym (by.last sound) ∙ ends in (failed, by.failing sound failed);
    failing = by.failing;
    left = by.left;
  }

  -- it ends for a reason that the store has not given
  pub feeds_stopped : (old new : Store D members) (result : Result Reply WriteFault) → EndsIfFailed result old new → (why : ServeFault) → EndsBy old new why → FeedsOn (Err why) old new
  feeds_stopped old new result by why ends = record {
    goes = by.goes;
    ok = λ sound. tt;
    err = λ sound. ends;
    failing = by.failing;
    left = by.left;
  }

  -- no bytes
  pub feeds_none : (store : Store D members) (refused : Bool) → FeedsOn (Ok refused) store store
  feeds_none store refused = record {
    goes = grows_none _;
    ok = λ sound. sound;
    err = λ sound. tt;
    failing = λ sound failed. absurd (never_both _ sound failed);
    left = λ failed. refl;
  }

  -- a store that fails in two calls does so since the device failed in one of them
  pub fails_then : (old mid new : Store D members) → GrowsOn ⊥ old mid → GrowsOn ⊥ mid new → FailsByDevice old mid → FailsByDevice mid new → FailsByDevice old new
  fails_then old mid new first second fails then sound failed = by (failed_or (has_failed mid))
    where
      by : (has_failed mid ≡ false) ⊎ (has_failed mid ≡ true) → Failing old new
      by (inl fine) = let more : Failing mid new = then fine failed in omega (arith, first.rising, more)
      by (inr bad) = let more : Failing old mid = fails sound bad in omega (arith, second.rising, more)

  -- bytes after others
  pub feeds_then : (old mid new : Store D members) (refused : Bool) → FeedsOn (Ok refused) old mid → (result : Result Bool ServeFault) → FeedsOn result mid new → FeedsOn (joined refused result) old new
  feeds_then old mid new refused first (Ok again) second = record {
    goes = grows_both _ _ _ first.goes second.goes;
    ok = λ sound. second.ok (first.ok sound);
    err = λ sound. tt;
    failing = fails_then old mid new first.goes second.goes first.failing second.failing;
    left = left_again old mid new first.left second.left;
  }
  feeds_then old mid new refused first (Err why) second = record {
    goes = grows_both _ _ _ first.goes second.goes;
    ok = λ sound. tt;
    err = λ sound. ends_then why (second.err (first.ok sound));
    failing = fails_then old mid new first.goes second.goes first.failing second.failing;
    left = left_again old mid new first.left second.left;
  }
    where
      ends_then : (why : ServeFault) → EndsBy mid new why → EndsBy old new why
      ends_then fault.Read ends = absurd ends
      ends_then fault.Write ends = tt
      ends_then fault.Refused ends = tt
      ends_then fault.Unsure ends = tt
      ends_then fault.Store (failed, rises) = (failed, omega (arith, first.goes.rising, rises))

  -- whatever ended it, a line is told to have been refused
  pub feeds_refused : (old new : Store D members) (result : Result Bool ServeFault) → FeedsOn result old new → FeedsOn (Err fault.Refused) old new
  feeds_refused old new result feeds = record { goes = feeds.goes; ok = λ sound. tt; err = λ sound. tt; failing = feeds.failing; left = feeds.left }

  -- or that none was
  pub feeds_fine : (old new : Store D members) (refused : Bool) → FeedsOn (Ok refused) old new → (again : Bool) → FeedsOn (Ok again) old new
  feeds_fine old new refused feeds again = record { goes = feeds.goes; ok = feeds.ok; err = λ sound. tt; failing = feeds.failing; left = feeds.left }

  -- a whole session
  pub serves_on : (old new : Store D members) (result : Result Bool ServeFault) → FeedsOn result old new → ServesOn result old new
  serves_on old new result feeds = record { goes = feeds.goes; ok = feeds.ok; err = λ sound. fails result (feeds.err sound); left = feeds.left }
    where
      fails : (result : Result Bool ServeFault) → IfErr result (EndsBy old new) → IfErr result (StoreFails old new)
      fails (Ok refused) ends = tt
      fails (Err fault.Read) ends = absurd ends
      fails (Err fault.Write) ends = λ is. cc
      fails (Err fault.Refused) ends = λ is. cc
      fails (Err fault.Unsure) ends = λ is. cc
      fails (Err fault.Store) ends = λ is. ends

  -- one after which the reader failed
  pub serves_unread : (old new : Store D members) (refused : Bool) → FeedsOn (Ok refused) old new → ServesOn (Err fault.Read) old new
  serves_unread old new refused feeds = record {
    goes = feeds.goes;
    ok = λ sound. tt;
    err = λ sound is. cc;
    left = feeds.left;
  }
