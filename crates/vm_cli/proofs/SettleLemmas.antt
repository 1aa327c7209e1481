-- How a batch comes out.
use Rattle.std.proofs.Common.{◌≡◌, ◌==◌, ◌⊎◌, inl, inr, ◌∙◌, ℕ, Bool, true, false, List, [], ◌∷◌, Option, None, Some, Result, Ok, Err, ap, sym, refl, subst, arith, length}
use Rattle.std.proofs.lemmas.Bool.Decides.{nat_tests}
use Rattle.vm_types.specs.declared.answer.Answer.{Answer}
use Rattle.vm_types.specs.declared.command.Command.{Command}
use Rattle.vm_types.specs.declared.command.Command.TheVariants.{Commit, Rollback}
use Rattle.vm_types.specs.declared.refusal.Refusal.{Refusal}
use Rattle.vm_types.specs.declared.refusal.Refusal.TheVariants.{Device}
use Rattle.vm_types.specs.State.{State}
use Rattle.vm_store.specs.Store.{has_failed}
use Rattle.vm_store.specs.declared.store.Store.{Store}
use Rattle.vm_cli.specs.session.Feeds.{FeedsOn}
use Rattle.vm_cli.specs.answers.Replies.{reply_text}
use Rattle.vm_cli.specs.session.Rounds.{Batch as Commanded, Round}
use Rattle.vm_cli.specs.session.Rounds.Round.{committed, idle, unsure}
use Rattle.vm_cli.specs.session.Streams.{Applies, CommitsOrNot, Held, HoldsLines, IsHeldBy, Settles, SettlesHeld, StopsIn, Undoes, Verdict, carried_by, result_of, trying, verdict_of, why_text}
use Rattle.vm_cli.specs.session.Streams.Held.{holds, lost}
use Rattle.vm_cli.specs.session.Streams.Verdict.{fails, succeeds}
use Rattle.vm_cli.specs.session.Session.{HasAnswered}
use Rattle.vm_cli.specs.declared.lines.line.Line.{Line}
use Rattle.vm_cli.specs.declared.session.Manner.{Manner}
use Rattle.vm_cli.specs.declared.session.ServeFault.TheVariants as fault
use Rattle.vm_cli.specs.declared.session.batch.Lost.{Lost}
use Rattle.vm_cli.specs.declared.session.carrying.Stop.{Stop as LastLine}
use Rattle.vm_cli.specs.declared.session.carrying.Then.{Then}
use Rattle.vm_cli.specs.declared.session.carrying.Then.TheVariants.{GoOn, Failed as AsFailed, Unsure as AsUnsure}
use Rattle.vm_cli.proofs.EndLemmas.{fails_then, feeds_then}
use Rattle.vm_cli.proofs.HandledLemmas.{Applied, applied_fails, applied_goes}
use Rattle.vm_cli.proofs.PassLemmas.{failed_or, grows_both, left_again}

module _ {D : Type 0} {members : _} (old mid new : Store D members) (s : State) (how : Manner) (parts : List (List ℕ)) (answers : List ℕ) (carried : HasAnswered old mid s (trying how) parts answers) where
  -- the lines were carried out, and their commit was acknowledged or not
  pub settles_commit : {T : Type 0} (result : Result T LastLine) (place : ℕ) → CommitsOrNot mid new place result → place ≡ length parts → (round : Round) × Settles old new s how parts (verdict_of result answers) round
  settles_commit (Ok u) place (answer, applies) same = (
    committed (record { commands = carried.commands; answers = carried.answers }) answer,
    record { mid = mid; answer = answer; carried = carried; applies = applies; came_so = refl },
  )
  settles_commit (Err stop) place (refusal, applies, at, why_is, then_is) same = (
    unsure (record { commands = carried.commands; answers = carried.answers }) refusal,
    subst (λ then. Settles old new s how parts (fails stop.place (why_text stop.why answers) then) (unsure (record { commands = carried.commands; answers = carried.answers }) refusal)) (sym then_is)
        (record {
          mid = mid;
          refusal = refusal;
          answers = answers;
          carried = carried;
          applies = applies;
          at = at ∙ same;
          says = ap (λ w. why_text w answers) why_is;
          came_so = refl;
        }),
  )

-- a line was refused, and all was undone
pub settles_undone : {D : Type 0} {members : _} (old last new : Store D members) (s : State) (how : Manner) (parts : List (List ℕ)) (place : ℕ) (text : List ℕ) (stops : StopsIn old last s how parts place text)
    (then : Then) (round : Round) → Undoes last new (carried_by stops) then round → Settles old new s how parts (fails place text then) round
settles_undone old last new s how parts place text stops GoOn round undoes = record { last = last; stops = stops; undoes = undoes }
settles_undone old last new s how parts place text stops AsFailed round undoes = record { last = last; stops = stops; undoes = undoes }
settles_undone old last new s how parts place text stops AsUnsure round undoes = absurd undoes

module _ {D : Type 0} {members : _} (old new : Store D members) (command : Command) where
  pub applied_by : (answer : Result Answer Refusal) → Applies old new command answer → Applied old new command answer
  applied_by answer applies = record { refused = applies.refused; done = applies.done }

  -- a command that was carried out, or that a store refused which had failed
  pub applies_feeds : (answer : Answer) → Applies old new command (Ok answer) → (refused : Bool) → FeedsOn (Ok refused) old new
  applies_feeds answer applies refused = record {
    goes = applied_goes old new command (Ok answer) (applied_by (Ok answer) applies);
    ok = λ sound. fine sound (failed_or (has_failed new));
    err = λ sound. tt;
    failing = applied_fails old new command (Ok answer) (applied_by (Ok answer) applies);
    left = λ failed. (applies.refused failed).1;
  }
    where
      fine : has_failed old ≡ false → (has_failed new ≡ false) ⊎ (has_failed new ≡ true) → has_failed new ≡ false
      fine sound (inl was) = was
      fine sound (inr bad) = let device : Ok answer ≡ Err Device = (applies.done sound).failed.0 bad in cc

  pub refused_feeds : (refusal : Refusal) → Applies old new command (Err refusal) → FeedsOn (Err fault.Unsure) old new
  refused_feeds refusal applies = record {
    goes = applied_goes old new command (Err refusal) (applied_by (Err refusal) applies);
    ok = λ sound. tt;
    err = λ sound. tt;
    failing = applied_fails old new command (Err refusal) (applied_by (Err refusal) applies);
    left = λ failed. (applies.refused failed).1;
  }

-- a Rollback is refused only by a store that had failed
pub rolls_back : {D : Type 0} {members : _} (old new : Store D members) (refusal : Refusal) → Applies old new Rollback (Err refusal) → has_failed old ≡ true
rolls_back old new refusal applies = by (failed_or (has_failed old))
  where
    by : (has_failed old ≡ false) ⊎ (has_failed old ≡ true) → has_failed old ≡ true
    by (inl sound) = let accepted = ((applies.done sound).performs.back refl).accepted in cc
    by (inr failed) = failed

module _ {D : Type 0} {members : _} (old mid new : Store D members) where
  pub commit_feeds : {T : Type 0} (result : Result T LastLine) (place : ℕ) (answers : List ℕ) → CommitsOrNot mid new place result → FeedsOn (Ok false) old mid → FeedsOn (result_of (verdict_of result answers)) old new
  commit_feeds (Ok u) place answers (answer, applies) first = feeds_then old mid new false first (Ok false) (applies_feeds mid new Commit answer applies false)
  commit_feeds (Err stop) place answers (refusal, applies, at, why_is, then_is) first =
      subst (λ then. FeedsOn (result_of (fails stop.place (why_text stop.why answers) then)) old new) (sym then_is)
      (feeds_then old mid new false first (Err fault.Unsure) (refused_feeds mid new Commit refusal applies))

  module _ (first : FeedsOn (Err fault.Refused) old mid) where
    -- all was undone
    undone_feeds : (answer : Answer) → Applies mid new Rollback (Ok answer) → FeedsOn (Ok true) old new
    undone_feeds answer applies =
        let second = applies_feeds mid new Rollback answer applies true in
        record {
          goes = grows_both _ _ _ first.goes second.goes;
          ok = λ sound. fine (failed_or (has_failed mid));
          err = λ sound. tt;
          failing = fails_then old mid new first.goes second.goes first.failing second.failing;
          left = left_again old mid new first.left second.left;
        }
      where
        fine : (has_failed mid ≡ false) ⊎ (has_failed mid ≡ true) → has_failed new ≡ false
        fine (inl was) = (applies_feeds mid new Rollback answer applies true).ok was
        fine (inr bad) = let refused = (applies.refused bad).0 in cc

    -- the store had failed
    failed_feeds : (refusal : Refusal) → Applies mid new Rollback (Err refusal) → FeedsOn (Err fault.Store) old new
    failed_feeds refusal applies =
        let bad = rolls_back mid new refusal applies in
        let same : new ≡ mid = (applies.refused bad).1 in
        let failed : has_failed new ≡ true = ap (λ (t : Store D members). has_failed t) same ∙ bad in
        let second = refused_feeds mid new Rollback refusal applies in
        let rises = fails_then old mid new first.goes second.goes first.failing second.failing in
        record {
          goes = grows_both _ _ _ first.goes second.goes;
          ok = λ sound. tt;
          err = λ sound. (failed, rises sound failed);
          failing = rises;
          left = left_again old mid new first.left second.left;
        }

    pub undo_feeds : (place : ℕ) (text : List ℕ) (then : Then) (round : Round) (batch : Commanded) → Undoes mid new batch then round → FeedsOn (result_of (fails place text then)) old new
    undo_feeds place text GoOn round batch (answer, applies, is) = undone_feeds answer applies
    undo_feeds place text AsFailed round batch (refusal, applies, is) = failed_feeds refusal applies
    undo_feeds place text AsUnsure round batch undoes = absurd undoes

-- a line that is lost, by what is known of it
lost_as : (was : Option Lost) (found known : Lost) → was ≡ Some found → was ≡ Some known → (place : ℕ) (answer : List ℕ) → known.place ≡ place → reply_text known.reply ≡ answer
    → ◌≡◌ {A = Verdict} (fails found.place (reply_text found.reply) GoOn) (fails place answer GoOn)
lost_as was found known is is_known place answer at says =
    let same : found ≡ known = cc in
    let places : found.place ≡ place = ap (λ (l : Lost). l.place) same ∙ at in
    let answers : reply_text found.reply ≡ answer = ap (λ (l : Lost). reply_text l.reply) same ∙ says in
    ap (λ n. fails n (reply_text found.reply) GoOn) places ∙ ap (λ t. fails place t GoOn) answers

-- what is held of a batch of which a line is lost
record IsLost (found : Lost) (held : Held) : Type 0 where
  pub place : ℕ
  pub answer : List ℕ
  pub all : ℕ
  pub is : held ≡ lost place answer all
  pub says : ◌≡◌ {A = Verdict} (fails found.place (reply_text found.reply) GoOn) (fails place answer GoOn)

is_lost : (was : Option Lost) (lines : List Line) (count bytes : ℕ) (found : Lost) → was ≡ Some found → (held : Held) → IsHeldBy was lines count bytes held → IsLost found held
is_lost was lines count bytes found is (holds parts) h = let none : was ≡ None = h.0 in cc
is_lost was lines count bytes found is (lost place answer all) h = record {
  place = place;
  answer = answer;
  all = all;
  is = refl;
  says = lost_as was found h.0 is h.1 place answer h.2 h.3;
}

-- a batch of which a line is lost
pub settles_lost : {D : Type 0} {members : _} (store : Store D members) (s : State) (how : Manner) (was : Option Lost) (lines : List Line) (count bytes : ℕ) (found : Lost) → was ≡ Some found
    → (held : Held) → IsHeldBy was lines count bytes held → (round : Round) × SettlesHeld store store s how held (fails found.place (reply_text found.reply) GoOn) round
settles_lost store s how was lines count bytes found is held h =
    let known = is_lost was lines count bytes found is held h in
    let here : SettlesHeld store store s how (lost known.place known.answer known.all) (fails found.place (reply_text found.reply) GoOn) idle = (refl, known.says, refl) in
    (idle, subst (λ hd. SettlesHeld store store s how hd (fails found.place (reply_text found.reply) GoOn) idle) (sym known.is) here)

-- or one without lines
pub settles_none : {D : Type 0} {members : _} (store : Store D members) (s : State) (how : Manner) (lines : List Line) → (length lines == 0) ≡ true → (answers : List ℕ) → answers ≡ []
    → (parts : List (List ℕ)) → HoldsLines lines parts → (round : Round) × SettlesHeld store store s how (holds parts) (succeeds answers) round
settles_none store s how [] none answers said [] held = (idle, (refl, ap succeeds said, refl))
settles_none store s how [] none answers said (part ∷ parts) held = absurd held
settles_none store s how (line ∷ lines) none answers said parts held = absurd (grind (arith, nat_tests, none))

-- or with some
pub settles_some : {D : Type 0} {members : _} (old new : Store D members) (s : State) (how : Manner) (lines : List Line) → (length lines == 0) ≡ false → (verdict : Verdict)
    → (parts : List (List ℕ)) → HoldsLines lines parts → (round : Round) × Settles old new s how parts verdict round → (round : Round) × SettlesHeld old new s how (holds parts) verdict round
settles_some old new s how [] some verdict parts held settled = let bad : true ≡ false = some in cc
settles_some old new s how (line ∷ lines) some verdict [] held settled = absurd held
settles_some old new s how (line ∷ lines) some verdict (part ∷ parts) held settled = settled

-- or of which none is lost
pub settles_held : {D : Type 0} {members : _} (old new : Store D members) (s : State) (how : Manner) (was : Option Lost) (lines : List Line) (count bytes : ℕ) → was ≡ None
    → (verdict : Verdict) → ((parts : List (List ℕ)) → HoldsLines lines parts → (round : Round) × SettlesHeld old new s how (holds parts) verdict round)
    → (held : Held) → IsHeldBy was lines count bytes held → (round : Round) × SettlesHeld old new s how held verdict round
settles_held old new s how was lines count bytes none verdict settled (holds parts) h = settled parts h.1
settles_held old new s how was lines count bytes none verdict settled (lost place answer all) h = let found : was ≡ Some h.0 = h.1 in cc
