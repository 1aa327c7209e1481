-- What a crash leaves at each moment of a session with batches: one line after another.
use Rattle.std.proofs.Common.{◌≡◌, ◌⊎◌, inl, inr, ℕ, Bool, true, false, List, [], ◌∷◌, ◌++◌, length, Option, Some, None, Result, Ok, Err, refl, sym, ap, ◌∙◌, subst, append_assoc, append-nil, arith}
use Rattle.vm_types.specs.declared.answer.Answer.{Answer}
use Rattle.vm_types.specs.declared.command.Command.{Command}
use Rattle.vm_types.specs.declared.command.Command.TheVariants.{Commit, Rollback}
use Rattle.vm_types.specs.declared.refusal.Refusal.{Refusal}
use Rattle.vm_types.specs.State.{State, accepted, after, next}
use Rattle.vm_types.proofs.Runs.{after_more}
use Rattle.vm_disk.specs.Disk.{DiskState}
use Rattle.vm_store.specs.Store.{Holds, has_failed, disk_of}
use Rattle.vm_store.specs.declared.store.Store.{Store}
use Rattle.vm_cli.specs.session.SessionKinds.{Course}
use Rattle.vm_cli.specs.session.SessionKinds.Course.{over, proceeds}
use Rattle.vm_cli.specs.session.Keeps.{Keeps}
use Rattle.vm_cli.specs.session.LineUses.{no_memory, use_of}
use Rattle.vm_cli.specs.answers.Replies.{is_error}
use Rattle.vm_cli.specs.session.Rounds.{Round, after_round, after_rounds, all_answers, all_commands, round_answers, round_commands}
use Rattle.vm_cli.specs.session.Rounds.Round.{broken, committed, idle, undone, unsure}
use Rattle.vm_cli.specs.session.Streams.{Applies, Commits, Held, LeavesUnsure, Settles, SettlesHeld, StopsIn, Takes, TakesAs, Undoes, Verdict, batch_course, carried_by, course_of, trying}
use Rattle.vm_cli.specs.session.Streams.Held.{holds, lost}
use Rattle.vm_cli.specs.session.Streams.Takes.{for_its_use, without_memory}
use Rattle.vm_cli.specs.session.Streams.Verdict.{fails, succeeds}
use Rattle.vm_cli.specs.session.Session.{Answered, Done, HandlesLine, HasAnswered, Stood, AnswersEach, after_line, with_answer, with_command}
use Rattle.vm_cli.specs.declared.session.Manner.{Manner}
use Rattle.vm_cli.specs.declared.session.carrying.Then.TheVariants.{GoOn, Failed as AsFailed, Unsure as AsUnsure}
use Rattle.vm_cli.specs.declared.session.line_use.LineUse.{LineUse}
use Rattle.vm_cli.specs.declared.session.line_use.LineUse.TheVariants as line
use Rattle.vm_cli.proofs.ChainLemmas.{grown_sound}
use Rattle.vm_cli.proofs.KindLemmas.{IsKept, KeepsOn, KeptSo, kept_so}
use Rattle.vm_cli.proofs.HandledLemmas.{applied_goes}
use Rattle.vm_cli.proofs.KeepLemmas.{keeps}
use Rattle.vm_cli.proofs.LineUseLemmas.{query_none}
use Rattle.vm_cli.proofs.PassLemmas.{failed_or}
use Rattle.vm_cli.proofs.RoundLemmas.{answers-append, commands-append, rounds_append}
use Rattle.vm_cli.proofs.SettleLemmas.{applied_by, rolls_back}
use Rattle.vm_cli.proofs.SessionKeepLemmas.{SoFar, after_line-is, command_fails, command_stands, line_keeping, line_keeps, line_runs, lines_earlier, lines_keeping}

-- the state after further commands
after_both : (s : State) (commands : List Command) (answers : List (Result Answer Refusal)) (later : List Command) (others : List (Result Answer Refusal)) → length answers ≡ length commands
    → after s (commands ++ later) (answers ++ others) ≡ after (after s commands answers) later others
after_both s [] [] later others same = refl
after_both s [] (a ∷ answers) later others same = absurd (omega arith)
after_both s (c ∷ commands) [] later others same = absurd (omega arith)
after_both s (c ∷ commands) (a ∷ answers) later others same = after_both (next s c a) commands answers later others (omega (arith, same))

-- one more round
commands-more : (rounds : List Round) (round : Round) → all_commands (rounds ++ round ∷ []) ≡ all_commands rounds ++ round_commands round
commands-more rounds round = commands-append rounds (round ∷ []) ∙ ap (λ cs. all_commands rounds ++ cs) (append-nil (round_commands round))

answers-more : (rounds : List Round) (round : Round) → all_answers (rounds ++ round ∷ []) ≡ all_answers rounds ++ round_answers round
answers-more rounds round = answers-append rounds (round ∷ []) ∙ ap (λ rs. all_answers rounds ++ rs) (append-nil (round_answers round))

module _ {D : Type 0} {members : _} where
  -- a disk that is honest after a command was so before it
  applies_earlier : (old new : Store D members) (command : Command) (answer : Result Answer Refusal) → Applies old new command answer → (members.state (disk_of new)).honest ≡ true → (members.state (disk_of old)).honest ≡ true
  applies_earlier old new command answer applies honest = (applied_goes old new command answer (applied_by old new command answer applies)).earlier honest

  -- a store that accepted a command had not failed
  applies_sound : (old new : Store D members) (command : Command) (answer : Answer) → Applies old new command (Ok answer) → has_failed old ≡ false
  applies_sound old new command answer applies = by (failed_or (has_failed old))
    where
      by : (has_failed old ≡ false) ⊎ (has_failed old ≡ true) → has_failed old ≡ false
      by (inl sound) = sound
      by (inr failed) = let refused = (applies.refused failed).0 in absurd cc

  answered_earlier : (old new : Store D members) (s : State) (on : Manner) (lines : List (List ℕ)) (text : List ℕ) → HasAnswered old new s on lines text → (members.state (disk_of new)).honest ≡ true → (members.state (disk_of old)).honest ≡ true
  answered_earlier old new s on lines text answered honest = lines_earlier on lines old new s text answered.commands answered.answers answered.refused answered.each honest

  -- what came of a line: nothing was carried out; or it was a query, or a batch ended
  abbrev CameSo : Store D members → Store D members → State → Manner → LineUse → List ℕ → List ℕ → Course → Round → Type 0
  CameSo old new t on used part text course round =
      ((new ≡ old) × (round ≡ idle))
      ⊎ (((used ≡ line.Query) × (ends : Bool) × HandlesLine old new t on part text ends × (course ≡ course_of ends text) × (round ≡ idle))
      ⊎ ((held : Held) × (verdict : Verdict) × SettlesHeld old new t on held verdict round × (course ≡ batch_course verdict)))

  came : (old new : Store D members) (t : State) (on : Manner) (used : LineUse) (stage : Option Held) (part text : List ℕ) (course : Course) (stage' : Option Held) (round : Round)
      → TakesAs old new t on used stage part text course stage' round → CameSo old new t on used part text course round
  came old new t on line.Nothing None part text course stage' round takes = inl (takes.same, takes.came_so)
  came old new t on line.Begin None part text course stage' round takes = inl (takes.same, takes.came_so)
  came old new t on line.Commit None part text course stage' round takes = inl (takes.same, takes.came_so)
  came old new t on line.Abort None part text course stage' round takes = inl (takes.same, takes.came_so)
  came old new t on (line.Refused said) None part text course stage' round takes = inl (takes.same, takes.came_so)
  came old new t on line.Query None part text course stage' round takes = inr (inl (refl, takes.ends, takes.handled, takes.goes, takes.came_so))
  came old new t on line.Change None part text course stage' round takes = inr (inr (takes.held, takes.verdict, takes.settles, takes.goes))
  came old new t on line.Nothing (Some held) part text course stage' round takes = inl (takes.same, takes.came_so)
  came old new t on line.Begin (Some held) part text course stage' round takes = inl (takes.same, takes.came_so)
  came old new t on line.Query (Some held) part text course stage' round takes = inl (takes.same, takes.came_so)
  came old new t on (line.Refused said) (Some held) part text course stage' round takes = inl (takes.same, takes.came_so)
  came old new t on line.Change (Some held) part text course stage' round takes = inl (takes.said.same, takes.said.came_so)
  came old new t on line.Abort (Some held) part text course stage' round takes = inl (takes.same, takes.came_so)
  came old new t on line.Commit (Some held) part text course stage' round takes = inr (inr (held, takes.verdict, takes.settles, takes.goes))

  came_takes : (old new : Store D members) (t : State) (on : Manner) (stage : Option Held) (part text : List ℕ) (course : Course) (stage' : Option Held) (round : Round)
      → Takes old new t on stage part text course stage' round → CameSo old new t on (use_of on.on_command part) part text course round
  came_takes old new t on stage part text course stage' round (for_its_use found) = came old new t on (use_of on.on_command part) stage part text course stage' round found
  came_takes old new t on stage part text course stage' round (without_memory wanting) = by (came old new t on no_memory stage part text course stage' round wanting)
    where
      by : CameSo old new t on no_memory part text course round → CameSo old new t on (use_of on.on_command part) part text course round
      by (inl none) = inl none
      by (inr (inl asked)) = let other = asked.0 in cc
      by (inr (inr settled)) = inr (inr settled)

  -- a disk that is honest after a line was so before it
  module _ (old new : Store D members) (t : State) (how : Manner) (honest : (members.state (disk_of new)).honest ≡ true) where
    abbrev WasHonest : Type 0
    WasHonest = (members.state (disk_of old)).honest ≡ true

    same_earlier : new ≡ old → WasHonest
    same_earlier same = subst (λ (x : Store D members). (members.state (disk_of x)).honest ≡ true) same honest

    refused_earlier : (last : Store D members) (lines : List (List ℕ)) (place : ℕ) (text : List ℕ) → StopsIn old last t how lines place text → (members.state (disk_of last)).honest ≡ true → WasHonest
    refused_earlier last lines place text stops honest_last = answered_earlier old stops.mid t (trying how) stops.before stops.earlier stops.carried (stops.handled.passes.goes.earlier honest_last)

    pub settles_earlier : (lines : List (List ℕ)) (verdict : Verdict) (round : Round) → Settles old new t how lines verdict round → WasHonest
    settles_earlier lines (succeeds text) round settles = answered_earlier old settles.mid t (trying how) lines text settles.carried (applies_earlier settles.mid new Commit (Ok settles.answer) settles.applies honest)
    settles_earlier lines (fails place text AsUnsure) round settles =
        answered_earlier old settles.mid t (trying how) lines settles.answers settles.carried (applies_earlier settles.mid new Commit (Err settles.refusal) settles.applies honest)
    settles_earlier lines (fails place text GoOn) round settles = refused_earlier settles.last lines place text settles.stops (applies_earlier settles.last new Rollback (Ok settles.undoes.0) settles.undoes.1 honest)
    settles_earlier lines (fails place text AsFailed) round settles = refused_earlier settles.last lines place text settles.stops (applies_earlier settles.last new Rollback (Err settles.undoes.0) settles.undoes.1 honest)

    held_earlier : (held : Held) (verdict : Verdict) (round : Round) → SettlesHeld old new t how held verdict round → WasHonest
    held_earlier (holds []) verdict round settles = same_earlier settles.0
    held_earlier (holds (part ∷ parts)) verdict round settles = settles_earlier (part ∷ parts) verdict round settles
    held_earlier (lost place answer count) verdict round settles = same_earlier settles.0

  pub takes_earlier : (old new : Store D members) (t : State) (how : Manner) (stage : Option Held) (part text : List ℕ) (course : Course) (stage' : Option Held) (round : Round)
      → Takes old new t how stage part text course stage' round → (members.state (disk_of new)).honest ≡ true → (members.state (disk_of old)).honest ≡ true
  takes_earlier old new t how stage part text course stage' round takes honest =
      elim (came_takes old new t how stage part text course stage' round takes) [
        | inl none ↦ same_earlier old new t how honest none.0
        | inr some ↦ elim some [
          | inl asked ↦ asked.2.passes.goes.earlier honest
          | inr settled ↦ held_earlier old new t how honest settled.0 settled.1 round settled.2
        ]
      ]

  module _ (start : DiskState) (s : State) where
    -- the same, on this state and by these commands and answers
    kept_as : (store : Store D members) (t t' : State) (commands commands' : List Command) (answers answers' : List (Result Answer Refusal)) → t' ≡ t → commands' ≡ commands → answers' ≡ answers
        → IsKept start s store t commands answers → IsKept start s store t' commands' answers'
    kept_as store t t' commands commands' answers answers' is these those kept =
        subst (λ u. IsKept start s store u commands' answers') (sym is)
        (subst (λ cs. IsKept start s store t cs answers') (sym these) (subst (λ rs. IsKept start s store t commands rs) (sym those) kept))

    keeps_as : (store : Store D members) (commands commands' : List Command) (answers answers' : List (Result Answer Refusal)) → commands' ≡ commands → answers' ≡ answers
        → Keeps start (members.state (disk_of store)) s commands answers → Keeps start (members.state (disk_of store)) s commands' answers'
    keeps_as store commands commands' answers answers' these those kept =
        subst (λ cs. Keeps start (members.state (disk_of store)) s cs answers') (sym these) (subst (λ rs. Keeps start (members.state (disk_of store)) s commands rs) (sym those) kept)

    module _ (old : Store D members) (t : State) (commands : List Command) (answers : List (Result Answer Refusal)) (kept : IsKept start s old t commands answers) (new : Store D members) (honest : (members.state (disk_of new)).honest ≡ true) where
      -- a command that was accepted
      kept_command : (command : Command) (answer : Answer) → Applies old new command (Ok answer) → IsKept start s new (accepted t command) (commands ++ command ∷ []) (answers ++ Ok answer ∷ [])
      kept_command command answer applies =
          let carries = applies.done kept.sound in
          let sound = grown_sound old new command answer carries in
          record {
            so_far = line_runs start s old new commands answers kept.so_far honest kept.stands command (Ok answer) carries sound;
            sound = sound;
            stands = command_stands start s old new commands answers kept.so_far honest kept.stands command (Ok answer) carries sound;
            state = ap (λ u. accepted u command) kept.state ∙ sym (after_more s commands answers command (Ok answer) kept.so_far.run.last.same);
          }

      -- or refused
      command_kept : (command : Command) (refusal : Refusal) → Applies old new command (Err refusal) → Keeps start (members.state (disk_of new)) s (commands ++ command ∷ []) (answers ++ Err refusal ∷ [])
      command_kept command refusal applies = by (failed_or (has_failed new))
        where
          by : (has_failed new ≡ false) ⊎ (has_failed new ≡ true) → Keeps start (members.state (disk_of new)) s (commands ++ command ∷ []) (answers ++ Err refusal ∷ [])
          by (inl sound) =
              keeps start (members.state (disk_of new)) s (commands ++ command ∷ []) (answers ++ Err refusal ∷ [])
              (line_runs start s old new commands answers kept.so_far honest kept.stands command (Err refusal) (applies.done kept.sound) sound)
          by (inr failed) = command_fails start s old new commands answers kept.so_far honest kept.stands command (Err refusal) (applies.done kept.sound) failed

      stood : Stood old new t
      stood = record { honest = honest; holds = subst (λ u. Holds old u) (sym kept.state) kept.stands }

      -- after further commands
      state_after : (later : List Command) (others : List (Result Answer Refusal)) → after t later others ≡ after s (commands ++ later) (answers ++ others)
      state_after later others = ap (λ u. after u later others) kept.state ∙ sym (after_both s commands answers later others kept.so_far.run.last.same)

      -- lines of which none was the last
      kept_lines : (on : Manner) (lines : List (List ℕ)) (text : List ℕ) (answered : HasAnswered old new t on lines text)
          → IsKept start s new (after t answered.commands answered.answers) (commands ++ answered.commands) (answers ++ answered.answers)
      kept_lines on lines text answered =
          let sound = answered.still ∙ kept.sound in
          let state = state_after answered.commands answered.answers in
          record {
            so_far = lines_keeping start s on lines old new commands answers text answered.commands answered.answers answered.refused
                (subst (λ u. AnswersEach old new u on lines text answered.commands answered.answers answered.refused) kept.state answered.each) kept.so_far honest kept.sound kept.stands;
            sound = sound;
            stands = subst (λ u. Holds new u) state (answered.holds stood sound);
            state = state;
          }

      module _ (on : Manner) (line text : List ℕ) (ends : Bool) (handled : HandlesLine old new t on line text ends) where
        answered : Answered old new (after s commands answers) on line text ends handled.done
        answered = subst (λ u. Answered old new u on line text ends handled.done) kept.state handled.answers

        -- a line, in which the store did not fail
        kept_line : has_failed new ≡ false → IsKept start s new (after_line t handled.done) (commands ++ with_command handled.done []) (answers ++ with_answer handled.done [])
        kept_line sound =
            let state = ap (λ u. after_line u handled.done) kept.state ∙ sym (after_line-is s commands answers handled.done kept.so_far.run.last.same) in
            record {
              so_far = line_keeping start s old new commands answers kept.so_far honest kept.stands on line text ends handled.done answered handled.passes sound;
              sound = sound;
              stands = subst (λ u. Holds new u) state (handled.holds stood sound);
              state = state;
            }

        -- or may have
        line_kept : Keeps start (members.state (disk_of new)) s (commands ++ with_command handled.done []) (answers ++ with_answer handled.done [])
        line_kept = line_keeps start s old new commands answers kept.so_far honest kept.stands on line text ends handled.done answered handled.passes

    -- what follows on what was kept so far
    module _ (before : List Round) (old new : Store D members) (kept : KeepsOn start s old before) (honest : (members.state (disk_of new)).honest ≡ true) (on : Manner) where
      abbrev t : State
      t = after_rounds s before

      abbrev commands : List Command
      commands = all_commands before

      abbrev answers : List (Result Answer Refusal)
      answers = all_answers before

      -- a round is kept
      abbrev RoundKept : Course → Round → Type 0
      RoundKept course round = KeptSo start s course new (before ++ round ∷ [])

      -- and the session goes on
      keeps_round : (round : Round) (course : Course) (commands' : List Command) (answers' : List (Result Answer Refusal)) → commands ++ round_commands round ≡ commands' → answers ++ round_answers round ≡ answers'
          → IsKept start s new (after_round t round) commands' answers' → RoundKept course round
      keeps_round round course commands' answers' these those so_kept =
          kept_so start s course new (before ++ round ∷ [])
          (kept_as new _ _ commands' _ answers' _ (rounds_append s before (round ∷ [])) (commands-more before round ∙ these) (answers-more before round ∙ those) so_kept)

      -- or is over
      ends_round : (round : Round) (commands' : List Command) (answers' : List (Result Answer Refusal)) → commands ++ round_commands round ≡ commands' → answers ++ round_answers round ≡ answers'
          → Keeps start (members.state (disk_of new)) s commands' answers' → RoundKept over round
      ends_round round commands' answers' these those kept' = keeps_as new commands' _ answers' _ (commands-more before round ∙ these) (answers-more before round ∙ those) kept'

      -- nothing was carried out
      pub keeps_idle : (course : Course) (round : Round) → round ≡ idle → new ≡ old → RoundKept course round
      keeps_idle course round came_so same =
          subst (RoundKept course) (sym came_so)
          (keeps_round idle course commands answers (append-nil commands) (append-nil answers) (subst (λ (x : Store D members). IsKept start s x t commands answers) (sym same) kept))

      -- a batch was committed
      keeps_commit : (lines : List (List ℕ)) (text : List ℕ) (round : Round) → Commits old new t on lines text round → RoundKept (proceeds false) round
      keeps_commit lines text round commits =
          let cs = commits.carried.commands in
          let rs = commits.carried.answers in
          let there = applies_earlier commits.mid new Commit (Ok commits.answer) commits.applies honest in
          let each = kept_lines old t commands answers kept commits.mid there (trying on) lines text commits.carried in
          subst (RoundKept (proceeds false)) (sym commits.came_so)
          (keeps_round (committed (record { commands = cs; answers = rs }) commits.answer) (proceeds false) _ _ (sym (append_assoc commands cs (Commit ∷ []))) (sym (append_assoc answers rs (Ok commits.answer ∷ [])))
          (kept_command commits.mid (after t cs rs) (commands ++ cs) (answers ++ rs) each new honest Commit commits.answer commits.applies))

      -- its commit was not acknowledged
      unsure_kept : (lines : List (List ℕ)) (place : ℕ) (text : List ℕ) (round : Round) → LeavesUnsure old new t on lines place text round → RoundKept over round
      unsure_kept lines place text round leaves =
          let cs = leaves.carried.commands in
          let rs = leaves.carried.answers in
          let there = applies_earlier leaves.mid new Commit (Err leaves.refusal) leaves.applies honest in
          let each = kept_lines old t commands answers kept leaves.mid there (trying on) lines leaves.answers leaves.carried in
          subst (RoundKept over) (sym leaves.came_so)
          (ends_round (unsure (record { commands = cs; answers = rs }) leaves.refusal) _ _ (sym (append_assoc commands cs (Commit ∷ []))) (sym (append_assoc answers rs (Err leaves.refusal ∷ [])))
          (command_kept leaves.mid (after t cs rs) (commands ++ cs) (answers ++ rs) each new honest Commit leaves.refusal leaves.applies))

      -- a line of it was refused
      module _ (last : Store D members) (lines : List (List ℕ)) (place : ℕ) (text : List ℕ) (stops : StopsIn old last t on lines place text) (honest_last : (members.state (disk_of last)).honest ≡ true) where
        abbrev cs : List Command
        cs = stops.carried.commands

        abbrev rs : List (Result Answer Refusal)
        rs = stops.carried.answers

        abbrev c : List Command
        c = with_command stops.handled.done []

        abbrev r : List (Result Answer Refusal)
        r = with_answer stops.handled.done []

        before_line : IsKept start s stops.mid (after t cs rs) (commands ++ cs) (answers ++ rs)
        before_line = kept_lines old t commands answers kept stops.mid (stops.handled.passes.goes.earlier honest_last) (trying on) stops.before stops.earlier stops.carried

        -- and all was undone
        keeps_undone : (round : Round) → Undoes last new (carried_by stops) GoOn round → RoundKept (proceeds true) round
        keeps_undone round (answer, applies, came_so) =
            let sound = applies_sound last new Rollback answer applies in
            let line = kept_line stops.mid (after t cs rs) (commands ++ cs) (answers ++ rs) before_line last honest_last (trying on) stops.line stops.said stops.ends stops.handled sound in
            let each : IsKept start s last (after t (cs ++ c) (rs ++ r)) (commands ++ (cs ++ c)) (answers ++ (rs ++ r)) =
            record {
              so_far = subst (λ xs. SoFar start s last xs (answers ++ (rs ++ r))) (append_assoc commands cs c) (subst (λ xs. SoFar start s last ((commands ++ cs) ++ c) xs) (append_assoc answers rs r) line.so_far);
              sound = sound;
              stands = subst (λ xs. Holds last (after s xs (answers ++ (rs ++ r)))) (append_assoc commands cs c) (subst (λ xs. Holds last (after s ((commands ++ cs) ++ c) xs)) (append_assoc answers rs r) line.stands);
              state = state_after old t commands answers kept last honest_last (cs ++ c) (rs ++ r);
            } in
            subst (RoundKept (proceeds true)) (sym came_so)
            (keeps_round (undone (carried_by stops) answer) (proceeds true) _ _ (sym (append_assoc commands (cs ++ c) (Rollback ∷ []))) (sym (append_assoc answers (rs ++ r) (Ok answer ∷ [])))
            (kept_command last (after t (cs ++ c) (rs ++ r)) (commands ++ (cs ++ c)) (answers ++ (rs ++ r)) each new honest Rollback answer applies))

        -- or the store had failed
        broken_kept : (round : Round) → Undoes last new (carried_by stops) AsFailed round → RoundKept over round
        broken_kept round (refusal, applies, came_so) =
            let same : new ≡ last = (applies.refused (rolls_back last new refusal applies)).1 in
            let all = line_kept stops.mid (after t cs rs) (commands ++ cs) (answers ++ rs) before_line last honest_last (trying on) stops.line stops.said stops.ends stops.handled in
            subst (RoundKept over) (sym came_so)
            (ends_round (broken (carried_by stops)) ((commands ++ cs) ++ c) ((answers ++ rs) ++ r) (sym (append_assoc commands cs c)) (sym (append_assoc answers rs r))
            (subst (λ (x : Store D members). Keeps start (members.state (disk_of x)) s ((commands ++ cs) ++ c) ((answers ++ rs) ++ r)) (sym same) all))

      -- how a batch came out
      pub settles_kept : (lines : List (List ℕ)) (verdict : Verdict) (round : Round) → Settles old new t on lines verdict round → RoundKept (batch_course verdict) round
      settles_kept lines (succeeds text) round settles = keeps_commit lines text round settles
      settles_kept lines (fails place text AsUnsure) round settles = unsure_kept lines place text round settles
      settles_kept lines (fails place text GoOn) round settles =
          keeps_undone settles.last lines place text settles.stops (applies_earlier settles.last new Rollback (Ok settles.undoes.0) settles.undoes.1 honest) round settles.undoes
      settles_kept lines (fails place text AsFailed) round settles =
          broken_kept settles.last lines place text settles.stops (applies_earlier settles.last new Rollback (Err settles.undoes.0) settles.undoes.1 honest) round settles.undoes

      held_kept : (held : Held) (verdict : Verdict) (round : Round) → SettlesHeld old new t on held verdict round → RoundKept (batch_course verdict) round
      held_kept (holds []) verdict round settles = keeps_idle (batch_course verdict) round settles.2 settles.0
      held_kept (holds (part ∷ parts)) verdict round settles = settles_kept (part ∷ parts) verdict round settles
      held_kept (lost place answer count) verdict round settles = keeps_idle (batch_course verdict) round settles.2 settles.0

      -- a query, which carries out nothing; it ends the session if the store failed in it
      query_kept : (part text : List ℕ) (ends : Bool) (handled : HandlesLine old new t on part text ends) → use_of on.on_command part ≡ line.Query → (round : Round) → round ≡ idle → RoundKept (course_of ends text) round
      query_kept part text ends handled is_query round came_so = subst (RoundKept (course_of ends text)) (sym came_so) (by ends refl)
        where
          none : handled.done ≡ None
          none = query_none old new t on part text ends handled.done is_query handled.answers

          these : commands ++ [] ≡ commands ++ with_command handled.done []
          these = ap (λ (done : Done). commands ++ with_command done []) (sym none)

          those : answers ++ [] ≡ answers ++ with_answer handled.done []
          those = ap (λ (done : Done). answers ++ with_answer done []) (sym none)

          by : (b : Bool) → ends ≡ b → RoundKept (course_of b text) idle
          by true e = ends_round idle _ _ these those (line_kept old t commands answers kept new honest on part text ends handled)
          by false e =
              keeps_round idle (proceeds (is_error text)) _ _ these those
              (kept_as new (after_line t handled.done) t _ _ _ _ (ap (λ (done : Done). after_line t done) (sym none)) refl refl
              (kept_line old t commands answers kept new honest on part text ends handled (handled.still e ∙ kept.sound)))

      -- a line
      pub takes_kept : (stage : Option Held) (part text : List ℕ) (course : Course) (stage' : Option Held) (round : Round) → Takes old new t on stage part text course stage' round → RoundKept course round
      takes_kept stage part text course stage' round takes =
          elim (came_takes old new t on stage part text course stage' round takes) [
            | inl none ↦ keeps_idle course round none.1 none.0
            | inr some ↦ elim some [
              | inl asked ↦ subst (λ c. RoundKept c round) (sym asked.3) (query_kept part text asked.1 asked.2 asked.0 round asked.4)
              | inr settled ↦ subst (λ c. RoundKept c round) (sym settled.3) (held_kept settled.0 settled.1 round settled.2)
            ]
          ]
