-- Batches that wait and are carried out together: each round carries out their lines as those of one batch.
use Rattle.std.proofs.Common.{◌≡◌, ℕ, Bool, true, false, List, [], ◌∷◌, ◌++◌, Result, length, refl, sym, ap, ◌∙◌, subst, append_assoc, append-nil}
use Rattle.vm_types.specs.declared.answer.Answer.{Answer}
use Rattle.vm_types.specs.declared.command.Command.{Command}
use Rattle.vm_types.specs.declared.refusal.Refusal.{Refusal}
use Rattle.vm_types.specs.State.{State, after}
use Rattle.vm_disk.specs.Disk.{DiskState}
use Rattle.vm_disk.specs.declared.disk.Disk.{Ghosts}
use Rattle.vm_store.specs.Store.{Holds, disk_of}
use Rattle.vm_store.specs.declared.store.Store.{Store}
use Rattle.vm_cli.specs.session.SessionKinds.{Course}
use Rattle.vm_cli.specs.session.SessionKinds.Course.{over, proceeds, unwritten}
use Rattle.vm_cli.specs.answers.Replies.{reply_text}
use Rattle.vm_cli.specs.session.Rounds.{AllWhole, Batch as Commanded, IsWholeRound, Round, after_round, after_rounds}
use Rattle.vm_cli.specs.session.Rounds.Round.{committed, unsure}
use Rattle.vm_cli.specs.session.Streams.{Settles, StopsIn, Undoes, Verdict, batch_course, carried_by, trying}
use Rattle.vm_cli.specs.session.Streams.Verdict.{fails, succeeds}
use Rattle.vm_cli.specs.session.Session.{Answered, HandlesLine, HasAnswered, Stood, after_line, with_answer, with_command}
use Rattle.vm_cli.specs.session.Waiting.{CarriesAll, CommitsAll, EndsInRound, LeavesAllUnsure, RefusesOne, SettlesWaiting, TakesRound, Waiting, both, then_course}
use Rattle.vm_cli.specs.session.Waiting.EndsInRound.{commit_unsure, store_failed}
use Rattle.vm_cli.specs.session.Waiting.SettlesSome.{further_rounds, last_round}
use Rattle.vm_cli.specs.session.Waiting.TakesRound.{alone_refused, group_committed, group_undone}
use Rattle.vm_cli.specs.declared.answers.reply.Reply.TheVariants as reply
use Rattle.vm_cli.specs.declared.session.Manner.{Manner}
use Rattle.vm_cli.specs.declared.session.OnCommand.{OnCommand}
use Rattle.vm_cli.specs.declared.session.carrying.Then.{Then}
use Rattle.vm_cli.specs.declared.session.carrying.Then.TheVariants.{GoOn, Failed as AsFailed, Unsure as AsUnsure}
use Rattle.vm_cli.proofs.KindLemmas.{KeepsOn, KeptSo, kept_so}
use Rattle.vm_cli.proofs.FeedLemmas.{answers-joined, commands-joined, state-then, answered-join, answered-none}
use Rattle.vm_cli.proofs.RoundLemmas.{rounds_append}
use Rattle.vm_cli.proofs.StreamKeepLemmas.{settles_earlier, settles_kept}
use Rattle.vm_cli.proofs.WholeLemmas.{AllChanges, settles_whole}

-- ---- their lines

-- the lines of batches, one batch after another
abbrev all_lines : List Waiting → List (List ℕ)
all_lines [] = []
all_lines (it ∷ group) = it.lines ++ all_lines group

-- all of them are changes
abbrev pub AllWaiting : OnCommand → List Waiting → Type 0
AllWaiting on [] = Unit {0}
AllWaiting on (it ∷ waiting) = AllChanges on it.lines × AllWaiting on waiting

-- of the first of them, and of the others
waiting_cut : (on : OnCommand) (group rest : List Waiting) → AllWaiting on (group ++ rest) → AllWaiting on group × AllWaiting on rest
waiting_cut on [] rest all = (tt, all)
waiting_cut on (it ∷ group) rest all = let more = waiting_cut on group rest all.1 in ((all.0, more.0), more.1)

-- of some, and of more of them
pub waiting_more : (on : OnCommand) (waiting more : List Waiting) → AllWaiting on waiting → AllWaiting on more → AllWaiting on (waiting ++ more)
waiting_more on [] more first last = last
waiting_more on (it ∷ waiting) more first last = (first.0, waiting_more on waiting more first.1 last)

changes_joined : (on : OnCommand) (lines more : List (List ℕ)) → AllChanges on lines → AllChanges on more → AllChanges on (lines ++ more)
changes_joined on [] more first last = last
changes_joined on (line ∷ lines) more first last = (first.0, changes_joined on lines more first.1 last)

lines_change : (on : OnCommand) (group : List Waiting) → AllWaiting on group → AllChanges on (all_lines group)
lines_change on [] all = tt
lines_change on (it ∷ group) all = changes_joined on it.lines (all_lines group) all.0 (lines_change on group all.1)

-- no batch stands among none
never_one : (before : List Waiting) (it : Waiting) (behind : List Waiting) → [] ≡ before ++ it ∷ behind → ⊥
never_one [] it behind cut = cc
never_one (first ∷ before) it behind cut = cc

-- none stand before none
none_before : (group rest : List Waiting) → [] ≡ group ++ rest → group ≡ []
none_before [] rest cut = refl
none_before (it ∷ group) rest cut = cc

-- ---- they are carried out as one batch

abbrev done_by : List Command → List (Result Answer Refusal) → Commanded
done_by commands answers = record { commands = commands; answers = answers }

done_same : (commands commands' : List Command) (answers answers' : List (Result Answer Refusal)) → commands ≡ commands' → answers ≡ answers' → done_by commands answers ≡ done_by commands' answers'
done_same commands commands' answers answers' these those = ap (λ cs. done_by cs answers) these ∙ ap (λ rs. done_by commands' rs) those

module _ {D : Type 0} {members : _} where
  -- lines were carried out as a session carries them out, and this is what was done
  record AnswersSo (old new : Store D members) (s : State) (how : Manner) (lines : List (List ℕ)) (batch : Commanded) : Type 0 where
    pub text : List ℕ
    pub answered : HasAnswered old new s (trying how) lines text
    pub is : batch ≡ done_by answered.commands answered.answers

  carries_feeds : (group : List Waiting) (old new : Store D members) (s : State) (how : Manner) (answers : List (List ℕ)) (batch : Commanded) → CarriesAll old new s how group answers batch → AnswersSo old new s how (all_lines group) batch
  carries_feeds [] old new s how answers batch none =
      subst (λ (x : Store D members). AnswersSo old x s how [] batch) (sym none.same) (record { text = []; answered = answered-none old s (trying how); is = none.nothing })
  carries_feeds (it ∷ group) old new s how answers batch next =
      let mid = next.mid in
      let first = next.first in
      let carried = next.carried in
      let more = carries_feeds group mid new (after s carried.commands carried.answers) how next.others next.later next.more in
      let these = commands-joined old mid new s (trying how) it.lines first carried (all_lines group) more.text more.answered in
      let those = answers-joined old mid new s (trying how) it.lines first carried (all_lines group) more.text more.answered in
      record {
        text = first ++ more.text;
        answered = answered-join old mid new s (trying how) it.lines first carried (all_lines group) more.text more.answered;
        is = next.came ∙ ap (λ b. both (done_by carried.commands carried.answers) b) more.is ∙ sym (done_same _ _ _ _ these those);
      }

  -- they were committed together
  commits_settle : (old new : Store D members) (s : State) (how : Manner) (group : List Waiting) (text : List ℕ) (round : Round) → CommitsAll old new s how group text round
      → (said : List ℕ) × Settles old new s how (all_lines group) (succeeds said) round
  commits_settle old new s how group text round commits =
      let each = carries_feeds group old commits.mid s how commits.answers commits.batch commits.carried in (
        each.text,
        record {
          mid = commits.mid;
          answer = commits.answer;
          carried = each.answered;
          applies = commits.applies;
          came_so = commits.came_so ∙ ap (λ b. committed b commits.answer) each.is;
        },
      )

  -- or their commit was not acknowledged
  unsure_settle : (old new : Store D members) (s : State) (how : Manner) (group : List Waiting) (text : List ℕ) (round : Round) → LeavesAllUnsure old new s how group text round
      → Settles old new s how (all_lines group) (fails (length (all_lines group)) (reply_text reply.Unsure) AsUnsure) round
  unsure_settle old new s how group text round leaves =
      let each = carries_feeds group old leaves.mid s how leaves.answers leaves.batch leaves.carried in
      record {
        mid = leaves.mid;
        refusal = leaves.refusal;
        answers = each.text;
        carried = each.answered;
        applies = leaves.applies;
        at = refl;
        says = refl;
        came_so = leaves.came_so ∙ ap (λ b. unsure b leaves.refusal) each.is;
      }

  -- a line behind others was refused
  module _ (old mid last : Store D members) (s : State) (how : Manner) (lines : List (List ℕ)) (text : List ℕ) (first : HasAnswered old mid s (trying how) lines text) (more : List (List ℕ)) (place : ℕ) (why : List ℕ) (stops : StopsIn mid last (after s first.commands first.answers) how more place why) where
    abbrev joined_lines : HasAnswered old stops.mid s (trying how) (lines ++ stops.before) (text ++ stops.earlier)
    joined_lines = answered-join old mid stops.mid s (trying how) lines text first stops.before stops.earlier stops.carried

    state_joined : after (after s first.commands first.answers) stops.carried.commands stops.carried.answers ≡ after s joined_lines.commands joined_lines.answers
    state_joined =
        let these = commands-joined old mid stops.mid s (trying how) lines text first stops.before stops.earlier stops.carried in
        let those = answers-joined old mid stops.mid s (trying how) lines text first stops.before stops.earlier stops.carried in
        sym (state-then old mid stops.mid s (trying how) lines text first stops.before stops.earlier stops.carried)
        ∙ ap (λ cs. after s cs (first.answers ++ stops.carried.answers)) (sym these) ∙ ap (λ rs. after s joined_lines.commands rs) (sym those)

    abbrev handled_joined : HandlesLine stops.mid last (after s joined_lines.commands joined_lines.answers) (trying how) stops.line stops.said stops.ends
    handled_joined =
        let h = stops.handled in
        record {
          done = h.done;
          answers = subst (λ u. Answered stops.mid last u (trying how) stops.line stops.said stops.ends h.done) state_joined h.answers;
          passes = h.passes;
          still = h.still;
          holds = λ stood fine. subst (λ u. Holds last (after_line u h.done)) state_joined (h.holds (subst (λ u. Stood stops.mid last u) (sym state_joined) stood) fine);
        }

    abbrev stops_joined : StopsIn old last s how (lines ++ more) (length (lines ++ stops.before)) why
    stops_joined = record {
      mid = stops.mid;
      before = lines ++ stops.before;
      line = stops.line;
      behind = stops.behind;
      earlier = text ++ stops.earlier;
      said = stops.said;
      ends = stops.ends;
      cut = ap (λ ls. lines ++ ls) stops.cut ∙ sym (append_assoc lines stops.before (stops.line ∷ stops.behind));
      at = refl;
      carried = joined_lines;
      handled = handled_joined;
      says = stops.says;
    }

    -- what was carried out by then
    carried_joined : both (done_by first.commands first.answers) (carried_by stops) ≡ carried_by stops_joined
    carried_joined =
        let these = commands-joined old mid stops.mid s (trying how) lines text first stops.before stops.earlier stops.carried in
        let those = answers-joined old mid stops.mid s (trying how) lines text first stops.before stops.earlier stops.carried in
        let c = with_command stops.handled.done [] in
        let r = with_answer stops.handled.done [] in
        done_same _ _ _ _ (sym (append_assoc first.commands stops.carried.commands c) ∙ ap (λ cs. cs ++ c) (sym these)) (sym (append_assoc first.answers stops.carried.answers r) ∙ ap (λ rs. rs ++ r) (sym those))

  undone_settles : (old new : Store D members) (s : State) (how : Manner) (lines : List (List ℕ)) (place : ℕ) (why : List ℕ) (then : Then) (round : Round) (last : Store D members) (stops : StopsIn old last s how lines place why)
      → Undoes last new (carried_by stops) then round → Settles old new s how lines (fails place why then) round
  undone_settles old new s how lines place why GoOn round last stops undoes = record { last = last; stops = stops; undoes = undoes }
  undone_settles old new s how lines place why AsFailed round last stops undoes = record { last = last; stops = stops; undoes = undoes }
  undone_settles old new s how lines place why AsUnsure round last stops undoes = absurd undoes

  -- a line of one of them was refused
  refuses_settle : (old new : Store D members) (s : State) (how : Manner) (before : List Waiting) (it : Waiting) (text : List ℕ) (then : Then) (round : Round) → RefusesOne old new s how before it text then round
      → (place : ℕ) × (why : List ℕ) × Settles old new s how (all_lines before ++ it.lines) (fails place why then) round
  refuses_settle old new s how before it text then round refuses =
      let each = carries_feeds before old refuses.mid s how refuses.answers refuses.earlier refuses.carried in
      by each refuses.earlier each.is refuses.stops refuses.undoes
    where
      by : (each : AnswersSo old refuses.mid s how (all_lines before) refuses.earlier) (earlier : Commanded) → earlier ≡ done_by each.answered.commands each.answered.answers
          → (stops : StopsIn refuses.mid refuses.last (after s earlier.commands earlier.answers) how it.lines refuses.place refuses.why)
          → Undoes refuses.last new (both earlier (carried_by stops)) then round → (place : ℕ) × (why : List ℕ) × Settles old new s how (all_lines before ++ it.lines) (fails place why then) round
      by each earlier is =
          subst
          (λ (b : Commanded).
          (stops : StopsIn refuses.mid refuses.last (after s b.commands b.answers) how it.lines refuses.place refuses.why)
          → Undoes refuses.last new (both b (carried_by stops)) then round → (place : ℕ) × (why : List ℕ) × Settles old new s how (all_lines before ++ it.lines) (fails place why then) round)
          (sym is)
          (λ stops undoes. (
            length (all_lines before ++ stops.before),
            refuses.why,
            undone_settles old new s how (all_lines before ++ it.lines) (length (all_lines before ++ stops.before)) refuses.why then round refuses.last
                (stops_joined old refuses.mid refuses.last s how (all_lines before) each.text each.answered it.lines refuses.place refuses.why stops)
                (subst (λ b. Undoes refuses.last new b then round) (carried_joined old refuses.mid refuses.last s how (all_lines before) each.text each.answered it.lines refuses.place refuses.why stops) undoes),
          ))

  -- ---- one round

  -- lines of batches that wait were carried out in it as one batch
  record IsOneBatch (old new : Store D members) (s : State) (how : Manner) (waiting : List Waiting) (course : Course) (round : Round) : Type 0 where
    pub lines : List (List ℕ)
    pub verdict : Verdict
    pub settles : Settles old new s how lines verdict round
    pub goes : batch_course verdict ≡ course
    pub changes : (on : OnCommand) → AllWaiting on waiting → AllChanges on lines

  commits_one : (old new : Store D members) (s : State) (how : Manner) (waiting group rest : List Waiting) (text : List ℕ) (round : Round) → waiting ≡ group ++ rest → CommitsAll old new s how group text round
      → IsOneBatch old new s how waiting (proceeds false) round
  commits_one old new s how waiting group rest text round cut commits =
      let settled = commits_settle old new s how group text round commits in
      record {
        lines = all_lines group;
        verdict = succeeds settled.0;
        settles = settled.1;
        goes = refl;
        changes = λ on all. lines_change on group (waiting_cut on group rest (subst (AllWaiting on) cut all)).0;
      }

  unsure_one : (old new : Store D members) (s : State) (how : Manner) (waiting group rest : List Waiting) (text : List ℕ) (round : Round) → waiting ≡ group ++ rest → LeavesAllUnsure old new s how group text round
      → IsOneBatch old new s how waiting over round
  unsure_one old new s how waiting group rest text round cut leaves = record {
    lines = all_lines group;
    verdict = fails (length (all_lines group)) (reply_text reply.Unsure) AsUnsure;
    settles = unsure_settle old new s how group text round leaves;
    goes = refl;
    changes = λ on all. lines_change on group (waiting_cut on group rest (subst (AllWaiting on) cut all)).0;
  }

  refuses_one : (old new : Store D members) (s : State) (how : Manner) (waiting before : List Waiting) (it : Waiting) (behind : List Waiting) (text : List ℕ) (then : Then) (course : Course) (round : Round) → waiting ≡ before ++ it ∷ behind
      → ((place : ℕ) (why : List ℕ) → batch_course (fails place why then) ≡ course) → RefusesOne old new s how before it text then round → IsOneBatch old new s how waiting course round
  refuses_one old new s how waiting before it behind text then course round cut goes refuses =
      let settled = refuses_settle old new s how before it text then round refuses in
      record {
        lines = all_lines before ++ it.lines;
        verdict = fails settled.0 settled.1 then;
        settles = settled.2;
        goes = goes settled.0 settled.1;
        changes = λ on all.
            let parts = waiting_cut on before (it ∷ behind) (subst (AllWaiting on) cut all) in
            changes_joined on (all_lines before) it.lines (lines_change on before parts.0) parts.1.0;
      }

  -- after it the session goes on
  round_taken : (old new : Store D members) (s : State) (how : Manner) (waiting rest : List Waiting) (text : List ℕ) (refused : Bool) (round : Round) → TakesRound old new s how waiting rest text refused round
      → (again : Bool) × IsOneBatch old new s how waiting (proceeds again) round
  round_taken old new s how waiting rest text refused round (group_committed first) = (false, commits_one old new s how waiting first.group rest text round first.cut first.commits)
  round_taken old new s how waiting rest text refused round (alone_refused lost) = (true, refuses_one old new s how waiting [] lost.it rest text GoOn (proceeds true) round lost.cut (λ place why. refl) lost.stops)
  round_taken old new s how waiting rest text refused round (group_undone again) =
      (true, refuses_one old new s how waiting again.before again.it again.behind again.unsaid GoOn (proceeds true) round again.cut (λ place why. refl) again.stops)

  -- or is over
  round_ended : (old new : Store D members) (s : State) (how : Manner) (waiting : List Waiting) (text : List ℕ) (round : Round) → EndsInRound old new s how waiting text round → IsOneBatch old new s how waiting over round
  round_ended old new s how waiting text round (commit_unsure ends) = unsure_one old new s how waiting ends.group ends.rest text round ends.cut ends.leaves
  round_ended old new s how waiting text round (store_failed ends) = refuses_one old new s how waiting ends.before ends.it ends.behind text AsFailed over round ends.cut (λ place why. refl) ends.stops

  -- those that wait on hold changes too
  rest_changes : (old new : Store D members) (s : State) (how : Manner) (waiting rest : List Waiting) (text : List ℕ) (refused : Bool) (round : Round) → TakesRound old new s how waiting rest text refused round
      → (on : OnCommand) → AllWaiting on waiting → AllWaiting on rest
  rest_changes old new s how waiting rest text refused round (group_committed first) on all = (waiting_cut on first.group rest (subst (AllWaiting on) first.cut all)).1
  rest_changes old new s how waiting rest text refused round (alone_refused lost) on all = (subst (AllWaiting on) lost.cut all).1
  rest_changes old new s how waiting rest text refused round (group_undone again) on all = subst (AllWaiting on) (sym again.stays) all

module _ {D : Type 0} {members : Ghosts D} where
  -- ---- all that waits

  -- a disk that is honest after it was so before it
  pub waiting_earlier : (rounds : List Round) (old new : Store D members) (s : State) (how : Manner) (waiting : List Waiting) (text : List ℕ) (course : Course) → SettlesWaiting old new s how waiting text course rounds
      → (members.state (disk_of new)).honest ≡ true → (members.state (disk_of old)).honest ≡ true
  waiting_earlier [] old new s how waiting text course none honest = subst (λ (x : Store D members). (members.state (disk_of x)).honest ≡ true) none.same honest
  waiting_earlier (round ∷ rounds) old new s how waiting text course (last_round it) honest =
      let one = round_ended old new s how waiting text round it.ends in
      settles_earlier old new s how honest one.lines one.verdict round one.settles
  waiting_earlier (round ∷ rounds) old new s how waiting text course (further_rounds it) honest =
      let there = waiting_earlier rounds it.mid new (after_round s round) how it.rest it.more it.next it.others honest in
      let one = (round_taken old it.mid s how waiting it.rest it.said it.refused round it.takes).1 in
      settles_earlier old it.mid s how there one.lines one.verdict round one.settles

  -- what a crash leaves is kept
  module _ (start : DiskState) (s : State) (how : Manner) where
    pub then_kept : (refused : Bool) (course : Course) (store : Store D members) (rounds : List Round) → KeptSo start s course store rounds → KeptSo start s (then_course refused course) store rounds
    then_kept refused (proceeds again) store rounds kept = kept
    then_kept refused over store rounds kept = kept
    then_kept refused unwritten store rounds kept = kept

    one_kept : (old new : Store D members) (before : List Round) (waiting : List Waiting) (course : Course) (round : Round) → KeepsOn start s old before → (members.state (disk_of new)).honest ≡ true
        → IsOneBatch old new (after_rounds s before) how waiting course round → KeptSo start s course new (before ++ round ∷ [])
    one_kept old new before waiting course round kept honest one =
        subst (λ c. KeptSo start s c new (before ++ round ∷ [])) one.goes (settles_kept start s before old new kept honest how one.lines one.verdict round one.settles)

    pub waiting_kept : (rounds : List Round) (old new : Store D members) (before : List Round) (waiting : List Waiting) (text : List ℕ) (course : Course) → SettlesWaiting old new (after_rounds s before) how waiting text course rounds
        → (members.state (disk_of new)).honest ≡ true → KeepsOn start s old before → KeptSo start s course new (before ++ rounds)
    waiting_kept [] old new before waiting text course none honest kept =
        subst (KeptSo start s course new) (sym (append-nil before)) (kept_so start s course new before (subst (λ (x : Store D members). KeepsOn start s x before) (sym none.same) kept))
    waiting_kept (round ∷ rounds) old new before waiting text course (last_round it) honest kept =
        let one = round_ended old new (after_rounds s before) how waiting text round it.ends in
        subst (λ c. KeptSo start s c new (before ++ round ∷ rounds)) (sym it.goes)
        (subst (λ rs. KeptSo start s over new (before ++ round ∷ rs)) (sym it.last) (one_kept old new before waiting over round kept honest one))
    waiting_kept (round ∷ rounds) old new before waiting text course (further_rounds it) honest kept =
        let there = waiting_earlier rounds it.mid new (after_round (after_rounds s before) round) how it.rest it.more it.next it.others honest in
        let taken = round_taken old it.mid (after_rounds s before) how waiting it.rest it.said it.refused round it.takes in
        let on = subst (λ u. SettlesWaiting it.mid new u how it.rest it.more it.next rounds) (sym (rounds_append s before (round ∷ []))) it.others in
        let all = waiting_kept rounds it.mid new (before ++ round ∷ []) it.rest it.more it.next on honest (one_kept old it.mid before waiting (proceeds taken.0) round kept there taken.1) in
        subst (λ c. KeptSo start s c new (before ++ round ∷ rounds)) (sym it.goes)
        (then_kept it.refused it.next new (before ++ round ∷ rounds) (subst (KeptSo start s it.next new) (append_assoc before (round ∷ []) rounds) all))

  -- its rounds are whole
  one_whole : (old new : Store D members) (s : State) (how : Manner) (waiting : List Waiting) (course : Course) (round : Round) → IsOneBatch old new s how waiting course round → AllWaiting how.on_command waiting → IsWholeRound round
  one_whole old new s how waiting course round one all = settles_whole how one.lines old new s one.verdict round one.settles (one.changes how.on_command all)

  pub waiting_whole : (rounds : List Round) (old new : Store D members) (s : State) (how : Manner) (waiting : List Waiting) (text : List ℕ) (course : Course) → SettlesWaiting old new s how waiting text course rounds
      → AllWaiting how.on_command waiting → AllWhole rounds
  waiting_whole [] old new s how waiting text course settles all = tt
  waiting_whole (round ∷ rounds) old new s how waiting text course (last_round it) all =
      (one_whole old new s how waiting over round (round_ended old new s how waiting text round it.ends) all, subst AllWhole (sym it.last) tt)
  waiting_whole (round ∷ rounds) old new s how waiting text course (further_rounds it) all =
      let taken = round_taken old it.mid s how waiting it.rest it.said it.refused round it.takes in (
        one_whole old it.mid s how waiting (proceeds taken.0) round taken.1 all,
        waiting_whole rounds it.mid new (after_round s round) how it.rest it.more it.next it.others (rest_changes old it.mid s how waiting it.rest it.said it.refused round it.takes how.on_command all),
      )

  -- ---- where nothing waits, nothing is done

  no_round_taken : (old new : Store D members) (s : State) (how : Manner) (rest : List Waiting) (text : List ℕ) (refused : Bool) (round : Round) → TakesRound old new s how [] rest text refused round → ⊥
  no_round_taken old new s how rest text refused round (group_committed first) = first.some (none_before first.group rest first.cut)
  no_round_taken old new s how rest text refused round (alone_refused lost) = never_one [] lost.it rest lost.cut
  no_round_taken old new s how rest text refused round (group_undone again) = never_one again.before again.it again.behind again.cut

  no_round_ended : (old new : Store D members) (s : State) (how : Manner) (text : List ℕ) (round : Round) → EndsInRound old new s how [] text round → ⊥
  no_round_ended old new s how text round (commit_unsure ends) = ends.some (none_before ends.group ends.rest ends.cut)
  no_round_ended old new s how text round (store_failed ends) = never_one ends.before ends.it ends.behind ends.cut

  pub none_settles : (rounds : List Round) (old new : Store D members) (s : State) (how : Manner) (text : List ℕ) (course : Course) → SettlesWaiting old new s how [] text course rounds → new ≡ old
  none_settles [] old new s how text course none = none.same
  none_settles (round ∷ rounds) old new s how text course (last_round it) = absurd (no_round_ended old new s how text round it.ends)
  none_settles (round ∷ rounds) old new s how text course (further_rounds it) = absurd (no_round_taken old it.mid s how it.rest it.said it.refused round it.takes)
