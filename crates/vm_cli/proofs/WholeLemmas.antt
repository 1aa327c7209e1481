-- What a batch carries out: its lines alone, of which none commits.
use Rattle.std.proofs.Common.{◌≡◌, ◌++◌, ◌∙◌, ℕ, zero, suc, Bool, false, List, [], ◌∷◌, codes, length, nat_lt, if◌then◌else◌, Option, None, Some, Result, Ok, Err, ap, sym, subst, refl, arith}
use Rattle.std.proofs.lemmas.List.{length-append}
use Rattle.vm_types.specs.declared.answer.Answer.{Answer}
use Rattle.vm_types.specs.declared.command.Command.{Command}
use Rattle.vm_types.specs.declared.command.Command.TheVariants.{Commit, Merge, Rollback}
use Rattle.vm_types.specs.declared.command.Side.{Side}
use Rattle.vm_types.specs.declared.key.Key.{Key}
use Rattle.vm_types.specs.declared.refusal.Refusal.{Refusal}
use Rattle.vm_types.specs.State.{State, is_commit}
use Rattle.vm_store.specs.declared.store.Store.{Store}
use Rattle.vm_cli.specs.lines.Asking.{Request}
use Rattle.vm_cli.specs.session.SessionKinds.{Course}
use Rattle.vm_cli.specs.lines.Input.{without_return}
use Rattle.vm_cli.specs.session.LineUses.{is_alone, no_memory, use_of, use_of_command, use_of_request, use_of_words}
use Rattle.vm_cli.specs.lines.Requests.{asked_in, request_of}
use Rattle.vm_cli.specs.session.Rounds.{Batch as Commanded, CommitNothing, IsWhole, IsWholeRound, Round}
use Rattle.vm_cli.specs.session.Rounds.Round.{idle}
use Rattle.vm_cli.specs.lines.Settlements.{for_all}
use Rattle.vm_cli.specs.lines.Spaces.{words_of}
use Rattle.vm_cli.specs.session.Streams.{Adds, Held, Settles, SettlesHeld, StopsIn, Takes, TakesAs, Undoes, Verdict, carried_by, losing, trying}
use Rattle.vm_cli.specs.session.Streams.AddsTo.{batch_too_large, line_added, no_memory_for_change}
use Rattle.vm_cli.specs.session.Streams.Held.{holds, lost}
use Rattle.vm_cli.specs.session.Streams.Takes.{for_its_use, without_memory}
use Rattle.vm_cli.specs.session.Streams.Verdict.{fails, succeeds}
use Rattle.vm_cli.specs.session.Session.{Answered, AnsweredRequest, AnswersCommand, AnswersMerge, AnswersWithin, Done, HasAnswered, Meets, AnswersEach, Tries, after_line, each_answer, each_command, with_answer, with_command}
use Rattle.vm_cli.specs.session.Session.Answered.{as_asked, too_long, wanting}
use Rattle.vm_cli.specs.session.Session.AnsweredRequest.{had_failed, met}
use Rattle.vm_cli.specs.declared.lines.line.TheConstants.{MAX_BYTES}
use Rattle.vm_cli.specs.declared.session.Manner.{Manner}
use Rattle.vm_cli.specs.declared.session.OnCommand.{OnCommand}
use Rattle.vm_cli.specs.declared.session.OnCommand.TheVariants.{CarryOut, GrowIfFull, Refuse}
use Rattle.vm_cli.specs.declared.session.carrying.Then.{Then}
use Rattle.vm_cli.specs.declared.session.carrying.Then.TheVariants.{GoOn, Failed as AsFailed, Unsure as AsUnsure}
use Rattle.vm_cli.specs.declared.session.line_use.LineUse.{LineUse}
use Rattle.vm_cli.specs.declared.session.line_use.LineUse.TheVariants as line
use Rattle.vm_cli.proofs.LineUseLemmas.{other_use}

-- ---- what is asked for by a change

-- a command that commits nothing
abbrev Changes : Request → Type 0
Changes (Request.Command command) = is_commit command ≡ false
Changes (Request.Growing most command) = is_commit command ≡ false
Changes (Request.MergeAll limit alt side settled) = Unit {0}
Changes request = ⊥

command_changes : (on : OnCommand) (command : Command) → use_of_command on command ≡ line.Change → is_commit command ≡ false
command_changes on Commit is = cc
command_changes on command is = refl

request_changes : (on : OnCommand) (request : Request) → use_of_request on request ≡ line.Change → Changes request
request_changes on (Request.Command command) is = command_changes on command is
request_changes on (Request.Growing most command) is = command_changes on command is
request_changes on (Request.MergeAll limit alt side settled) is = tt
request_changes on request is = let bad : ⊥ = cc in absurd bad

-- so it does in each session
changes_in : (on : OnCommand) (request : Request) → Changes request → (use_of_request on request ≡ line.Change) → Changes (asked_in on request)
changes_in CarryOut request changes is = changes
changes_in (GrowIfFull most) (Request.Command command) changes is = changes
changes_in (GrowIfFull most) (Request.MergeAll limit alt side settled) changes is = tt
changes_in (GrowIfFull most) request changes is = changes
changes_in Refuse (Request.Command Commit) changes is = cc
changes_in Refuse (Request.Command Rollback) changes is = cc
changes_in Refuse (Request.Command command) changes is = cc
changes_in Refuse (Request.Growing most Commit) changes is = cc
changes_in Refuse (Request.Growing most Rollback) changes is = cc
changes_in Refuse (Request.Growing most command) changes is = cc
changes_in Refuse (Request.MergeAll limit alt side settled) changes is = cc
changes_in Refuse request changes is = absurd changes

change_request : (on : OnCommand) (part : List ℕ) → use_of on part ≡ line.Change → use_of_request on (request_of (words_of (without_return part))) ≡ line.Change
change_request on part is =
    let words = words_of (without_return part) in
    let asked = use_of_request on (request_of words) in
    let spoken = if is_alone (codes "abort") words then line.Abort else asked in
    let short : use_of_words on words ≡ line.Change = other_use (nat_lt MAX_BYTES (length part)) _ (use_of_words on words) line.Change is (λ e. cc) in
    let begun : spoken ≡ line.Change = other_use (is_alone (codes "begin") words) line.Begin spoken line.Change short (λ e. cc) in
    other_use (is_alone (codes "abort") words) line.Abort asked line.Change begun (λ e. cc)

-- ---- what it carries out

-- both
both_nothing : (first second : List Command) → CommitNothing first → CommitNothing second → CommitNothing (first ++ second)
both_nothing [] second none more = more
both_nothing (command ∷ first) second none more = (none.0, both_nothing first second none.1 more)

each_nothing : (each : List (Command × Result Answer Refusal)) (later : List Command) → CommitNothing (each_command each []) → CommitNothing later → CommitNothing (each_command each later)
each_nothing [] later none more = more
each_nothing ((command, answer) ∷ each) later none more = (none.0, each_nothing each later none.1 more)

with_nothing : (done : Done) (later : List Command) → CommitNothing (with_command done []) → CommitNothing later → CommitNothing (with_command done later)
with_nothing None later none more = more
with_nothing (Some each) later none more = each_nothing each later none more

-- each has its answer
each_even : (each : List (Command × Result Answer Refusal)) (later : List Command) (others : List (Result Answer Refusal)) → length others ≡ length later → length (each_answer each others) ≡ length (each_command each later)
each_even [] later others same = same
each_even ((command, answer) ∷ each) later others same = ap suc (each_even each later others same)

with_even : (done : Done) (later : List Command) (others : List (Result Answer Refusal)) → length others ≡ length later → length (with_answer done others) ≡ length (with_command done later)
with_even None later others same = same
with_even (Some each) later others same = each_even each later others same

no_command : (done : Done) → done ≡ None → CommitNothing (with_command done [])
no_command done none = subst (λ (d : Done). CommitNothing (with_command d [])) (sym none) tt

pub idle_whole : (round : Round) → round ≡ idle → IsWholeRound round
idle_whole round came_so = subst IsWholeRound (sym came_so) tt

module _ {D : Type 0} {members : _} where
  tries_nothing : (left most : ℕ) (command : Command) (old new : Store D members) (text : List ℕ) (each : List (Command × Result Answer Refusal)) → is_commit command ≡ false → Tries left most command old new text each → CommitNothing (each_command each [])
  tries_nothing left most command old new text [] never tries = absurd tries
  tries_nothing left most command old new text ((asked, answer) ∷ []) never tries = (ap is_commit tries.0 ∙ never, tt)
  tries_nothing zero most command old new text (first ∷ (second ∷ more)) never tries = absurd tries
  tries_nothing (suc left) most command old new text ((asked, answer) ∷ ((grow, Err refusal) ∷ [])) never tries = (ap is_commit tries.0.same ∙ never, (ap is_commit tries.0.size, tt))
  tries_nothing (suc left) most command old new text ((asked, answer) ∷ ((grow, Err refusal) ∷ (other ∷ more))) never tries = absurd tries
  tries_nothing (suc left) most command old new text ((asked, answer) ∷ ((grow, Ok done) ∷ more)) never tries =
      (ap is_commit tries.1.same ∙ never, (ap is_commit tries.1.size, tries_nothing left most command tries.0 new text more never tries.2))

  command_nothing : (old new : Store D members) (command : Command) (text : List ℕ) (done : Done) → is_commit command ≡ false → AnswersCommand old new command text done → CommitNothing (with_command done [])
  command_nothing old new command text None never answers = absurd answers
  command_nothing old new command text (Some []) never answers = absurd answers
  command_nothing old new command text (Some ((asked, answer) ∷ [])) never answers = (ap is_commit answers.0 ∙ never, tt)
  command_nothing old new command text (Some (first ∷ (second ∷ more))) never answers = absurd answers

  within_nothing : (limit : Option ℕ) (old new : Store D members) (command : Command) (text : List ℕ) (each : List (Command × Result Answer Refusal)) → is_commit command ≡ false → AnswersWithin limit old new command text (Some each) → CommitNothing (each_command each [])
  within_nothing None old new command text each never answers = command_nothing old new command text (Some each) never answers
  within_nothing (Some most) old new command text each never answers = tries_nothing _ most command old new text each never answers

  merge_nothing : (limit : Option ℕ) (old new : Store D members) (s : State) (alt : List ℕ) (side : Side) (settled : List (Key × Side)) (text : List ℕ) (done : Done) → AnswersMerge limit old new s alt side settled text done → CommitNothing (with_command done [])
  merge_nothing limit old new s alt side settled text None answers = tt
  merge_nothing limit old new s alt side settled text (Some each) answers = within_nothing limit answers.mid new (Merge alt (for_all side settled answers.conflicts)) text each refl answers.merges

  meets_nothing : (old new : Store D members) (s : State) (request : Request) (text : List ℕ) (done : Done) → Changes request → Meets old new s request text done → CommitNothing (with_command done [])
  meets_nothing old new s (Request.Command command) text done changes meets = command_nothing old new command text done changes meets
  meets_nothing old new s (Request.Growing most command) text None changes meets = absurd meets
  meets_nothing old new s (Request.Growing most command) text (Some each) changes meets = tries_nothing _ most command old new text each changes meets
  meets_nothing old new s (Request.MergeAll limit alt side settled) text done changes meets = merge_nothing limit old new s alt side settled text done meets
  meets_nothing old new s request text done changes meets = absurd changes

  request_nothing : (old new : Store D members) (s : State) (request : Request) (text : List ℕ) (ends : Bool) (done : Done) → Changes request → AnsweredRequest old new s request text ends done → CommitNothing (with_command done [])
  request_nothing old new s request text ends done changes (met sound last meets) = meets_nothing old new s request text done changes meets
  request_nothing old new s request text ends done changes (had_failed failed same none says) = no_command done none

  -- a line that is a change
  line_nothing : (old new : Store D members) (s : State) (on : Manner) (part text : List ℕ) (ends : Bool) (done : Done) → use_of on.on_command part ≡ line.Change → Answered old new s on part text ends done → CommitNothing (with_command done [])
  line_nothing old new s on part text ends done is (wanting nothing says) = no_command done nothing.none
  line_nothing old new s on part text ends done is (too_long long nothing says) = no_command done nothing.none
  line_nothing old new s on part text ends done is (as_asked short answered) =
      let asked = request_of (words_of (without_return part)) in
      let change = change_request on.on_command part is in
      request_nothing old new s (asked_in on.on_command asked) text ends done (changes_in on.on_command asked (request_changes on.on_command asked change) change) answered

-- ---- lines that are held

abbrev pub AllChanges : OnCommand → List (List ℕ) → Type 0
AllChanges on [] = Unit {0}
AllChanges on (part ∷ parts) = (use_of on part ≡ line.Change) × AllChanges on parts

abbrev AreChanges : OnCommand → Held → Type 0
AreChanges on (holds parts) = AllChanges on parts
AreChanges on (lost place answer count) = Unit {0}

abbrev pub StageChanges : OnCommand → Option Held → Type 0
StageChanges on None = Unit {0}
StageChanges on (Some held) = AreChanges on held

changes_more : (on : OnCommand) (parts : List (List ℕ)) (part : List ℕ) → AllChanges on parts → use_of on part ≡ line.Change → AllChanges on (parts ++ part ∷ [])
changes_more on [] part all is = (is, tt)
changes_more on (first ∷ parts) part all is = (all.0, changes_more on parts part all.1 is)

-- those before one of them, and that one
changes_cut : (on : OnCommand) (before : List (List ℕ)) (part : List ℕ) (behind : List (List ℕ)) → AllChanges on (before ++ part ∷ behind) → AllChanges on before × (use_of on part ≡ line.Change)
changes_cut on [] part behind all = (tt, all.0)
changes_cut on (first ∷ before) part behind all = let rest = changes_cut on before part behind all.1 in ((all.0, rest.0), rest.1)

changes_added : (on : OnCommand) (part : List ℕ) → use_of on part ≡ line.Change → (held held' : Held) → Adds part held held' → AreChanges on held → AreChanges on held'
changes_added on part is (holds parts) held' (line_added more) all = subst (AreChanges on) (sym more) (changes_more on parts part all is)
changes_added on part is (holds parts) held' (no_memory_for_change none) all = subst (AreChanges on) (sym none) tt
changes_added on part is (holds parts) held' (batch_too_large large so) all = subst (AreChanges on) (sym large) tt
changes_added on part is (lost place answer count) held' adds all = subst (AreChanges on) (sym adds) tt

changes_lost : (on : OnCommand) (answer : List ℕ) (held : Held) → AreChanges on (losing answer held)
changes_lost on answer (holds parts) = tt
changes_lost on answer (lost place first count) = tt

module _ {D : Type 0} {members : _} where
  -- lines that were carried out
  lines_nothing : (on : Manner) (lines : List (List ℕ)) (old new : Store D members) (s : State) (text : List ℕ) (commands : List Command) (answers : List (Result Answer Refusal)) (refused : Bool)
      → AllChanges on.on_command lines → AnswersEach old new s on lines text commands answers refused → CommitNothing commands × (length answers ≡ length commands)
  lines_nothing on [] old new s text commands answers refused all none = (subst CommitNothing (sym none.no_commands) tt, ap length none.no_answers ∙ sym (ap length none.no_commands))
  lines_nothing on (first ∷ lines) old new s text commands answers refused all it =
      let done = it.step.done in
      let more = lines_nothing on lines it.mid new (after_line s done) it.rest it.later it.others it.again all.1 it.more in (
        subst CommitNothing (sym it.carried) (with_nothing done it.later (line_nothing old it.mid s on first it.first false done all.0 it.step.answers) more.0),
        ap length it.given ∙ with_even done it.later it.others more.1 ∙ sym (ap length it.carried),
      )

  answered_whole : (on : Manner) (lines : List (List ℕ)) (old new : Store D members) (s : State) (text : List ℕ) (answered : HasAnswered old new s on lines text) → AllChanges on.on_command lines → IsWhole (record { commands = answered.commands; answers = answered.answers })
  answered_whole on lines old new s text answered all =
      let both = lines_nothing on lines old new s text answered.commands answered.answers answered.refused all answered.each in
      record { even = both.1; changes = both.0 }

  stops_whole : (how : Manner) (lines : List (List ℕ)) (old last : Store D members) (s : State) (place : ℕ) (text : List ℕ) (stops : StopsIn old last s how lines place text) → AllChanges how.on_command lines → IsWhole (carried_by stops)
  stops_whole how lines old last s place text stops all =
      let cut = changes_cut how.on_command stops.before stops.line stops.behind (subst (AllChanges how.on_command) stops.cut all) in
      let before = answered_whole (trying how) stops.before old stops.mid s stops.earlier stops.carried cut.0 in
      let one = line_nothing stops.mid last _ (trying how) stops.line stops.said stops.ends stops.handled.done cut.1 stops.handled.answers in
      let even = with_even stops.handled.done [] [] refl in
      record {
        even = length-append stops.carried.answers (with_answer stops.handled.done []) ∙ omega (arith, before.even, even) ∙ sym (length-append stops.carried.commands (with_command stops.handled.done []));
        changes = both_nothing stops.carried.commands (with_command stops.handled.done []) before.changes one;
      }

  undoes_whole : (old new : Store D members) (batch : Commanded) (ending : Then) (round : Round) → Undoes old new batch ending round → IsWhole batch → IsWholeRound round
  undoes_whole old new batch GoOn round (answer, applies, came_so) whole = subst IsWholeRound (sym came_so) whole
  undoes_whole old new batch AsFailed round (refusal, applies, came_so) whole = subst IsWholeRound (sym came_so) whole
  undoes_whole old new batch AsUnsure round undoes whole = absurd undoes

  pub settles_whole : (how : Manner) (lines : List (List ℕ)) (old new : Store D members) (s : State) (verdict : Verdict) (round : Round) → Settles old new s how lines verdict round → AllChanges how.on_command lines → IsWholeRound round
  settles_whole how lines old new s (succeeds text) round settles all = subst IsWholeRound (sym settles.came_so) (answered_whole (trying how) lines old settles.mid s text settles.carried all)
  settles_whole how lines old new s (fails place text AsUnsure) round settles all = subst IsWholeRound (sym settles.came_so) (answered_whole (trying how) lines old settles.mid s settles.answers settles.carried all)
  settles_whole how lines old new s (fails place text GoOn) round settles all = undoes_whole settles.last new (carried_by settles.stops) GoOn round settles.undoes (stops_whole how lines old settles.last s place text settles.stops all)
  settles_whole how lines old new s (fails place text AsFailed) round settles all = undoes_whole settles.last new (carried_by settles.stops) AsFailed round settles.undoes (stops_whole how lines old settles.last s place text settles.stops all)

  held_whole : (how : Manner) (held : Held) (old new : Store D members) (s : State) (verdict : Verdict) (round : Round) → SettlesHeld old new s how held verdict round → AreChanges how.on_command held → IsWholeRound round
  held_whole how (holds []) old new s verdict round settles all = idle_whole round settles.2
  held_whole how (holds (part ∷ parts)) old new s verdict round settles all = settles_whole how (part ∷ parts) old new s verdict round settles all
  held_whole how (lost place answer count) old new s verdict round settles all = idle_whole round settles.2

  module _ (how : Manner) (old new : Store D members) (s : State) (part text : List ℕ) (course : Course) (stage' : Option Held) (round : Round) where
    said_whole : (stage : Option Held) → round ≡ idle → stage' ≡ stage → StageChanges how.on_command stage → IsWholeRound round × StageChanges how.on_command stage'
    said_whole stage came_so is all = (idle_whole round came_so, subst (StageChanges how.on_command) (sym is) all)

    as_whole : (used : LineUse) (stage : Option Held) → (used ≡ line.Change → use_of how.on_command part ≡ line.Change) → StageChanges how.on_command stage → TakesAs old new s how used stage part text course stage' round
        → IsWholeRound round × StageChanges how.on_command stage'
    as_whole line.Nothing None found all takes = said_whole None takes.came_so takes.held tt
    as_whole line.Begin None found all takes = said_whole (Some (holds [])) takes.came_so takes.held tt
    as_whole line.Commit None found all takes = said_whole None takes.came_so takes.held tt
    as_whole line.Abort None found all takes = said_whole None takes.came_so takes.held tt
    as_whole (line.Refused said) None found all takes = said_whole None takes.came_so takes.held tt
    as_whole line.Query None found all takes = said_whole None takes.came_so takes.outside tt
    as_whole line.Change None found all takes =
        let added = changes_added how.on_command part (found refl) (holds []) takes.held takes.adds tt in
        (held_whole how takes.held old new s takes.verdict round takes.settles added, subst (StageChanges how.on_command) (sym takes.outside) tt)
    as_whole line.Nothing (Some held) found all takes = said_whole (Some held) takes.came_so takes.held all
    as_whole line.Begin (Some held) found all takes = said_whole _ takes.came_so takes.held (changes_lost how.on_command _ held)
    as_whole line.Query (Some held) found all takes = said_whole _ takes.came_so takes.held (changes_lost how.on_command _ held)
    as_whole (line.Refused said) (Some held) found all takes = said_whole _ takes.came_so takes.held (changes_lost how.on_command _ held)
    as_whole line.Change (Some held) found all takes = said_whole (Some takes.held') takes.said.came_so takes.said.held (changes_added how.on_command part (found refl) held takes.held' takes.adds all)
    as_whole line.Abort (Some held) found all takes = said_whole None takes.came_so takes.held tt
    as_whole line.Commit (Some held) found all takes = (held_whole how held old new s takes.verdict round takes.settles all, subst (StageChanges how.on_command) (sym takes.outside) tt)

    pub takes_whole : (stage : Option Held) → StageChanges how.on_command stage → Takes old new s how stage part text course stage' round → IsWholeRound round × StageChanges how.on_command stage'
    takes_whole stage all (without_memory memory) = as_whole no_memory stage (λ e. cc) all memory
    takes_whole stage all (for_its_use found) = as_whole (use_of how.on_command part) stage (λ e. e) all found
