-- What a session with batches promises: what each line is answered, and what each batch does.
use Rattle.std.specs.Prelude.{◌≡◌, ◌⊎◌, ◌+◌, ◌-◌, ◌<◌, ◌≤◌, ℕ, zero, suc, Bool, true, false, List, [], ◌∷◌, ◌++◌, Option, None, Some, Result, Ok, Err, drop, length, sum_by}
use Rattle.vm_types.specs.declared.answer.Answer.{Answer}
use Rattle.vm_types.specs.declared.command.Command.{Command}
use Rattle.vm_types.specs.declared.command.Command.TheVariants.{Commit, Rollback}
use Rattle.vm_types.specs.declared.refusal.Refusal.{Refusal}
use Rattle.vm_types.specs.declared.refusal.Refusal.TheVariants.{Failed, Memory}
use Rattle.vm_types.specs.State.{State, after}
use Rattle.vm_store.specs.Commands.{CarriesOut}
use Rattle.vm_store.specs.Store.{has_failed}
use Rattle.vm_store.specs.declared.store.Store.{Store}
use Rattle.vm_cli.specs.session.SessionKinds.{SessionKind, Course, ServesStream, refused_result, some_lines}
use Rattle.vm_cli.specs.session.Known.{SessionStreams}
use Rattle.vm_cli.specs.session.SessionKinds.Course.{over, proceeds}
use Rattle.vm_cli.specs.lines.Input.{HoldsLine}
use Rattle.vm_cli.specs.session.LineUses.{no_memory, use_of}
use Rattle.vm_cli.specs.answers.Replies.{is_error, reply_text}
use Rattle.vm_cli.specs.session.Rounds.{Batch as Commanded, Round}
use Rattle.vm_cli.specs.session.Rounds.Round.{broken, committed, idle, undone, unsure}
use Rattle.vm_cli.specs.session.Session.{HandlesLine, HasAnswered, error_text, with_answer, with_command}
use Rattle.vm_cli.specs.declared.answers.reply.Reply.TheVariants as reply
use Rattle.vm_cli.specs.declared.lines.line.Line.{Line}
use Rattle.vm_cli.specs.declared.session.Grouping.TheVariants.{Lines}
use Rattle.vm_cli.specs.declared.session.Manner.{Manner}
use Rattle.vm_cli.specs.declared.session.OnRefusal.TheVariants.{Stop}
use Rattle.vm_cli.specs.declared.session.ServeFault.{ServeFault}
use Rattle.vm_cli.specs.declared.session.ServeFault.TheVariants as fault
use Rattle.vm_cli.specs.declared.session.batch.TheConstants.{MAX_LINES, MAX_BATCH_BYTES}
use Rattle.vm_cli.specs.declared.session.batch.Batch.{Batch}
use Rattle.vm_cli.specs.declared.session.batch.Lost.{Lost}
use Rattle.vm_cli.specs.declared.session.carrying.Stop.{Stop as LastLine}
use Rattle.vm_cli.specs.declared.session.carrying.Then.{Then}
use Rattle.vm_cli.specs.declared.session.carrying.Then.TheVariants.{GoOn, Failed as AsFailed, Unsure as AsUnsure}
use Rattle.vm_cli.specs.declared.session.carrying.Why.{Why}
use Rattle.vm_cli.specs.declared.session.carrying.Why.TheVariants as why
use Rattle.vm_cli.specs.declared.session.line_use.LineUse.{LineUse}
use Rattle.vm_cli.specs.declared.session.line_use.LineUse.TheVariants as line

-- ---- what is held

-- a batch that was begun: its lines; or, once one of them is lost, how many stand before that one, how it is answered, and how many
-- there are in all
pub data Held : Type 0 where
  holds : List (List ℕ) → Held
  lost : ℕ → List ℕ → ℕ → Held

-- how many lines it has
abbrev pub count_of : Held → ℕ
count_of (holds parts) = length parts
count_of (lost place answer count) = count

-- a line is lost: the batch has no effect then, and a line that is lost later is only counted
abbrev pub losing : List ℕ → Held → Held
losing answer (holds parts) = lost (length parts) answer (length parts + 1)
losing answer (lost place first count) = lost place first (count + 1)

-- the batch has as many lines as it may have, or more bytes with this line than it may have
abbrev pub IsTooLarge : List (List ℕ) → List ℕ → Type 0
IsTooLarge parts part = (MAX_LINES ≤ length parts) ⊎ (MAX_BATCH_BYTES < sum_by length parts + length part)

-- what is held once a change came to these lines
pub data AddsTo (part : List ℕ) (parts : List (List ℕ)) (held : Held) : Type 0 where
  -- it is the last of them
  line_added : held ≡ holds (parts ++ part ∷ []) → AddsTo part parts held
  -- it is lost, as memory ran out
  no_memory_for_change : held ≡ losing (error_text Memory) (holds parts) → AddsTo part parts held
  -- it is lost, as the batch is too large
  batch_too_large : held ≡ losing (reply_text reply.TooLarge) (holds parts) → IsTooLarge parts part → AddsTo part parts held

-- a change comes to a batch: if a line of that is lost, it is only counted
abbrev pub Adds : List ℕ → Held → Held → Type 0
Adds part (holds parts) held = AddsTo part parts held
Adds part (lost place answer count) held = held ≡ losing [] (lost place answer count)

-- lines as they are held
abbrev pub HoldsLines : List Line → List (List ℕ) → Type 0
HoldsLines [] [] = Unit {0}
HoldsLines [] (part ∷ parts) = ⊥
HoldsLines (line ∷ lines) [] = ⊥
HoldsLines (line ∷ lines) (part ∷ parts) = HoldsLine line part × HoldsLines lines parts

-- a batch as it is held: which line is lost, its lines, how many they are, and how many bytes they have
abbrev pub IsHeldBy : Option Lost → List Line → ℕ → ℕ → Held → Type 0
IsHeldBy lost_line lines count bytes (holds parts) = (lost_line ≡ None) × HoldsLines lines parts × (count ≡ length parts) × (bytes ≡ sum_by length parts)
IsHeldBy lost_line lines count bytes (lost place answer all) =
    (was : Lost) × (lost_line ≡ Some was) × (was.place ≡ place) × (reply_text was.reply ≡ answer) × (count ≡ all) × (place < all)

abbrev pub IsHeld : Batch → Held → Type 0
IsHeld batch held = IsHeldBy batch.lost batch.lines.items batch.count batch.bytes held

-- whether a batch was begun, and what is held of it
abbrev pub IsStage : Batch → Option Held → Type 0
IsStage batch None = (batch.is_open ≡ false) × IsHeld batch (holds [])
IsStage batch (Some held) = (batch.is_open ≡ true) × IsHeld batch held

-- ---- what is answered

-- a text, several times
abbrev pub repeated : ℕ → List ℕ → List ℕ
repeated zero text = []
repeated (suc n) text = text ++ repeated n text

abbrev pub ok_text : List ℕ
ok_text = reply_text reply.Done

-- the answers to the lines of a batch, and to its commit, if this one of them was refused so
abbrev pub refused_text : ℕ → ℕ → List ℕ → List ℕ
refused_text count place answer =
    let other = reply_text (reply.NotDone (place + 1)) in repeated place other ++ (answer ++ repeated (count - place) other)

-- the answers to a batch that was forgotten
abbrev pub forgotten_text : ℕ → List ℕ
forgotten_text count = repeated count (reply_text reply.Aborted)

-- how a batch came out: with these answers to its lines, or this place of it was refused so, that behind its lines being its commit
pub data Verdict : Type 0 where
  succeeds : List ℕ → Verdict
  fails : ℕ → List ℕ → Then → Verdict

-- an answer among answers
abbrev pub why_text : Why → List ℕ → List ℕ
why_text (why.Answer at) answers = drop at answers
why_text (why.Reply said) answers = reply_text said

-- where the answer to a line stands that ended a session with this fault: it is the last of the answers, or memory for it ran out
abbrev pub answer_after : ServeFault → ℕ → Why
answer_after fault.Refused at = why.Answer at
answer_after fault.Store at = why.Answer at
answer_after other at = why.Reply (reply.Refused Memory)

-- how it came out, as `settle` says it
abbrev pub verdict_of : {T : Type 0} → Result T LastLine → List ℕ → Verdict
verdict_of (Ok u) answers = succeeds answers
verdict_of (Err stop) answers = fails stop.place (why_text stop.why answers) stop.then

-- the answers to a batch of exactly `count` lines that a line began
abbrev pub batch_text : ℕ → Verdict → List ℕ
batch_text count (succeeds answers) = answers ++ ok_text
batch_text count (fails place answer then) = refused_text count place answer

-- the answer to a change outside of a batch
abbrev pub change_text : Verdict → List ℕ
change_text (succeeds answers) = answers
change_text (fails place answer then) = answer

-- by an answer of the store
abbrev pub course_of : Bool → List ℕ → Course
course_of true text = over
course_of false text = proceeds (is_error text)

-- by a batch
abbrev pub batch_course : Verdict → Course
batch_course (succeeds answers) = proceeds false
batch_course (fails place answer GoOn) = proceeds true
batch_course (fails place answer then) = over

-- ---- what is done

-- how the lines of a batch are carried out: as by `serve`, up to the first that is refused
abbrev pub trying : Manner → Manner
trying on = record { on_command = on.on_command; on_refusal = Stop; grouping = Lines }

-- the session goes on after it, or ends
abbrev pub result_of : Verdict → Result Bool ServeFault
result_of (succeeds answers) = Ok false
result_of (fails place answer GoOn) = Ok true
result_of (fails place answer AsFailed) = Err fault.Store
result_of (fails place answer AsUnsure) = Err fault.Unsure

-- how a line is answered at which a batch stops: `said` is what the store answered, and `ends` whether it failed in that
pub data IsStopped (said : List ℕ) (ends : Bool) (text : List ℕ) : Type 0 where
  -- the line was refused
  refused_so : text ≡ said → is_error said ≡ true → IsStopped said ends text
  -- the store failed in it
  failed_so : text ≡ said → ends ≡ true → IsStopped said ends text
  -- memory for its answer ran out
  no_memory_for_answer : text ≡ error_text Memory → IsStopped said ends text

module _ {D : Type 0} {members : _} where
  -- a command was carried out, or the store had failed before
  pub record Applies (old new : Store D members) (command : Command) (answer : Result Answer Refusal) : Type 0 where
    pub refused : has_failed old ≡ true → (answer ≡ Err Failed) × (new ≡ old)
    pub done : has_failed old ≡ false → CarriesOut old new command answer

  -- lines were carried out as a session carries them out, and none of them was refused; then they were committed
  pub record Commits (old new : Store D members) (s : State) (on : Manner) (lines : List (List ℕ)) (text : List ℕ) (round : Round) : Type 0 where
    pub mid : Store D members
    pub answer : Answer
    pub carried : HasAnswered old mid s (trying on) lines text
    pub applies : Applies mid new Commit (Ok answer)
    pub came_so : round ≡ committed (record { commands = carried.commands; answers = carried.answers }) answer

  -- the same, but the commit was not acknowledged
  pub record LeavesUnsure (old new : Store D members) (s : State) (on : Manner) (lines : List (List ℕ)) (place : ℕ) (text : List ℕ) (round : Round) : Type 0 where
    pub mid : Store D members
    pub refusal : Refusal
    pub answers : List ℕ
    pub carried : HasAnswered old mid s (trying on) lines answers
    pub applies : Applies mid new Commit (Err refusal)
    pub at : place ≡ length lines
    pub says : text ≡ reply_text reply.Unsure
    pub came_so : round ≡ unsure (record { commands = carried.commands; answers = carried.answers }) refusal

  -- the lines before one were carried out, then it was, and it was refused, or memory for its answer ran out, or the store failed in it
  pub record StopsIn (old new : Store D members) (s : State) (on : Manner) (lines : List (List ℕ)) (place : ℕ) (text : List ℕ) : Type 0 where
    pub mid : Store D members
    pub before : List (List ℕ)
    pub line : List ℕ
    pub behind : List (List ℕ)
    pub earlier : List ℕ
    pub said : List ℕ
    pub ends : Bool
    pub cut : lines ≡ before ++ line ∷ behind
    pub at : place ≡ length before
    pub carried : HasAnswered old mid s (trying on) before earlier
    pub handled : HandlesLine mid new (after s carried.commands carried.answers) (trying on) line said ends
    pub says : IsStopped said ends text

  -- what was carried out by then
  abbrev pub carried_by : {old new : Store D members} {s : State} {on : Manner} {lines : List (List ℕ)} {place : ℕ} {text : List ℕ}
      → StopsIn old new s on lines place text → Commanded
  carried_by stops = record {
    commands = stops.carried.commands ++ with_command stops.handled.done [];
    answers = stops.carried.answers ++ with_answer stops.handled.done [];
  }

  -- that was undone, or the store had failed
  abbrev pub Undoes : Store D members → Store D members → Commanded → Then → Round → Type 0
  Undoes old new batch GoOn round = (answer : Answer) × Applies old new Rollback (Ok answer) × (round ≡ undone batch answer)
  Undoes old new batch AsFailed round = (refusal : Refusal) × Applies old new Rollback (Err refusal) × (round ≡ broken batch)
  Undoes old new batch AsUnsure round = ⊥

  -- a line was refused so, and all is undone
  pub record RefusesLine (old new : Store D members) (s : State) (on : Manner) (lines : List (List ℕ)) (place : ℕ) (text : List ℕ) (then : Then) (round : Round) : Type 0 where
    pub last : Store D members
    pub stops : StopsIn old last s on lines place text
    pub undoes : Undoes last new (carried_by stops) then round

  -- how the lines of a batch came out
  abbrev pub Settles : Store D members → Store D members → State → Manner → List (List ℕ) → Verdict → Round → Type 0
  Settles old new s on lines (succeeds text) round = Commits old new s on lines text round
  Settles old new s on lines (fails place text AsUnsure) round = LeavesUnsure old new s on lines place text round
  Settles old new s on lines (fails place text then) round = RefusesLine old new s on lines place text then round

  -- how a batch that is held came out: one without lines, or of which a line is lost, has no effect
  abbrev pub SettlesHeld : Store D members → Store D members → State → Manner → Held → Verdict → Round → Type 0
  SettlesHeld old new s on (holds []) verdict round = (new ≡ old) × (verdict ≡ succeeds []) × (round ≡ idle)
  SettlesHeld old new s on (holds (line ∷ lines)) verdict round = Settles old new s on (line ∷ lines) verdict round
  SettlesHeld old new s on (lost place answer count) verdict round = (new ≡ old) × (verdict ≡ fails place answer GoOn) × (round ≡ idle)

  -- a line is only answered so, and this is held then
  pub record IsSaid (old new : Store D members) (said : List ℕ) (refused : Bool) (text : List ℕ) (course : Course)
      (stage stage' : Option Held) (round : Round) : Type 0 where
    pub same : new ≡ old
    pub says : text ≡ said
    pub goes : course ≡ proceeds refused
    pub held : stage' ≡ stage
    pub came_so : round ≡ idle

  -- a change outside of a batch is a batch of its own
  pub record MakesChange (old new : Store D members) (s : State) (how : Manner) (part text : List ℕ) (course : Course) (stage : Option Held) (round : Round) : Type 0 where
    pub held : Held
    pub adds : Adds part (holds []) held
    pub verdict : Verdict
    pub settles : SettlesHeld old new s how held verdict round
    pub says : text ≡ change_text verdict
    pub goes : course ≡ batch_course verdict
    pub outside : stage ≡ None

  -- a batch ends
  pub record EndsBatch (old new : Store D members) (s : State) (how : Manner) (held : Held) (text : List ℕ) (course : Course) (stage : Option Held) (round : Round) : Type 0 where
    pub verdict : Verdict
    pub settles : SettlesHeld old new s how held verdict round
    pub says : text ≡ batch_text (count_of held) verdict
    pub goes : course ≡ batch_course verdict
    pub outside : stage ≡ None

  -- a query is answered by the store
  pub record IsAsked (old new : Store D members) (s : State) (how : Manner) (part text : List ℕ) (course : Course)
      (stage : Option Held) (round : Round) : Type 0 where
    pub ends : Bool
    pub handled : HandlesLine old new s how part text ends
    pub goes : course ≡ course_of ends text
    pub outside : stage ≡ None
    pub came_so : round ≡ idle

  -- a change comes to a batch, and is not answered yet
  pub record HoldsChange (old new : Store D members) (held : Held) (part text : List ℕ) (course : Course) (stage : Option Held)
      (round : Round) : Type 0 where
    pub held' : Held
    pub adds : Adds part held held'
    pub said : IsSaid old new [] false text course (Some held') stage round

  -- a line outside of a batch
  abbrev pub TakesOutside : Store D members → Store D members → State → Manner → LineUse → List ℕ → List ℕ → Course → Option Held → Round → Type 0
  TakesOutside old new s how line.Nothing part text course stage round = IsSaid old new [] false text course None stage round
  TakesOutside old new s how line.Begin part text course stage round = IsSaid old new ok_text false text course (Some (holds [])) stage round
  TakesOutside old new s how line.Commit part text course stage round = IsSaid old new ok_text false text course None stage round
  TakesOutside old new s how line.Abort part text course stage round = IsSaid old new ok_text false text course None stage round
  TakesOutside old new s how line.Query part text course stage round = IsAsked old new s how part text course stage round
  TakesOutside old new s how (line.Refused said) part text course stage round = IsSaid old new (reply_text said) true text course None stage round
  TakesOutside old new s how line.Change part text course stage round = MakesChange old new s how part text course stage round

  -- a line within a batch
  abbrev pub TakesInside : Store D members → Store D members → State → Manner → LineUse → Held → List ℕ → List ℕ → Course → Option Held → Round → Type 0
  TakesInside old new s how line.Nothing held part text course stage round = IsSaid old new [] false text course (Some held) stage round
  TakesInside old new s how line.Begin held part text course stage round = IsSaid old new [] false text course (Some (losing (reply_text reply.NotInBatch) held)) stage round
  TakesInside old new s how line.Query held part text course stage round = IsSaid old new [] false text course (Some (losing (reply_text reply.NotInBatch) held)) stage round
  TakesInside old new s how (line.Refused said) held part text course stage round = IsSaid old new [] false text course (Some (losing (reply_text said) held)) stage round
  TakesInside old new s how line.Change held part text course stage round = HoldsChange old new held part text course stage round
  TakesInside old new s how line.Abort held part text course stage round =
      IsSaid old new (forgotten_text (count_of held) ++ ok_text) (some_lines (count_of held)) text course None stage round
  TakesInside old new s how line.Commit held part text course stage round = EndsBatch old new s how held text course stage round

  -- a line that is taken for this
  abbrev pub TakesAs : Store D members → Store D members → State → Manner → LineUse → Option Held → List ℕ → List ℕ → Course → Option Held → Round → Type 0
  TakesAs old new s how used None part text course stage' round = TakesOutside old new s how used part text course stage' round
  TakesAs old new s how used (Some held) part text course stage' round = TakesInside old new s how used held part text course stage' round

  -- a line is taken
  pub data Takes (old new : Store D members) (s : State) (how : Manner) (stage : Option Held) (part text : List ℕ)
      (course : Course) (stage' : Option Held) (round : Round) : Type 0 where
    -- as one for which memory ran out
    without_memory : TakesAs old new s how no_memory stage part text course stage' round → Takes old new s how stage part text course stage' round
    -- for what it is
    for_its_use : TakesAs old new s how (use_of how.on_command part) stage part text course stage' round
        → Takes old new s how stage part text course stage' round

-- ---- the whole input

-- how many lines are refused at the end of the input
abbrev pub end_count : Option Held → ℕ → ℕ
end_count None half = half
end_count (Some held) half = count_of held + half

-- what is answered at the end of the input, by what is held then and how many lines it ends in
abbrev pub end_text : Option Held → ℕ → List ℕ
end_text None half = repeated half (reply_text reply.HalfLine)
end_text (Some held) half = forgotten_text (count_of held + half)

module _ {D : Type 0} {members : _} where
  -- a session in batches: each line is taken as one round
  abbrev pub batches : SessionKind D members
  batches = record {
    Stage = Option Held;
    start = None;
    Takes = λ old new s how stage part text course stage' rounds. (round : Round) × Takes old new s how stage part text course stage' round × (rounds ≡ round ∷ []);
    end_text = end_text;
    end_count = end_count;
  }

  -- a session with batches over some input
  abbrev pub ServesBatches : Store D members → Store D members → State → Manner → Result Bool ServeFault → SessionStreams → Type 0
  ServesBatches = ServesStream batches

-- what is found of lines: all are carried out, or one of them is the last
abbrev pub CarriesLines : {D T : Type 0} {members : _} → Store D members → Store D members → State → Manner → List (List ℕ) → Result T LastLine → List ℕ → Type 0
CarriesLines old new s on lines (Ok u) answers = HasAnswered old new s (trying on) lines answers
CarriesLines old new s on lines (Err stop) answers = StopsIn old new s on lines stop.place (why_text stop.why answers)

-- a commit was acknowledged, or not
abbrev pub CommitsOrNot : {D T : Type 0} {members : _} → Store D members → Store D members → ℕ → Result T LastLine → Type 0
CommitsOrNot old new place (Ok u) = (answer : Answer) × Applies old new Commit (Ok answer)
CommitsOrNot old new place (Err stop) =
    (refusal : Refusal) × Applies old new Commit (Err refusal) × (stop.place ≡ place) × (stop.why ≡ why.Reply reply.Unsure) × (stop.then ≡ AsUnsure)

-- the same, as a session
abbrev pub tried_result : {T : Type 0} → Result T LastLine → Result Bool ServeFault
tried_result (Ok u) = Ok false
tried_result (Err stop) = Err fault.Refused

-- ---- what a call of a session does

-- what follows of an answer by which lines were refused
abbrev pub after_refusal : Manner → Then → Result Bool ServeFault
after_refusal how AsFailed = Err fault.Store
after_refusal how AsUnsure = Err fault.Unsure
after_refusal how GoOn = refused_result how.on_refusal

-- after a batch
abbrev pub verdict_result : Manner → Verdict → Result Bool ServeFault
verdict_result how (succeeds answers) = Ok false
verdict_result how (fails place answer then) = after_refusal how then

-- the answers to a batch that a line began, or to a change that is one of its own
abbrev pub settled_text : Bool → ℕ → Verdict → List ℕ
settled_text true count verdict = batch_text count verdict
settled_text false count verdict = change_text verdict
