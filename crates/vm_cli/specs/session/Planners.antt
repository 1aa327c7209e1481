-- Many planners in one stream: who has joined, which batches wait, what each line does, and who is answered.
use Rattle.std.specs.Prelude.{◌≡◌, ◌≢◌, ◌||◌, ◌<◌, ◌≤◌, ℕ, zero, suc, Bool, true, false, List, [], ◌∷◌, ◌++◌, Option, None, Some, Result, length, if◌then◌else◌}
use Rattle.vm_types.specs.declared.refusal.Refusal.TheVariants.{Memory}
use Rattle.vm_types.specs.State.{State}
use Rattle.vm_disk.specs.declared.disk.Disk.{Ghosts}
use Rattle.vm_store.specs.declared.store.Store.{Store}
use Rattle.vm_cli.specs.session.SessionKinds.{SessionKind, Course, ServesStream, some_lines}
use Rattle.vm_cli.specs.session.SessionKinds.Course.{over, proceeds, unwritten}
use Rattle.vm_cli.specs.lines.Input.{without_return}
use Rattle.vm_cli.specs.session.Known.{SessionStreams}
use Rattle.vm_cli.specs.session.LineUses.{no_memory, use_of}
use Rattle.vm_cli.specs.session.PlannerLines.{Saying, saying_of}
use Rattle.vm_cli.specs.session.PlannerLines.Saying.{joins, leaves, nothing, releases, says, strange}
use Rattle.vm_cli.specs.answers.Replies.{reply_text}
use Rattle.vm_cli.specs.session.Rounds.{Round, after_rounds}
use Rattle.vm_cli.specs.session.Rounds.Round.{idle}
use Rattle.vm_cli.specs.session.Streams.{Held, IsStage, TakesAs, count_of, forgotten_text, ok_text}
use Rattle.vm_cli.specs.session.Streams.Held.{holds}
use Rattle.vm_cli.specs.session.Session.{error_text}
use Rattle.vm_cli.specs.session.Waiting.{SettlesWaiting, Waiting, forgotten_texts, label, then_course, waits}
use Rattle.vm_cli.specs.declared.answers.reply.Reply.TheVariants as reply
use Rattle.vm_cli.specs.declared.lines.line.TheConstants.{MAX_BYTES}
use Rattle.vm_cli.specs.declared.lines.mistake.Mistake.TheVariants as mistake
use Rattle.vm_cli.specs.declared.session.Manner.{Manner}
use Rattle.vm_cli.specs.declared.session.OnRefusal.TheVariants.{Tell}
use Rattle.vm_cli.specs.declared.session.ServeFault.{ServeFault}
use Rattle.vm_cli.specs.declared.session.line_use.LineUse.{LineUse}
use Rattle.vm_cli.specs.declared.session.line_use.LineUse.TheVariants as line
use Rattle.vm_cli.specs.declared.session.planner_line.When.{When}
use Rattle.vm_cli.specs.declared.session.planner_line.When.TheVariants.{Later, Now}
use Rattle.vm_cli.specs.declared.session.planners.Planner.{Planner}

-- ---- who has joined

-- a planner who has joined: its number, and what is held of its batch
pub record Seat : Type 0 where
  pub number : ℕ
  pub stage : Option Held

abbrev pub seat : ℕ → Option Held → Seat
seat number stage = record { number = number; stage = stage }

-- those who have joined, in the order in which they did
abbrev pub AreSeats : List Planner → List Seat → Type 0
AreSeats [] [] = Unit {0}
AreSeats [] (it ∷ seats) = ⊥
AreSeats (planner ∷ planners) [] = ⊥
AreSeats (planner ∷ planners) (it ∷ seats) = (planner.number ≡ it.number) × IsStage planner.batch it.stage × AreSeats planners seats

-- none of them has this number
abbrev pub IsAbsent : ℕ → List Seat → Type 0
IsAbsent number [] = Unit {0}
IsAbsent number (it ∷ seats) = (it.number ≢ number) × IsAbsent number seats

-- what is held between lines: who has joined, and the batches that wait
pub record Gathering : Type 0 where
  pub seats : List Seat
  pub waiting : List Waiting

abbrev pub gathering : List Seat → List Waiting → Gathering
gathering seats waiting = record { seats = seats; waiting = waiting }

-- nothing waits any more
abbrev pub with_none_waiting : Gathering → Gathering
with_none_waiting at = gathering at.seats []

-- the planner of this number, who stands between those before it and those behind it
pub record Sits (number : ℕ) (stage : Option Held) (before behind seats : List Seat) : Type 0 where
  pub only : IsAbsent number before
  pub cut : seats ≡ before ++ seat number stage ∷ behind

-- ---- who is answered

-- whether a line of this use is answered at once, in a batch or outside of one
abbrev pub is_heard : Bool → LineUse → Bool
is_heard in_batch line.Nothing = false
is_heard in_batch line.Commit = true
is_heard in_batch line.Abort = true
is_heard false used = true
is_heard true used = false

-- whether a batch ends with a line of this use, in a batch or outside of one
abbrev pub is_last_in : Bool → LineUse → Bool
is_last_in in_batch line.Commit = in_batch
is_last_in false line.Change = true
is_last_in in_batch used = false

abbrev pub is_some : Option Held → Bool
is_some None = false
is_some (Some held) = true

abbrev pub label_if : Bool → ℕ → List ℕ
label_if true number = label number
label_if false number = []

-- a planner leaves: each line of its batch is answered
abbrev pub parting_text : Seat → List ℕ
parting_text it = of it.stage
  where
    of : Option Held → List ℕ
    of None = []
    of (Some held) = label it.number ++ forgotten_text (count_of held)

abbrev pub parting_count : Option Held → ℕ
parting_count None = 0
parting_count (Some held) = count_of held

-- all of them leave, as the input has ended
abbrev pub partings : List Seat → List ℕ
partings [] = []
partings (it ∷ seats) = parting_text it ++ partings seats

-- some of them hold a line
abbrev pub hold_some : List Seat → Bool
hold_some [] = false
hold_some (it ∷ seats) = some_lines (parting_count it.stage) || hold_some seats

-- the input has ended, in the middle of a line or of none
abbrev pub half_text : ℕ → List ℕ
half_text zero = []
half_text (suc n) = label 0 ++ reply_text reply.HalfLine

abbrev pub seats_end_text : List Seat → ℕ → List ℕ
seats_end_text seats half = partings seats ++ half_text half

abbrev pub seats_end_count : List Seat → ℕ → ℕ
seats_end_count seats half = if hold_some seats then 1 else half

-- some batches wait
abbrev pub wait_some : List Waiting → Bool
wait_some [] = false
wait_some (it ∷ waiting) = true

-- what waits is forgotten, and all of them leave
abbrev pub stream_end_text : Gathering → ℕ → List ℕ
stream_end_text at half = forgotten_texts at.waiting ++ seats_end_text at.seats half

abbrev pub stream_end_count : Gathering → ℕ → ℕ
stream_end_count at half = if wait_some at.waiting then 1 else seats_end_count at.seats half

-- ---- what a line does

-- somebody is refused so, and nobody's batch changes
pub record IsTold (number : ℕ) (said : List ℕ) (seats : List Seat) (text : List ℕ) (count : ℕ) (seats' : List Seat) : Type 0 where
  pub says : text ≡ label number ++ said
  pub refused : count ≡ 1
  pub seated : seats' ≡ seats

-- the session goes on, and nobody's batch changes
pub record IsDone (seats : List Seat) (text : List ℕ) (count : ℕ) (seats' : List Seat) : Type 0 where
  pub says : text ≡ label 0 ++ ok_text
  pub refused : count ≡ 0
  pub seated : seats' ≡ seats

-- nothing is done
pub record IsPassedBy (seats : List Seat) (text : List ℕ) (count : ℕ) (seats' : List Seat) : Type 0 where
  pub says : text ≡ []
  pub refused : count ≡ 0
  pub seated : seats' ≡ seats

-- a planner joins
pub record IsWelcome (number : ℕ) (seats : List Seat) (text : List ℕ) (count : ℕ) (seats' : List Seat) : Type 0 where
  pub absent : IsAbsent number seats
  pub says : text ≡ label number ++ ok_text
  pub refused : count ≡ 0
  pub seated : seats' ≡ seats ++ seat number None ∷ []

-- one has this number
pub record IsPresent (number : ℕ) (seats : List Seat) : Type 0 where
  pub stage : Option Held
  pub before : List Seat
  pub behind : List Seat
  pub sits : Sits number stage before behind seats

-- what comes of a planner who asks to join
pub data Joins (number : ℕ) (seats : List Seat) (text : List ℕ) (count : ℕ) (seats' : List Seat) : Type 0 where
  -- it joins
  welcomed : IsWelcome number seats text count seats' → Joins number seats text count seats'
  -- memory ran out
  no_memory_for_seat : IsTold number (error_text Memory) seats text count seats' → Joins number seats text count seats'
  -- it has joined before
  seated_before : IsPresent number seats → IsTold number (reply_text reply.PlannerExists) seats text count seats'
      → Joins number seats text count seats'

-- there is no such planner
pub record IsUnknown (number : ℕ) (seats : List Seat) (text : List ℕ) (count : ℕ) (seats' : List Seat) : Type 0 where
  pub absent : IsAbsent number seats
  pub told : IsTold number (reply_text reply.NoSuchPlanner) seats text count seats'

-- a planner leaves
pub record Parts (number : ℕ) (seats : List Seat) (text : List ℕ) (count : ℕ) (seats' : List Seat) : Type 0 where
  pub stage : Option Held
  pub before : List Seat
  pub behind : List Seat
  pub sits : Sits number stage before behind seats
  pub says : text ≡ parting_text (seat number stage)
  pub refused : count ≡ parting_count stage
  pub seated : seats' ≡ before ++ behind

-- what comes of a planner who asks to leave
pub data Leaves (number : ℕ) (seats : List Seat) (text : List ℕ) (count : ℕ) (seats' : List Seat) : Type 0 where
  -- it leaves
  parted : Parts number seats text count seats' → Leaves number seats text count seats'
  -- there is no such planner
  unknown_planner : IsUnknown number seats text count seats' → Leaves number seats text count seats'

-- a line with which a batch ends: the commit of one that was begun, and a change outside of one, which is one of its own
abbrev pub IsLastOf : LineUse → Option Held → List ℕ → Waiting → Type 0
IsLastOf line.Commit (Some (holds (first ∷ lines))) part it = (it.is_begun ≡ true) × (it.lines ≡ first ∷ lines)
IsLastOf line.Change None part it = (it.is_begun ≡ false) × (it.lines ≡ part ∷ [])
IsLastOf used stage part it = ⊥

-- a session ends so
abbrev pub IsLast : Course → Type 0
IsLast (proceeds refused) = ⊥
IsLast over = Unit {0}
IsLast unwritten = Unit {0}

-- all that waits is carried out before a line of somebody whose batch waits, and by `go`
abbrev pub settles_first : Saying → List Waiting → Bool
settles_first releases waiting = true
settles_first (joins number) waiting = waits number waiting
settles_first (leaves number) waiting = waits number waiting
settles_first (says when number part) waiting = waits number waiting
settles_first saying waiting = false

module _ {D : Type 0} {members : _} where
  -- a planner's line is taken as one of its own session: for this use
  pub record TakesItFor (old new : Store D members) (s : State) (how : Manner) (used : LineUse) (number : ℕ) (stage : Option Held) (part text : List ℕ) (course : Course) (stage' : Option Held) (round : Round) : Type 0 where
    pub said : List ℕ
    pub takes : TakesAs old new s how used stage part said course stage' round
    pub labelled : text ≡ label_if (is_heard (is_some stage) used) number ++ said

  -- its label could not be written, and nothing was carried out
  pub record IsUnwritten (old new : Store D members) (number : ℕ) (stage : Option Held) (text : List ℕ) (course : Course) (stage' : Option Held) (round : Round) : Type 0 where
    pub same : new ≡ old
    pub labelled : text ≡ label number
    pub goes : course ≡ unwritten
    pub held : stage' ≡ stage
    pub came_so : round ≡ idle

  -- a planner's line is taken as one of its own session
  pub data TakesIts (old new : Store D members) (s : State) (how : Manner) (number : ℕ) (stage : Option Held) (part text : List ℕ)
      (course : Course) (stage' : Option Held) (round : Round) : Type 0 where
    -- not at all, as its label could not be written
    unlabelled : IsUnwritten old new number stage text course stage' round → TakesIts old new s how number stage part text course stage' round
    -- as one for which memory ran out
    taken_without_memory : TakesItFor old new s how no_memory number stage part text course stage' round
        → TakesIts old new s how number stage part text course stage' round
    -- for what it is
    taken_for_use : TakesItFor old new s how (use_of how.on_command part) number stage part text course stage' round
        → TakesIts old new s how number stage part text course stage' round

  -- the batch that ends with a line of this use is put behind those that wait
  pub record PutsOff (old new : Store D members) (used : LineUse) (number : ℕ) (stage : Option Held) (part text : List ℕ) (course : Course) (stage' : Option Held) (round : Round) (more : List Waiting) : Type 0 where
    pub it : Waiting
    pub own : it.number ≡ number
    pub last : IsLastOf used stage part it
    pub same : new ≡ old
    pub says : text ≡ []
    pub goes : course ≡ proceeds false
    pub outside : stage' ≡ None
    pub came_so : round ≡ idle
    pub waits : more ≡ it ∷ []

  -- a line is taken at once, and no batch is put behind those that wait
  pub record TakesAtOnce (old new : Store D members) (s : State) (how : Manner) (number : ℕ) (stage : Option Held)
      (part text : List ℕ) (course : Course) (stage' : Option Held) (round : Round) (more : List Waiting) : Type 0 where
    pub takes : TakesIts old new s how number stage part text course stage' round
    pub none : more ≡ []

  -- a line that is said for later
  pub data TakesLater (old new : Store D members) (s : State) (how : Manner) (number : ℕ) (stage : Option Held)
      (part text : List ℕ) (course : Course) (stage' : Option Held) (round : Round) (more : List Waiting) : Type 0 where
    -- is taken at once all the same
    taken_at_once : TakesAtOnce old new s how number stage part text course stage' round more
        → TakesLater old new s how number stage part text course stage' round more
    -- or the batch that ends with it waits
    put_off : PutsOff old new (use_of how.on_command part) number stage part text course stage' round more
        → TakesLater old new s how number stage part text course stage' round more

  -- a line is taken at once, or a batch that ends with it waits
  abbrev pub TakesWhen : When → Store D members → Store D members → State → Manner → ℕ → Option Held → List ℕ → List ℕ → Course → Option Held → Round → List Waiting → Type 0
  TakesWhen Now old new s how number stage part text course stage' round more =
      TakesAtOnce old new s how number stage part text course stage' round more
  TakesWhen Later old new s how number stage part text course stage' round more =
      TakesLater old new s how number stage part text course stage' round more

  -- a planner says a line
  pub record SaysIt (old new : Store D members) (s : State) (how : Manner) (when : When) (number : ℕ) (part text : List ℕ) (course : Course) (at at' : Gathering) (rounds : List Round) : Type 0 where
    pub stage : Option Held
    pub stage' : Option Held
    pub before : List Seat
    pub behind : List Seat
    pub round : Round
    pub more : List Waiting
    pub sits : Sits number stage before behind at.seats
    pub takes : TakesWhen when old new s how number stage part text course stage' round more
    pub seated : at'.seats ≡ before ++ seat number stage' ∷ behind
    pub waiting : at'.waiting ≡ at.waiting ++ more
    pub came_so : rounds ≡ round ∷ []

  -- the store is not asked: what is answered so, and how many lines that refuses
  pub record IsAnswered (IsAnswer : List Seat → List ℕ → ℕ → List Seat → Type 0) (old new : Store D members) (text : List ℕ) (course : Course) (at at' : Gathering) (rounds : List Round) : Type 0 where
    pub count : ℕ
    pub answer : IsAnswer at.seats text count at'.seats
    pub waiting : at'.waiting ≡ at.waiting
    pub same : new ≡ old
    pub goes : course ≡ proceeds (some_lines count)
    pub came_so : rounds ≡ []

  -- somebody says a line
  pub data IsSpoken (old new : Store D members) (s : State) (how : Manner) (when : When) (number : ℕ) (part text : List ℕ)
      (course : Course) (at at' : Gathering) (rounds : List Round) : Type 0 where
    -- who has joined
    line_said : SaysIt old new s how when number part text course at at' rounds → IsSpoken old new s how when number part text course at at' rounds
    -- who has not
    not_joined : IsAnswered (IsUnknown number) old new text course at at' rounds → IsSpoken old new s how when number part text course at at' rounds

  -- what a line of the stream does by itself
  abbrev pub TakesAlone : Store D members → Store D members → State → Manner → Saying → List ℕ → Course → Gathering → Gathering → List Round → Type 0
  TakesAlone old new s how nothing text course at at' rounds = IsAnswered IsPassedBy old new text course at at' rounds
  TakesAlone old new s how strange text course at at' rounds = IsAnswered (IsTold 0 (reply_text (reply.BadLine mistake.NoSuchLine))) old new text course at at' rounds
  TakesAlone old new s how releases text course at at' rounds = IsAnswered IsDone old new text course at at' rounds
  TakesAlone old new s how (joins number) text course at at' rounds = IsAnswered (Joins number) old new text course at at' rounds
  TakesAlone old new s how (leaves number) text course at at' rounds = IsAnswered (Leaves number) old new text course at at' rounds
  TakesAlone old new s how (says when number part) text course at at' rounds = IsSpoken old new s how when number part text course at at' rounds

  -- first all that waits is carried out, and then the line does what it does
  pub record SettlesFirst (old new : Store D members) (s : State) (how : Manner) (saying : Saying) (text : List ℕ) (course : Course) (at at' : Gathering) (rounds : List Round) : Type 0 where
    pub mid : Store D members
    pub said : List ℕ
    pub more : List ℕ
    pub first : List Round
    pub later : List Round
    pub refused : Bool
    pub next : Course
    pub settles : SettlesWaiting old mid s how at.waiting said (proceeds refused) first
    pub takes : TakesAlone mid new (after_rounds s first) how saying more next (with_none_waiting at) at' later
    pub texts : text ≡ said ++ more
    pub goes : course ≡ then_course refused next
    pub came_so : rounds ≡ first ++ later

  -- the session ends in what waits
  pub record EndsSettling (old new : Store D members) (s : State) (how : Manner) (text : List ℕ) (course : Course) (at at' : Gathering) (rounds : List Round) : Type 0 where
    pub settles : SettlesWaiting old new s how at.waiting text course rounds
    pub last : IsLast course
    pub held : at' ≡ with_none_waiting at

  -- all that waits is carried out before a line
  pub data TakesSettled (old new : Store D members) (s : State) (how : Manner) (saying : Saying) (text : List ℕ) (course : Course)
      (at at' : Gathering) (rounds : List Round) : Type 0 where
    -- and then the line is taken
    settled_first : SettlesFirst old new s how saying text course at at' rounds → TakesSettled old new s how saying text course at at' rounds
    -- or the session ends in that
    ended_settling : EndsSettling old new s how text course at at' rounds → TakesSettled old new s how saying text course at at' rounds

  -- a line is taken by itself, or behind all that waits
  abbrev pub TakesBehind : Bool → Store D members → Store D members → State → Manner → Saying → List ℕ → Course → Gathering → Gathering → List Round → Type 0
  TakesBehind false old new s how saying text course at at' rounds = TakesAlone old new s how saying text course at at' rounds
  TakesBehind true old new s how saying text course at at' rounds = TakesSettled old new s how saying text course at at' rounds

  -- what a line of the stream does
  abbrev pub TakesSaying : Store D members → Store D members → State → Manner → Saying → List ℕ → Course → Gathering → Gathering → List Round → Type 0
  TakesSaying old new s how saying text course at at' rounds = TakesBehind (settles_first saying at.waiting) old new s how saying text course at at' rounds

  -- a line of the stream
  pub data TakesOne (old new : Store D members) (s : State) (how : Manner) (at : Gathering) (part text : List ℕ) (course : Course)
      (at' : Gathering) (rounds : List Round) : Type 0 where
    -- is refused, as memory for it ran out
    no_memory_for_line : IsAnswered (IsTold 0 (error_text Memory)) old new text course at at' rounds
        → TakesOne old new s how at part text course at' rounds
    -- or as it is too long
    line_too_long : MAX_BYTES < length part → IsAnswered (IsTold 0 (reply_text reply.LongLine)) old new text course at at' rounds
        → TakesOne old new s how at part text course at' rounds
    -- or else is taken for what it says
    line_taken : length part ≤ MAX_BYTES → TakesSaying old new s how (saying_of (without_return part)) text course at at' rounds
        → TakesOne old new s how at part text course at' rounds

-- ---- the whole input

-- no line that is refused ends such a session
abbrev pub telling : Manner → Manner
telling on = record { on_command = on.on_command; on_refusal = Tell; grouping = on.grouping }

module _ {D : Type 0} {members : Ghosts D} where
  -- many planners speak in one stream
  abbrev pub planners : SessionKind D members
  planners = record {
    Stage = Gathering;
    start = gathering [] [];
    Takes = λ old new s how at part text course at' rounds. TakesOne old new s how at part text course at' rounds;
    end_text = stream_end_text;
    end_count = stream_end_count;
  }

  abbrev pub ServesPlanners : Store D members → Store D members → State → Manner → Result Bool ServeFault → SessionStreams → Type 0
  ServesPlanners old new s how result known = ServesStream planners old new s how result known
