-- What a call of a session of planners does.
use Rattle.std.specs.Prelude.{◌≡◌, ◌+◌, ◌≤◌, ◌++◌, ℕ, List, [], ◌∷◌, Option, None, Some, Result, Bool, length}
use Rattle.vm_types.specs.State.{State}
use Rattle.vm_disk.specs.declared.disk.Disk.{Ghosts}
use Rattle.vm_store.specs.declared.store.Store.{Store}
use Rattle.vm_cli.specs.session.SessionKinds.{AnswersThen, Course, Tells, counted_result}
use Rattle.vm_cli.specs.session.Feeds.{FeedsOn}
use Rattle.vm_cli.specs.lines.Input.{HoldsLine}
use Rattle.vm_cli.specs.session.Known.{Written, written_to}
use Rattle.vm_cli.specs.session.Planners.{AreSeats, Gathering, IsAbsent, Seat, TakesWhen}
use Rattle.vm_cli.specs.session.Rounds.{Round}
use Rattle.vm_cli.specs.session.StreamCalls.{Scene, TellsLine}
use Rattle.vm_cli.specs.session.Streams.{Held, IsHeld, IsStage}
use Rattle.vm_cli.specs.session.Streams.Held.{holds}
use Rattle.vm_cli.specs.session.Waiting.{SettlesWaiting, Waiting}
use Rattle.vm_cli.specs.declared.lines.line.Line.{Line}
use Rattle.vm_cli.specs.declared.session.Manner.{Manner}
use Rattle.vm_cli.specs.declared.session.ServeFault.{ServeFault}
use Rattle.vm_cli.specs.declared.session.batch.Batch.{Batch}
use Rattle.vm_cli.specs.declared.session.batches.BatchSession.{BatchSession}
use Rattle.vm_cli.specs.declared.session.planner_line.When.{When}
use Rattle.vm_cli.specs.declared.session.planners.Planner.{Planner}
use Rattle.vm_cli.specs.declared.session.planners.PlannersSession.{PlannersSession}
use Rattle.vm_cli.specs.declared.session.waiting.WaitingBatch.{WaitingBatch}

-- a planner with this batch
abbrev pub holding : Planner → Batch → Planner
holding planner batch = record { number = planner.number; batch = batch }

-- no batch has more lines than that
abbrev pub AreWithin : ℕ → List Planner → Type 0
AreWithin n [] = Unit {0}
AreWithin n (planner ∷ planners) = (planner.batch.count ≤ n) × AreWithin n planners

-- a batch as it waits: whose it is, whether a line began it, and its lines
pub record IsWaiting (own : WaitingBatch) (it : Waiting) : Type 0 where
  pub number : own.number ≡ it.number
  pub begun : own.batch.is_open ≡ it.is_begun
  pub lines : IsHeld own.batch (holds it.lines)

abbrev pub AreWaiting : List WaitingBatch → List Waiting → Type 0
AreWaiting [] [] = Unit {0}
AreWaiting [] (it ∷ waiting) = ⊥
AreWaiting (own ∷ queue) [] = ⊥
AreWaiting (own ∷ queue) (it ∷ waiting) = IsWaiting own it × AreWaiting queue waiting

-- a batch, as it is held, has lines, and was put behind those that wait
pub record WaitsBehind (number : ℕ) (is_begun : Bool) (queue queue' : List WaitingBatch) (held : Held) : Type 0 where
  pub first : List ℕ
  pub lines : List (List ℕ)
  pub some : held ≡ holds (first ∷ lines)
  pub waits : (waiting : List Waiting) → AreWaiting queue waiting
      → AreWaiting queue' (waiting ++ record { number = number; is_begun = is_begun; lines = first ∷ lines } ∷ [])

-- the batch of a session was put behind those that wait, as it has lines, and the session holds none
pub record PutsBehind (number : ℕ) (queue queue' : List WaitingBatch) (old new : BatchSession) : Type 0 where
  pub manner : new.manner ≡ old.manner
  pub closed : IsStage new.batch None
  pub none : new.batch.count ≡ 0
  pub waits : (held : Held) → IsHeld old.batch held → WaitsBehind number old.batch.is_open queue queue' held

-- what a session holds between lines
pub record IsGathering (session : PlannersSession) (at : Gathering) : Type 0 where
  pub seats : AreSeats session.planners.items at.seats
  pub waiting : AreWaiting session.waiting.items at.waiting

-- a session with its store and where its answers go, before a call or after it
pub record Hall (D W : Type 0) (members : Ghosts D) : Type 0 where
  pub session : PlannersSession
  pub store : Store D members
  pub writer : W

abbrev pub hall : {D W : Type 0} {members : Ghosts D} → PlannersSession → Store D members → W → Hall D W members
hall session store writer = record { session = session; store = store; writer = writer }

-- what stays in a session between lines: how it takes them, and that no batch is held but those of planners
pub record StaysAtRest (old new : PlannersSession) : Type 0 where
  pub manner : new.session.manner ≡ old.session.manner
  pub closed : IsStage old.session.batch None → IsStage new.session.batch None
  pub count : (n : ℕ) → AreWithin n old.planners.items → AreWithin (n + 1) new.planners.items

-- an answer was given to those who had joined: the text, how many lines it refuses, and who has joined then
pub record AnswerGiven (IsAnswer : List Seat → List ℕ → ℕ → List Seat → Type 0) (how : Manner) (result : Result Bool ServeFault)
    (planners : List Planner) (seats : List Seat) (output : Written) : Type 0 where
  pub text : List ℕ
  pub count : ℕ
  pub seats' : List Seat
  pub seated : AreSeats planners seats'
  pub answer : IsAnswer seats text count seats'
  pub said : AnswersThen text (counted_result how.on_refusal count) result output

-- those who have joined were only answered
pub record AnswersSeats (IsAnswer : List Seat → List ℕ → ℕ → List Seat → Type 0) (result : Result Bool ServeFault)
    (old new : PlannersSession) (output : Written) : Type 0 where
  pub stays : StaysAtRest old new
  pub waiting : new.waiting.items ≡ old.waiting.items
  pub answered : (seats : List Seat) → AreSeats old.planners.items seats
      → AnswerGiven IsAnswer old.session.manner result new.planners.items seats output

module _ {D W : Type 0} {members : Ghosts D} (contents : W → Option (List ℕ)) where
  -- a line of a planner was taken as one of its own session, or its batch was put behind those that wait
  pub record TakesLineOf (when : When) (number : ℕ) (line : Line) (result : Result Bool ServeFault) (queue queue' : List WaitingBatch) (old new : Scene D W members) : Type 0 where
    pub manner : new.session.manner ≡ old.session.manner
    pub store : FeedsOn result old.store new.store
    pub count : new.session.batch.count ≤ old.session.batch.count + 1
    pub taken : (s : State) (stage : Option Held) (part : List ℕ) → IsStage old.session.batch stage → HoldsLine line part
        → TellsLine contents (λ text course. (stage' : Option Held) × (round : Round) × (more : List Waiting) × IsStage new.session.batch stage'
        × ((waiting : List Waiting) → AreWaiting queue waiting → AreWaiting queue' (waiting ++ more))
        × TakesWhen when old.store new.store s old.session.manner number stage part text course stage' round more) result old new

  -- all that waits was carried out, and answered
  pub record SettlesQueue (queue : List WaitingBatch) (result : Result Bool ServeFault) (old new : Scene D W members) : Type 0 where
    pub manner : new.session.manner ≡ old.session.manner
    pub batch : new.session.batch ≡ old.session.batch
    pub store : FeedsOn result old.store new.store
    pub settled : (s : State) (waiting : List Waiting) → AreWaiting queue waiting
        → TellsLine contents (λ text course. (rounds : List Round) × SettlesWaiting old.store new.store s old.session.manner waiting text course rounds) result old new

  -- a line of the stream was taken
  pub record TakesInHall (IsAnswer : State → Gathering → List ℕ → Course → Gathering → List Round → Type 0) (result : Result Bool ServeFault) (old new : Hall D W members) : Type 0 where
    pub stays : StaysAtRest old.session new.session
    pub store : (at : Gathering) → IsGathering old.session at → FeedsOn result old.store new.store
    pub taken : (s : State) (at : Gathering) → IsStage old.session.session.batch None → IsGathering old.session at
        → Tells old.session.session.manner (λ text course. (at' : Gathering) × (rounds : List Round) × IsGathering new.session at' × IsAnswer s at text course at' rounds)
        result (written_to contents old.writer new.writer)

-- none of these planners has this number
abbrev pub AreOthers : ℕ → List Planner → Type 0
AreOthers number planners = (seats : List Seat) → AreSeats planners seats → IsAbsent number seats

-- a planner of this number stands at this place, and it is the first one
pub record StandsAt (number : ℕ) (planners : List Planner) (place : ℕ) : Type 0 where
  pub before : List Planner
  pub planner : Planner
  pub behind : List Planner
  pub cut : planners ≡ before ++ planner ∷ behind
  pub at : place ≡ length before
  pub named : planner.number ≡ number
  pub only : AreOthers number before

-- where the planner of this number stands, if it has joined
abbrev pub IsPlaceOf : ℕ → List Planner → Option ℕ → Type 0
IsPlaceOf number planners None = AreOthers number planners
IsPlaceOf number planners (Some place) = StandsAt number planners place

-- the batch of the session and that of the planner at this place were exchanged
pub record Exchanges (place : ℕ) (old new : PlannersSession) : Type 0 where
  pub manner : new.session.manner ≡ old.session.manner
  pub waiting : new.waiting.items ≡ old.waiting.items
  pub exchanged : (before : List Planner) (planner : Planner) (behind : List Planner) → old.planners.items ≡ before ++ planner ∷ behind → place ≡ length before
      → (new.planners.items ≡ before ++ holding planner old.session.batch ∷ behind) × (new.session.batch ≡ planner.batch)
