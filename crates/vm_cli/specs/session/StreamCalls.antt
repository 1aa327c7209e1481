-- What a call of a session with batches does.
use Rattle.std.specs.Prelude.{◌≡◌, ◌+◌, ◌≤◌, ℕ, List, [], Option, None, Some, Result, Bool, Vec}
use Rattle.vm_types.specs.State.{State}
use Rattle.vm_disk.specs.declared.disk.Disk.{Ghosts}
use Rattle.vm_cli.specs.session.SessionKinds.{AnswersThen, Course, TakesTo, Tells}
use Rattle.vm_cli.specs.session.Feeds.{Stays, FeedsOn, Writes}
use Rattle.vm_cli.specs.session.Known.{Written, written_to}
use Rattle.vm_cli.specs.lines.Input.{HoldsLine}
use Rattle.vm_cli.specs.session.Rounds.{Round}
use Rattle.vm_cli.specs.session.Streams.{CarriesLines, Held, HoldsLines, IsHeld, IsStage, SettlesHeld, TakesInside, TakesOutside, Verdict, batches, count_of, settled_text, tried_result, trying, verdict_result}
use Rattle.vm_cli.specs.session.Session.{HandlesLine}
use Rattle.vm_store.specs.declared.store.Store.{Store}
use Rattle.vm_cli.specs.declared.lines.line.Line.{Line}
use Rattle.vm_cli.specs.declared.session.Manner.{Manner}
use Rattle.vm_cli.specs.declared.session.ServeFault.{ServeFault}
use Rattle.vm_cli.specs.declared.session.Session.{Session}
use Rattle.vm_cli.specs.declared.session.batches.BatchSession.{BatchSession}
use Rattle.vm_cli.specs.declared.session.carrying.Stop.{Stop as LastLine}
use Rattle.vm_cli.specs.declared.session.line_use.LineUse.{LineUse}

-- the session holds what it held
pub record KeepsSession (old new : BatchSession) : Type 0 where
  pub batch : new.batch ≡ old.batch
  pub answers : new.answers ≡ old.answers
  pub manner : new.manner ≡ old.manner

-- a text was written, and this was to be the result
abbrev pub SaysThen : {W : Type 0} → (W → Option (List ℕ)) → List ℕ → Result Bool ServeFault → Result Bool ServeFault → W → W → Type 0
SaysThen contents text then result old new = AnswersThen text then result (written_to contents old new)

-- a session with its store and where its answers go, before a call or after it
pub record Scene (D W : Type 0) (members : Ghosts D) : Type 0 where
  pub session : BatchSession
  pub store : Store D members
  pub writer : W

abbrev pub scene : {D W : Type 0} {members : Ghosts D} → BatchSession → Store D members → W → Scene D W members
scene session store writer = record { session = session; store = store; writer = writer }

module _ {D W : Type 0} {members : Ghosts D} (contents : W → Option (List ℕ)) where
  -- what a line is answered
  abbrev pub TellsLine : (List ℕ → Course → Type 0) → Result Bool ServeFault → Scene D W members → Scene D W members → Type 0
  TellsLine IsAnswer result old new = Tells old.session.manner IsAnswer result (written_to contents old.writer new.writer)

  -- a batch, as it is held, came out so, and was answered so
  pub record SettlesSo (is_begun : Bool) (result : Result Bool ServeFault) (old new : Scene D W members) (s : State) (held : Held) : Type 0 where
    pub verdict : Verdict
    pub round : Round
    pub settles : SettlesHeld old.store new.store s old.session.manner held verdict round
    pub said : SaysThen contents (settled_text is_begun (count_of held) verdict) (verdict_result old.session.manner verdict) result
        old.writer new.writer

  -- the batch was carried out, and answered
  pub record SettlesBatch (is_begun : Bool) (result : Result Bool ServeFault) (old new : Scene D W members) : Type 0 where
    pub manner : new.session.manner ≡ old.session.manner
    pub store : FeedsOn result old.store new.store
    pub closed : IsStage new.session.batch None
    pub none : new.session.batch.count ≡ 0
    pub settled : (s : State) (held : Held) → IsHeld old.session.batch held → SettlesSo is_begun result old new s held

  -- a line was taken outside of a batch
  pub record TakesLineOutside (used : LineUse) (line : Line) (result : Result Bool ServeFault) (old new : Scene D W members) : Type 0 where
    pub manner : new.session.manner ≡ old.session.manner
    pub store : FeedsOn result old.store new.store
    pub count : new.session.batch.count ≤ old.session.batch.count + 1
    pub taken : (s : State) (part : List ℕ) → IsStage old.session.batch None → HoldsLine line part
        → TellsLine (λ text course. (stage : Option Held) × (round : Round) × IsStage new.session.batch stage
        × TakesOutside old.store new.store s old.session.manner used part text course stage round) result old new

  -- a line was taken within a batch
  pub record TakesLineInside (used : LineUse) (line : Line) (result : Result Bool ServeFault) (old new : Scene D W members) : Type 0 where
    pub manner : new.session.manner ≡ old.session.manner
    pub store : FeedsOn result old.store new.store
    pub count : new.session.batch.count ≤ old.session.batch.count + 1
    pub taken : (s : State) (held : Held) (part : List ℕ) → IsStage old.session.batch (Some held) → HoldsLine line part
        → TellsLine (λ text course. (stage : Option Held) × (round : Round) × IsStage new.session.batch stage
        × TakesInside old.store new.store s old.session.manner used held part text course stage round) result old new

  -- a line was taken
  pub record TakesLine (line : Line) (result : Result Bool ServeFault) (old new : Scene D W members) : Type 0 where
    pub manner : new.session.manner ≡ old.session.manner
    pub store : FeedsOn result old.store new.store
    pub count : new.session.batch.count ≤ old.session.batch.count + 1
    pub taken : (s : State) (stage : Option Held) (part : List ℕ) → IsStage old.session.batch stage → HoldsLine line part
        → TellsLine (TakesTo batches (IsStage new.session.batch) old.store new.store s old.session.manner stage part) result old new

-- a line was answered by itself
pub record AnswersAlone {D : Type 0} {members : Ghosts D} (on : Manner) (line : Line) (result : Result Bool ServeFault)
    (old new : Store D members) (output : Written) : Type 0 where
  pub store : FeedsOn result old new
  pub answer : (s : State) (part : List ℕ) → HoldsLine line part → Writes on (HandlesLine old new s on part) result output

-- lines were answered one after another, up to the first that was refused, and the answers are kept
pub record CarriesEach {D A T : Type 0} {members : _} (lines : List Line) (result : Result T LastLine) (old new : Session (Vec ℕ A) D members) : Type 0 where
  pub same : Stays old new
  pub store : FeedsOn (tried_result result) old.store.now new.store.now
  pub carried : (s : State) (how : Manner) (parts : List (List ℕ)) → old.manner ≡ trying how → old.writer.now.items ≡ [] → HoldsLines lines parts
      → CarriesLines old.store.now new.store.now s how parts result new.writer.now.items
