-- What the calls do by which batches that wait are carried out.
use Rattle.std.specs.Prelude.{◌≡◌, ◌+◌, ◌<◌, ◌≤◌, ℕ, Bool, true, false, List, [], ◌∷◌, ◌++◌, Option, Result, Ok, Err, drop, length, map, slice_range}
use Rattle.std.specs.Io.KnownBytes.{Appends}
use Rattle.vm_types.specs.State.{State, after}
use Rattle.vm_disk.specs.declared.disk.Disk.{Ghosts}
use Rattle.vm_store.specs.declared.store.Store.{Store}
use Rattle.vm_cli.specs.session.Known.{Written, written_to}
use Rattle.vm_cli.specs.session.SessionKinds.{Puts, Tells}
use Rattle.vm_cli.specs.session.Feeds.{FeedsOn}
use Rattle.vm_cli.specs.session.PlannerCalls.{AreWaiting}
use Rattle.vm_cli.specs.session.Rounds.{Batch as Commanded, Round}
use Rattle.vm_cli.specs.session.StreamCalls.{Scene}
use Rattle.vm_cli.specs.session.Streams.{StopsIn, Verdict, settled_text, verdict_of, why_text}
use Rattle.vm_cli.specs.session.Streams.Verdict.{fails, succeeds}
use Rattle.vm_cli.specs.session.Waiting.{CarriesAll, SettlesWaiting, TakesRound, Waiting, label}
use Rattle.vm_cli.specs.declared.session.Manner.{Manner}
use Rattle.vm_cli.specs.declared.session.ServeFault.{ServeFault}
use Rattle.vm_cli.specs.declared.session.ServeFault.TheVariants as fault
use Rattle.vm_cli.specs.declared.session.batches.BatchSession.{BatchSession}
use Rattle.vm_cli.specs.declared.session.carrying.Stop.{Stop as LastLine}
use Rattle.vm_cli.specs.declared.session.waiting.Stopped.{Stopped}
use Rattle.vm_cli.specs.declared.session.waiting.Tried.{Tried}
use Rattle.vm_cli.specs.declared.session.waiting.Tried.TheVariants.{Committed, Refused, Undone}
use Rattle.vm_cli.specs.declared.session.waiting.WaitingBatch.{WaitingBatch}

-- ---- what waits

-- the same batches wait, whatever is kept of the answers to their lines
abbrev pub StayWaiting : List WaitingBatch → List WaitingBatch → Type 0
StayWaiting queue queue' = (waiting : List Waiting) → AreWaiting queue waiting → AreWaiting queue' waiting

-- the answers that are kept to the lines of each
abbrev pub kept_answers : List WaitingBatch → List (List ℕ)
kept_answers queue = map (λ own. own.answers.items) queue

-- nothing else of a session is changed, and the same batches wait
pub record KeepsWaiting (queue queue' : List WaitingBatch) (old new : BatchSession) : Type 0 where
  pub manner : new.manner ≡ old.manner
  pub batch : new.batch ≡ old.batch
  pub count : length queue' ≡ length queue
  pub waits : StayWaiting queue queue'

-- ---- what is answered

-- what its planner is answered, by how the batch came out
abbrev pub own_text : WaitingBatch → Verdict → List ℕ
own_text own verdict = label own.number ++ settled_text own.batch.is_open own.batch.count verdict

-- how it came out, as it was committed with others, or their commit was not acknowledged
abbrev pub shared_verdict : {T : Type 0} → Result T LastLine → WaitingBatch → Verdict
shared_verdict (Ok u) own = succeeds own.answers.items
shared_verdict (Err stop) own = fails (length own.batch.lines.items) (why_text stop.why own.answers.items) stop.then

-- how it came out, as a session says it: what was refused is the commit, behind exactly `count` lines
abbrev pub placed_behind : {T : Type 0} → ℕ → Result T LastLine → Result T LastLine
placed_behind count (Ok u) = Ok u
placed_behind count (Err stop) = Err (record { place = count; why = stop.why; then = stop.then })

-- what their planners are answered
abbrev pub shared_texts : {T : Type 0} → Result T LastLine → List WaitingBatch → List ℕ
shared_texts committed [] = []
shared_texts committed (own ∷ queue) = own_text own (shared_verdict committed own) ++ shared_texts committed queue

-- a session ends if a commit was not acknowledged
abbrev pub sure_result : {T : Type 0} → Result T LastLine → Result T ServeFault
sure_result (Ok u) = Ok u
sure_result (Err stop) = Err fault.Unsure

-- the batch at this place was answered
pub record PutsWaiting {S T : Type 0} (at : ℕ) (settled : Result S LastLine) (result : Result T ServeFault)
    (queue queue' : List WaitingBatch) (output : Written) : Type 0 where
  pub behind : drop (at + 1) queue' ≡ drop (at + 1) queue
  pub put : (own : WaitingBatch) (others : List WaitingBatch) → drop at queue ≡ own ∷ others
      → Puts (own_text own (verdict_of settled own.answers.items)) result output

-- ---- what is done

-- what is told of a store by which lines were carried out
abbrev pub shared_result : {T : Type 0} → Result T Stopped → Result Bool ServeFault
shared_result (Ok u) = Ok false
shared_result (Err stopped) = Err fault.Refused

-- after a round the session goes on, or ends
abbrev pub round_result : Result Tried ServeFault → Result Bool ServeFault
round_result (Ok tried) = Ok false
round_result (Err why) = Err why

-- the first that waits on, if those in this range were tried
abbrev pub first_left : ℕ → ℕ → Tried → ℕ
first_left from to Committed = to
first_left from to Refused = from + 1
first_left from to (Undone place) = from

-- one was refused, and is answered
abbrev pub is_refused : Tried → Bool
is_refused Committed = false
is_refused Refused = true
is_refused (Undone place) = false

-- one is tried no more that is not the first of them
abbrev pub IsFewer : ℕ → ℕ → Tried → Type 0
IsFewer from to (Undone place) = (from < place) × (place < to)
IsFewer from to tried = Unit {0}

-- one of them was stopped at
abbrev pub IsAmong : ℕ → ℕ → Stopped → Type 0
IsAmong from to stopped = (from ≤ stopped.at) × (stopped.at < to)

module _ {D : Type 0} {members : Ghosts D} where
  -- the batches before one were carried out, and a line of that one was refused
  pub record StopsAt (old new : Store D members) (s : State) (how : Manner) (before waiting : List Waiting) (stop : LastLine) (queue : List WaitingBatch) : Type 0 where
    pub mid : Store D members
    pub answers : List (List ℕ)
    pub earlier : Commanded
    pub it : Waiting
    pub behind : List Waiting
    pub own : WaitingBatch
    pub others : List WaitingBatch
    pub first : waiting ≡ it ∷ behind
    pub own_first : queue ≡ own ∷ others
    pub carried : CarriesAll old mid s how before answers earlier
    pub stops : StopsIn mid new (after s earlier.commands earlier.answers) how it.lines stop.place (why_text stop.why own.answers.items)

  -- those in this range were carried out, and the answers kept; or one of them was stopped at
  abbrev pub CarriesRange : {T : Type 0} → Store D members → Store D members → State → Manner → ℕ → ℕ → List Waiting → Result T Stopped → List WaitingBatch → Type 0
  CarriesRange old new s how from to waiting (Ok u) queue = (batch : Commanded) × CarriesAll old new s how (slice_range waiting from to) (kept_answers (slice_range queue from to)) batch
  CarriesRange old new s how from to waiting (Err stopped) queue =
      StopsAt old new s how (slice_range waiting from stopped.at) (drop stopped.at waiting) stopped.stop (drop stopped.at queue)

  -- the batches in this range were carried out, one after another, up to the first of which a line was refused
  pub record CarriesShared {T : Type 0} (how : Manner) (from to : ℕ) (result : Result T Stopped) (queue queue' : List WaitingBatch) (old new : Store D members) : Type 0 where
    pub count : length queue' ≡ length queue
    pub waits : StayWaiting queue queue'
    pub store : FeedsOn (shared_result result) old new
    pub carried : (s : State) (waiting : List Waiting) → AreWaiting queue waiting → CarriesRange old new s how from to waiting result queue'

  -- those in this range were tried, which was a round
  pub record TriesOnce (old new : Store D members) (s : State) (how : Manner) (from to : ℕ) (waiting : List Waiting)
      (tried : Tried) (output : Written) : Type 0 where
    pub text : List ℕ
    pub round : Round
    pub takes : TakesRound old new s how (drop from waiting) (drop (first_left from to tried) waiting) text (is_refused tried) round
    pub written : Appends output.before output.after text

  -- those in this range were tried: it was a round, or the session ends
  abbrev pub TriesRange : Store D members → Store D members → State → Manner → ℕ → ℕ → List Waiting → Result Tried ServeFault → Written → Type 0
  TriesRange old new s how from to waiting (Ok tried) output = TriesOnce old new s how from to waiting tried output
  TriesRange old new s how from to waiting (Err why) output =
      Tells how (λ text course. (rounds : List Round) × SettlesWaiting old new s how (drop from waiting) text course rounds) (Err why) output

-- the batches in this range were tried together
pub record TriesTogether {D W : Type 0} {members : Ghosts D} (contents : W → Option (List ℕ)) (from to : ℕ) (result : Result Tried ServeFault) (queue queue' : List WaitingBatch) (old new : Scene D W members) : Type 0 where
  pub keeps : KeepsWaiting queue queue' old.session new.session
  pub store : FeedsOn (round_result result) old.store new.store
  pub tried : (s : State) (waiting : List Waiting) → AreWaiting queue waiting
      → TriesRange old.store new.store s old.session.manner from to waiting result (written_to contents old.writer new.writer)
