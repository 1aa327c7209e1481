-- What a session promises in which lines are answered one after another: for any kind of session.
use Rattle.std.specs.Prelude.{◌≡◌, ◌||◌, ℕ, zero, suc, Bool, true, false, List, [], ◌∷◌, ◌++◌, Result, Ok, Err, IfSome}
use Rattle.std.specs.Io.KnownBytes.{Appends}
use Rattle.vm_types.specs.State.{State}
use Rattle.vm_disk.specs.declared.disk.Disk.{Ghosts}
use Rattle.vm_store.specs.declared.store.Store.{Store}
use Rattle.vm_cli.specs.answers.Carried.{WritesStart}
use Rattle.vm_cli.specs.session.Feeds.{ServesOn}
use Rattle.vm_cli.specs.session.Known.{SessionStreams, Written}
use Rattle.vm_cli.specs.lines.Lines.{IsPart}
use Rattle.vm_cli.specs.session.Rounds.{Round, after_rounds}
use Rattle.vm_cli.specs.declared.answers.output.WriteFault.{WriteFault}
use Rattle.vm_cli.specs.declared.session.Manner.{Manner}
use Rattle.vm_cli.specs.declared.session.OnRefusal.{OnRefusal}
use Rattle.vm_cli.specs.declared.session.OnRefusal.TheVariants.{Stop}
use Rattle.vm_cli.specs.declared.session.ServeFault.{ServeFault}
use Rattle.vm_cli.specs.declared.session.ServeFault.TheVariants as fault

-- ---- a kind of session

-- how a session goes on after an answer: with a line refused or none; or it is over; or the writer failed before the line was carried out
pub data Course : Type 0 where
  proceeds : Bool → Course
  over : Course
  unwritten : Course

-- a kind of session: what is held between lines, what a line does, and what is answered when the input ends
pub record SessionKind (D : Type 0) (members : Ghosts D) : Type 1 where
  -- what is held between lines, and before the first
  pub Stage : Type 0
  pub start : Stage
  -- a line is taken: the store before it and after it, the state before it, the manner of the session, what is held, the line, its answer,
  -- how the session goes on, what is held then, and the rounds that came of it
  pub Takes : Store D members → Store D members → State → Manner → Stage → List ℕ → List ℕ → Course → Stage → List Round → Type 0
  -- what is answered at the end of the input, by what is held then and how many lines it ends in, and how many lines are refused by that
  pub end_text : Stage → ℕ → List ℕ
  pub end_count : Stage → ℕ → ℕ

-- ---- an input

-- lines, each with the line feed (10) at its end
abbrev pub ended_lines : List (List ℕ) → List ℕ
ended_lines [] = []
ended_lines (part ∷ parts) = part ++ (10 ∷ ended_lines parts)

-- how many lines end with the input and not with a line feed
abbrev pub half_lines : List ℕ → ℕ
half_lines [] = 0
half_lines bytes = 1

-- some lines were refused
abbrev pub some_lines : ℕ → Bool
some_lines zero = false
some_lines (suc n) = true

-- ---- the whole input

module _ {D : Type 0} {members : Ghosts D} (kind : SessionKind D members) where
  -- a line is taken, and this is true of what is held then
  abbrev pub TakesTo : (kind.Stage → Type 0) → Store D members → Store D members → State → Manner → kind.Stage → List ℕ → List ℕ → Course → Type 0
  TakesTo IsHeld old new s how stage part text course = (stage' : kind.Stage) × (rounds : List Round) × IsHeld stage' × kind.Takes old new s how stage part text course stage' rounds

  -- no line was taken
  pub record TakesNone (old new : Store D members) (stage : kind.Stage) (text : List ℕ) (stage' : kind.Stage) (rounds : List Round) (again : Bool) : Type 0 where
    pub same : new ≡ old
    pub silent : text ≡ []
    pub held : stage' ≡ stage
    pub idle : rounds ≡ []
    pub fine : again ≡ false

  -- a line was taken, and then others were, by the store that it left, as `AreOthers` tells: the texts joined, what came of them, and whether
  -- one was refused
  pub record TakesNext (AreOthers : Store D members → State → kind.Stage → List ℕ → List Round → Bool → Type 0)
      (old : Store D members) (s : State) (how : Manner) (stage : kind.Stage) (part text : List ℕ) (rounds : List Round) (again : Bool) : Type 0 where
    pub mid : Store D members
    pub next : kind.Stage
    pub said : List ℕ
    pub rest : List ℕ
    pub first : List Round
    pub later : List Round
    pub refused : Bool
    pub others : Bool
    pub takes : kind.Takes old mid s how stage part said (proceeds refused) next first
    pub texts : text ≡ said ++ rest
    pub came : rounds ≡ first ++ later
    pub told : again ≡ (refused || others)
    pub more : AreOthers mid (after_rounds s first) next rest later others

  -- lines are taken one after another
  abbrev pub TakesEach : Store D members → Store D members → State → Manner → kind.Stage → List (List ℕ) → List ℕ → kind.Stage → List Round → Bool → Type 0
  TakesEach old new s how stage [] text stage' rounds again = TakesNone old new stage text stage' rounds again
  TakesEach old new s how stage (part ∷ parts) text stage' rounds again =
      TakesNext (λ mid t next rest later others. TakesEach mid new t how next parts rest stage' later others) old s how stage part text rounds again

  -- the first lines of an input were taken
  pub record HasTaken (old new : Store D members) (s : State) (how : Manner) (parts : List (List ℕ)) (text : List ℕ) (stage : kind.Stage) (again : Bool) : Type 0 where
    pub rounds : List Round
    pub each : TakesEach old new s how kind.start parts text stage rounds again
    pub goes_on : how.on_refusal ≡ Stop → again ≡ false

  -- then one more was, with which the session ends
  pub record EndsWithLine (old new : Store D members) (s : State) (how : Manner) (course : Course) (input text : List ℕ) : Type 0 where
    pub mid : Store D members
    pub parts : List (List ℕ)
    pub part : List ℕ
    pub more : List ℕ
    pub earlier : List ℕ
    pub last : List ℕ
    pub stage : kind.Stage
    pub stage' : kind.Stage
    pub rounds : List Round
    pub again : Bool
    pub cut : input ≡ ended_lines parts ++ (part ++ (10 ∷ more))
    pub texts : text ≡ earlier ++ last
    pub taken : HasTaken old mid s how parts earlier stage again
    pub takes : kind.Takes mid new (after_rounds s taken.rounds) how stage part last course stage' rounds

  -- all lines were taken, and the end of the input was answered, which refuses some lines or none
  pub record EndsInput (old new : Store D members) (s : State) (how : Manner) (input text : List ℕ) (again last : Bool) : Type 0 where
    pub parts : List (List ℕ)
    pub half : List ℕ
    pub unbroken : IsPart half
    pub earlier : List ℕ
    pub stage : kind.Stage
    pub cut : input ≡ ended_lines parts ++ half
    pub texts : text ≡ earlier ++ kind.end_text stage (half_lines half)
    pub refuses : last ≡ some_lines (kind.end_count stage (half_lines half))
    pub taken : HasTaken old new s how parts earlier stage again

  -- each line was answered, and it is said whether one was refused
  pub record TakesAll (old new : Store D members) (s : State) (how : Manner) (refused : Bool) (input : List ℕ) (output : Written) : Type 0 where
    pub text : List ℕ
    pub again : Bool
    pub last : Bool
    pub ended : EndsInput old new s how input text again last
    pub told : refused ≡ (again || last)
    pub written : Appends output.before output.after text

  -- the first lines were answered
  pub record TakesSome (old new : Store D members) (s : State) (how : Manner) (input : List ℕ) (output : Written) : Type 0 where
    pub text : List ℕ
    pub parts : List (List ℕ)
    pub more : List ℕ
    pub stage : kind.Stage
    pub again : Bool
    pub cut : input ≡ ended_lines parts ++ more
    pub taken : HasTaken old new s how parts text stage again
    pub written : Appends output.before output.after text

  -- a line ended the session
  pub record EndsOver (old new : Store D members) (s : State) (how : Manner) (input : List ℕ) (output : Written) : Type 0 where
    pub text : List ℕ
    pub ended : EndsWithLine old new s how over input text
    pub written : Appends output.before output.after text

  -- what was answered last, if that was a refusal: a line, or lines that the end of the input refuses
  pub data LastRefused (old new : Store D members) (s : State) (how : Manner) (input text : List ℕ) : Type 0 where
    line_refused : EndsWithLine old new s how (proceeds true) input text → LastRefused old new s how input text
    end_refuses : (again : Bool) → EndsInput old new s how input text again true → LastRefused old new s how input text

  -- a line was refused, which was to end the session
  pub record EndsAtRefusal (old new : Store D members) (s : State) (how : Manner) (input : List ℕ) (output : Written) : Type 0 where
    pub text : List ℕ
    pub stop : how.on_refusal ≡ Stop
    pub last : LastRefused old new s how input text
    pub written : Appends output.before output.after text

  -- what was answered last: a line, or the end of the input
  pub data LastAnswered (old new : Store D members) (s : State) (how : Manner) (input text : List ℕ) : Type 0 where
    line_answered : (course : Course) → EndsWithLine old new s how course input text → LastAnswered old new s how input text
    end_answered : (again last : Bool) → EndsInput old new s how input text again last → LastAnswered old new s how input text

  -- the writer failed in the last answers, and only a beginning of the texts was written
  pub record EndsInWriting (old new : Store D members) (s : State) (how : Manner) (input : List ℕ) (output : Written) : Type 0 where
    pub text : List ℕ
    pub last : LastAnswered old new s how input text
    pub begun : WritesStart output.before output.after text

  -- a session over all this input came to this end: at Store the store failed in a line, and at Unsure a commit was not acknowledged
  abbrev pub ServesInput : Store D members → Store D members → State → Manner → Result Bool ServeFault → Written → List ℕ → Type 0
  ServesInput old new s how (Ok refused) output input = TakesAll old new s how refused input output
  ServesInput old new s how (Err fault.Read) output input = TakesSome old new s how input output
  ServesInput old new s how (Err fault.Store) output input = EndsOver old new s how input output
  ServesInput old new s how (Err fault.Unsure) output input = EndsOver old new s how input output
  ServesInput old new s how (Err fault.Refused) output input = EndsAtRefusal old new s how input output
  ServesInput old new s how (Err fault.Write) output input = EndsInWriting old new s how input output

  -- a session over some input, which is what the reader had to give, if that is known
  pub record ServesStream (old new : Store D members) (s : State) (how : Manner) (result : Result Bool ServeFault) (known : SessionStreams) : Type 0 where
    pub input : List ℕ
    pub own : IfSome known.input (λ bytes. bytes ≡ input)
    pub served : ServesInput old new s how result known.output input

-- ---- what a call of a session does

-- a refused line ends the session, or does not
abbrev pub refused_result : OnRefusal → Result Bool ServeFault
refused_result Stop = Err fault.Refused
refused_result on_refusal = Ok true

-- how a session goes on after that many lines were refused
abbrev pub counted_result : OnRefusal → ℕ → Result Bool ServeFault
counted_result on_refusal zero = Ok false
counted_result on_refusal (suc n) = refused_result on_refusal

-- an answer was written whole, and the session goes on: this says whether a line was refused
pub record TellsOn (how : Manner) (IsAnswer : List ℕ → Course → Type 0) (refused : Bool) (output : Written) : Type 0 where
  pub text : List ℕ
  pub says : IsAnswer text (proceeds refused)
  pub goes_on : how.on_refusal ≡ Stop → refused ≡ false
  pub written : Appends output.before output.after text

-- an answer was written whole, with which the session is over
pub record TellsLast (IsAnswer : List ℕ → Course → Type 0) (output : Written) : Type 0 where
  pub text : List ℕ
  pub says : IsAnswer text over
  pub written : Appends output.before output.after text

-- an answer was written whole, that a line was refused, which is to end the session
pub record TellsRefusal (how : Manner) (IsAnswer : List ℕ → Course → Type 0) (output : Written) : Type 0 where
  pub text : List ℕ
  pub says : IsAnswer text (proceeds true)
  pub stop : how.on_refusal ≡ Stop
  pub written : Appends output.before output.after text

-- the writer failed after the beginning of an answer
pub record TellsStart (IsAnswer : List ℕ → Course → Type 0) (output : Written) : Type 0 where
  pub text : List ℕ
  pub course : Course
  pub says : IsAnswer text course
  pub begun : WritesStart output.before output.after text

-- what a call that answers wrote, by its result
abbrev pub Tells : Manner → (List ℕ → Course → Type 0) → Result Bool ServeFault → Written → Type 0
Tells how IsAnswer (Ok refused) output = TellsOn how IsAnswer refused output
Tells how IsAnswer (Err fault.Read) output = ⊥
Tells how IsAnswer (Err fault.Store) output = TellsLast IsAnswer output
Tells how IsAnswer (Err fault.Unsure) output = TellsLast IsAnswer output
Tells how IsAnswer (Err fault.Refused) output = TellsRefusal how IsAnswer output
Tells how IsAnswer (Err fault.Write) output = TellsStart IsAnswer output

-- so far a text was written, or a beginning of it
abbrev pub Puts : {T : Type 0} → List ℕ → Result T ServeFault → Written → Type 0
Puts text (Ok u) output = Appends output.before output.after text
Puts text (Err why) output = (why ≡ fault.Write) × WritesStart output.before output.after text

-- a text was to be written, and `then` to be the result
pub data AnswersThen {T : Type 0} (text : List ℕ) (then result : Result T ServeFault) (output : Written) : Type 0 where
  -- so it was
  answered_so : result ≡ then → Appends output.before output.after text → AnswersThen text then result output
  -- or the writer failed, and a beginning was written
  answer_cut : result ≡ Err fault.Write → WritesStart output.before output.after text → AnswersThen text then result output

-- all lines of an input were taken
pub record RunsStream {D : Type 0} {members : Ghosts D} (kind : SessionKind D members) (how : Manner) (result : Result Bool ServeFault) (old new : Store D members) (known : SessionStreams) : Type 0 where
  pub store : ServesOn result old new
  pub answers : (s : State) → ServesStream kind old new s how result known

-- a call that wrote, as a session takes it
abbrev pub said_result : {T : Type 0} → Result T WriteFault → Result T ServeFault
said_result (Ok u) = Ok u
said_result (Err failed) = Err fault.Write
