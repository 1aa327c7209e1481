-- Batches that wait, and how they are carried out together.
use Rattle.std.specs.Prelude.{◌≡◌, ◌≢◌, ◌+◌, ◌==◌, ◌||◌, ℕ, Bool, true, false, List, [], ◌∷◌, ◌++◌, Ok, Err, length}
use Rattle.std.specs.Fmt.{decimal}
use Rattle.vm_types.specs.declared.answer.Answer.{Answer}
use Rattle.vm_types.specs.declared.command.Command.TheVariants.{Commit}
use Rattle.vm_types.specs.declared.refusal.Refusal.{Refusal}
use Rattle.vm_types.specs.State.{State, after}
use Rattle.vm_store.specs.declared.store.Store.{Store}
use Rattle.vm_cli.specs.session.SessionKinds.{Course}
use Rattle.vm_cli.specs.session.SessionKinds.Course.{over, proceeds, unwritten}
use Rattle.vm_cli.specs.answers.Replies.{reply_text}
use Rattle.vm_cli.specs.session.Rounds.{Batch as Commanded, Round, after_round}
use Rattle.vm_cli.specs.session.Rounds.Round.{committed, unsure}
use Rattle.vm_cli.specs.session.Streams.{Applies, StopsIn, Undoes, Verdict, carried_by, forgotten_text, settled_text, trying}
use Rattle.vm_cli.specs.session.Streams.Verdict.{fails, succeeds}
use Rattle.vm_cli.specs.session.Session.{HasAnswered}
use Rattle.vm_cli.specs.declared.answers.reply.Reply.TheVariants as reply
use Rattle.vm_cli.specs.declared.session.Manner.{Manner}
use Rattle.vm_cli.specs.declared.session.carrying.Then.{Then}
use Rattle.vm_cli.specs.declared.session.carrying.Then.TheVariants.{GoOn, Failed as AsFailed, Unsure as AsUnsure}

-- ---- what waits

-- a batch that waits: whose it is, whether a line began it, and its lines
pub record Waiting : Type 0 where
  pub number : ℕ
  pub is_begun : Bool
  pub lines : List (List ℕ)

-- a batch of this planner waits
abbrev pub waits : ℕ → List Waiting → Bool
waits number [] = false
waits number (it ∷ waiting) = (it.number == number) || waits number waiting

-- ---- what is answered

-- the line before what a planner is answered: `@` (64), its number, and a line feed (10)
abbrev pub label : ℕ → List ℕ
label number = 64 ∷ decimal number ++ 10 ∷ []

-- what its planner is answered, by how it came out
abbrev pub waiting_text : Waiting → Verdict → List ℕ
waiting_text it verdict = label it.number ++ settled_text it.is_begun (length it.lines) verdict

-- they were committed, with these answers to the lines of each
abbrev pub committed_texts : List Waiting → List (List ℕ) → List ℕ
committed_texts [] answers = []
committed_texts (it ∷ group) [] = []
committed_texts (it ∷ group) (first ∷ answers) = waiting_text it (succeeds first) ++ committed_texts group answers

-- their commit was not acknowledged
abbrev pub unsure_texts : List Waiting → List ℕ
unsure_texts [] = []
unsure_texts (it ∷ group) = waiting_text it (fails (length it.lines) (reply_text reply.Unsure) AsUnsure) ++ unsure_texts group

-- how many answers are owed for it: to each line, and to its commit
abbrev pub owed : Waiting → ℕ
owed it = of it.is_begun
  where
    of : Bool → ℕ
    of true = length it.lines + 1
    of false = length it.lines

-- they are forgotten
abbrev pub forgotten_texts : List Waiting → List ℕ
forgotten_texts [] = []
forgotten_texts (it ∷ waiting) = (label it.number ++ forgotten_text (owed it)) ++ forgotten_texts waiting

-- ---- what is done

-- the commands of both, and the answers to them
abbrev pub both : Commanded → Commanded → Commanded
both first second = record { commands = first.commands ++ second.commands; answers = first.answers ++ second.answers }

-- how a session goes on if it goes on so after a line was refused, or none
abbrev pub then_course : Bool → Course → Course
then_course refused (proceeds again) = proceeds (refused || again)
then_course refused over = over
then_course refused unwritten = unwritten

-- why no further round comes, and how the session goes on then
pub data HasNoRound (waiting : List Waiting) (course : Course) : Type 0 where
  -- no batch waits any more
  none_left : waiting ≡ [] → course ≡ proceeds false → HasNoRound waiting course
  -- the writer failed in an answer
  writer_failed : course ≡ unwritten → HasNoRound waiting course

module _ {D : Type 0} {members : _} where
  -- no batch was carried out
  pub record CarriesNone (old new : Store D members) (answers : List (List ℕ)) (batch : Commanded) : Type 0 where
    pub same : new ≡ old
    pub silent : answers ≡ []
    pub nothing : batch ≡ record { commands = []; answers = [] }

  -- the lines of a batch were carried out, and none of them was refused; then other batches were, by the store that it left, as `AreOthers`
  -- tells: the answers to the lines of each, and what was done
  pub record CarriesNext (AreOthers : Store D members → State → List (List ℕ) → Commanded → Type 0)
      (old : Store D members) (s : State) (how : Manner) (it : Waiting) (answers : List (List ℕ)) (batch : Commanded) : Type 0 where
    pub mid : Store D members
    pub first : List ℕ
    pub others : List (List ℕ)
    pub later : Commanded
    pub carried : HasAnswered old mid s (trying how) it.lines first
    pub texts : answers ≡ first ∷ others
    pub came : batch ≡ both (record { commands = carried.commands; answers = carried.answers }) later
    pub more : AreOthers mid (after s carried.commands carried.answers) others later

  -- the lines of each were carried out, batch by batch, and none was refused: the answers to those of each, and what was done
  abbrev pub CarriesAll : Store D members → Store D members → State → Manner → List Waiting → List (List ℕ) → Commanded → Type 0
  CarriesAll old new s how [] answers batch = CarriesNone old new answers batch
  CarriesAll old new s how (it ∷ group) answers batch =
      CarriesNext (λ mid t others later. CarriesAll mid new t how group others later) old s how it answers batch

  -- they were carried out, and committed together
  pub record CommitsAll (old new : Store D members) (s : State) (how : Manner) (group : List Waiting) (text : List ℕ) (round : Round) : Type 0 where
    pub mid : Store D members
    pub answers : List (List ℕ)
    pub batch : Commanded
    pub answer : Answer
    pub carried : CarriesAll old mid s how group answers batch
    pub applies : Applies mid new Commit (Ok answer)
    pub says : text ≡ committed_texts group answers
    pub came_so : round ≡ committed batch answer

  -- the same, but the commit was not acknowledged
  pub record LeavesAllUnsure (old new : Store D members) (s : State) (how : Manner) (group : List Waiting) (text : List ℕ) (round : Round) : Type 0 where
    pub mid : Store D members
    pub answers : List (List ℕ)
    pub batch : Commanded
    pub refusal : Refusal
    pub carried : CarriesAll old mid s how group answers batch
    pub applies : Applies mid new Commit (Err refusal)
    pub says : text ≡ unsure_texts group
    pub came_so : round ≡ unsure batch refusal

  -- those before one of them were carried out, and a line of that one was refused; then all was undone, or the store had failed. What its
  -- planner is answered, if it is told so
  pub record RefusesOne (old new : Store D members) (s : State) (how : Manner) (before : List Waiting) (it : Waiting) (text : List ℕ) (then : Then) (round : Round) : Type 0 where
    pub mid : Store D members
    pub last : Store D members
    pub answers : List (List ℕ)
    pub earlier : Commanded
    pub place : ℕ
    pub why : List ℕ
    pub carried : CarriesAll old mid s how before answers earlier
    pub stops : StopsIn mid last (after s earlier.commands earlier.answers) how it.lines place why
    pub undoes : Undoes last new (both earlier (carried_by stops)) then round
    pub says : text ≡ waiting_text it (fails place why then)

  -- the first of those that wait, at least one, were committed together, and are answered
  pub record TakesFirst (old new : Store D members) (s : State) (how : Manner) (waiting rest : List Waiting) (text : List ℕ) (refused : Bool) (round : Round) : Type 0 where
    pub group : List Waiting
    pub some : group ≢ []
    pub cut : waiting ≡ group ++ rest
    pub commits : CommitsAll old new s how group text round
    pub refuses : refused ≡ false

  -- the very first was refused by itself, and is answered
  pub record RefusesFirst (old new : Store D members) (s : State) (how : Manner) (waiting rest : List Waiting) (text : List ℕ) (refused : Bool) (round : Round) : Type 0 where
    pub it : Waiting
    pub cut : waiting ≡ it ∷ rest
    pub stops : RefusesOne old new s how [] it text GoOn round
    pub refuses : refused ≡ true

  -- a later one was refused beside those before it: nobody is answered, and all of them wait on
  pub record TriesAgain (old new : Store D members) (s : State) (how : Manner) (waiting rest : List Waiting) (text : List ℕ) (refused : Bool) (round : Round) : Type 0 where
    pub before : List Waiting
    pub it : Waiting
    pub behind : List Waiting
    pub unsaid : List ℕ
    pub some : before ≢ []
    pub cut : waiting ≡ before ++ it ∷ behind
    pub stops : RefusesOne old new s how before it unsaid GoOn round
    pub stays : rest ≡ waiting
    pub says : text ≡ []
    pub refuses : refused ≡ false

  -- one round of those that wait
  pub data TakesRound (old new : Store D members) (s : State) (how : Manner) (waiting rest : List Waiting) (text : List ℕ)
      (refused : Bool) (round : Round) : Type 0 where
    -- the first of them were committed together
    group_committed : TakesFirst old new s how waiting rest text refused round → TakesRound old new s how waiting rest text refused round
    -- the very first was refused by itself
    alone_refused : RefusesFirst old new s how waiting rest text refused round → TakesRound old new s how waiting rest text refused round
    -- a later one was refused, and all is undone
    group_undone : TriesAgain old new s how waiting rest text refused round → TakesRound old new s how waiting rest text refused round

  -- the commit of the first of them was not acknowledged
  pub record EndsUnsure (old new : Store D members) (s : State) (how : Manner) (waiting : List Waiting) (text : List ℕ) (round : Round) : Type 0 where
    pub group : List Waiting
    pub rest : List Waiting
    pub some : group ≢ []
    pub cut : waiting ≡ group ++ rest
    pub leaves : LeavesAllUnsure old new s how group text round

  -- the store failed in a line of one of them
  pub record EndsFailed (old new : Store D members) (s : State) (how : Manner) (waiting : List Waiting) (text : List ℕ) (round : Round) : Type 0 where
    pub before : List Waiting
    pub it : Waiting
    pub behind : List Waiting
    pub cut : waiting ≡ before ++ it ∷ behind
    pub stops : RefusesOne old new s how before it text AsFailed round

  -- the round with which the session ends
  pub data EndsInRound (old new : Store D members) (s : State) (how : Manner) (waiting : List Waiting) (text : List ℕ) (round : Round) : Type 0 where
    -- its commit was not acknowledged
    commit_unsure : EndsUnsure old new s how waiting text round → EndsInRound old new s how waiting text round
    -- the store failed in it
    store_failed : EndsFailed old new s how waiting text round → EndsInRound old new s how waiting text round

  -- no further round comes
  pub record SettlesNone (old new : Store D members) (waiting : List Waiting) (text : List ℕ) (course : Course) : Type 0 where
    pub same : new ≡ old
    pub silent : text ≡ []
    pub since : HasNoRound waiting course

  -- the session ends in a round, and no further one comes
  pub record SettlesLast (old new : Store D members) (s : State) (how : Manner) (waiting : List Waiting) (text : List ℕ)
      (course : Course) (round : Round) (rounds : List Round) : Type 0 where
    pub ends : EndsInRound old new s how waiting text round
    pub last : rounds ≡ []
    pub goes : course ≡ over

  -- a round was taken, and then those that wait on were settled, by the store that it left, as `AreOthers` tells: the texts joined
  pub record SettlesNext (AreOthers : Store D members → List Waiting → List ℕ → Course → Type 0)
      (old : Store D members) (s : State) (how : Manner) (waiting : List Waiting) (text : List ℕ) (course : Course) (round : Round) : Type 0 where
    pub mid : Store D members
    pub rest : List Waiting
    pub said : List ℕ
    pub more : List ℕ
    pub refused : Bool
    pub next : Course
    pub takes : TakesRound old mid s how waiting rest said refused round
    pub texts : text ≡ said ++ more
    pub goes : course ≡ then_course refused next
    pub others : AreOthers mid rest more next

  -- a round comes: it is the last, with which the session ends, or there may be further ones
  pub data SettlesSome (AreOthers : Store D members → List Waiting → List ℕ → Course → Type 0) (old new : Store D members) (s : State) (how : Manner)
      (waiting : List Waiting) (text : List ℕ) (course : Course) (round : Round) (rounds : List Round) : Type 0 where
    last_round : SettlesLast old new s how waiting text course round rounds → SettlesSome AreOthers old new s how waiting text course round rounds
    further_rounds : SettlesNext AreOthers old s how waiting text course round → SettlesSome AreOthers old new s how waiting text course round rounds

  -- all that waits is carried out, round by round, until none is left; or the session ends in one of them; or the writer failed in an answer,
  -- and no further round came
  abbrev pub SettlesWaiting : Store D members → Store D members → State → Manner → List Waiting → List ℕ → Course → List Round → Type 0
  SettlesWaiting old new s how waiting text course [] = SettlesNone old new waiting text course
  SettlesWaiting old new s how waiting text course (round ∷ rounds) =
      SettlesSome (λ mid rest more next. SettlesWaiting mid new (after_round s round) how rest more next rounds)
      old new s how waiting text course round rounds
