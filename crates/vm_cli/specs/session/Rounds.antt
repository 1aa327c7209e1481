-- Batches that are carried out one after another, by the states that they leave.
use Rattle.std.specs.Prelude.{◌≡◌, false, List, [], ◌∷◌, ◌++◌, length, Result, Ok, Err}
use Rattle.vm_types.specs.declared.answer.Answer.{Answer}
use Rattle.vm_types.specs.declared.command.Command.{Command}
use Rattle.vm_types.specs.declared.command.Command.TheVariants.{Commit, Rollback}
use Rattle.vm_types.specs.declared.refusal.Refusal.{Refusal}
use Rattle.vm_types.specs.State.{State, accepted, after, is_commit}

-- commands that change the store, each with its answer
pub record Batch : Type 0 where
  pub commands : List Command
  pub answers : List (Result Answer Refusal)

-- none of them commits
abbrev pub CommitNothing : List Command → Type 0
CommitNothing [] = Unit {0}
CommitNothing (command ∷ commands) = (is_commit command ≡ false) × CommitNothing commands

-- each of them was answered, and none commits
pub record IsWhole (batch : Batch) : Type 0 where
  pub even : length batch.answers ≡ length batch.commands
  pub changes : CommitNothing batch.commands

-- what came of a batch
pub data Round : Type 0 where
  -- nothing was carried out
  idle : Round
  -- it was carried out and committed
  committed : Batch → Answer → Round
  -- one of its lines was refused, and what was carried out is undone
  undone : Batch → Answer → Round
  -- the store failed in its last command
  broken : Batch → Round
  -- it was carried out, and its commit was not acknowledged
  unsure : Batch → Refusal → Round

-- nothing of a batch that a round carried out commits
abbrev pub IsWholeRound : Round → Type 0
IsWholeRound idle = Unit {0}
IsWholeRound (committed batch answer) = IsWhole batch
IsWholeRound (undone batch answer) = IsWhole batch
IsWholeRound (broken batch) = IsWhole batch
IsWholeRound (unsure batch refusal) = IsWhole batch

abbrev pub AllWhole : List Round → Type 0
AllWhole [] = Unit {0}
AllWhole (round ∷ rounds) = IsWholeRound round × AllWhole rounds

-- the commands of a round
abbrev pub round_commands : Round → List Command
round_commands idle = []
round_commands (committed batch answer) = batch.commands ++ Commit ∷ []
round_commands (undone batch answer) = batch.commands ++ Rollback ∷ []
round_commands (broken batch) = batch.commands
round_commands (unsure batch refusal) = batch.commands ++ Commit ∷ []

-- their answers
abbrev pub round_answers : Round → List (Result Answer Refusal)
round_answers idle = []
round_answers (committed batch answer) = batch.answers ++ Ok answer ∷ []
round_answers (undone batch answer) = batch.answers ++ Ok answer ∷ []
round_answers (broken batch) = batch.answers
round_answers (unsure batch refusal) = batch.answers ++ Err refusal ∷ []

-- the state after a batch that was carried out and committed
abbrev pub after_batch : State → Batch → State
after_batch s batch = accepted (after s batch.commands batch.answers) Commit

-- the state after a round: a batch that is undone leaves what was committed
abbrev pub after_round : State → Round → State
after_round s idle = s
after_round s (committed batch answer) = after_batch s batch
after_round s (undone batch answer) = accepted (after s batch.commands batch.answers) Rollback
after_round s (broken batch) = s
after_round s (unsure batch refusal) = s

-- the state after rounds
abbrev pub after_rounds : State → List Round → State
after_rounds s [] = s
after_rounds s (round ∷ rounds) = after_rounds (after_round s round) rounds

-- all their commands, and all their answers
abbrev pub all_commands : List Round → List Command
all_commands [] = []
all_commands (round ∷ rounds) = round_commands round ++ all_commands rounds

abbrev pub all_answers : List Round → List (Result Answer Refusal)
all_answers [] = []
all_answers (round ∷ rounds) = round_answers round ++ all_answers rounds

-- the batches that were committed, in order
abbrev pub committed_batches : List Round → List Batch
committed_batches [] = []
committed_batches (committed batch answer ∷ rounds) = batch ∷ committed_batches rounds
committed_batches (round ∷ rounds) = committed_batches rounds

-- the state after batches
abbrev pub after_batches : State → List Batch → State
after_batches s [] = s
after_batches s (batch ∷ batches) = after_batches (after_batch s batch) batches

-- all is committed
pub record IsSettled (s : State) : Type 0 where
  pub tree : s.working ≡ s.committed
  pub blocks : s.blocks ≡ s.kept

-- the batches are whole: nothing of them commits by itself, and if all was committed before them, the state after them is that after those
-- that were committed, one after another
pub record AreWholeBatches (s : State) (rounds : List Round) : Type 0 where
  pub whole : AllWhole rounds
  pub state : IsSettled s → after_rounds s rounds ≡ after_batches s (committed_batches rounds)
