-- What a crash has to leave: what is committed after a beginning of the commands, with each acknowledged commit.
-- Here `shows x seen` says that the contents x of a disk show this tree and this number of blocks.
use Rattle.std.specs.Prelude.{◌≡◌, ◌⊎◌, ℕ, zero, suc, ◌<◌, ◌≤◌, List, length, take, Option, Some, None, Result, Ok, Err, slice_get}
use Rattle.vm_types.specs.declared.answer.Answer.{Answer}
use Rattle.vm_types.specs.declared.command.Command.{Command}
use Rattle.vm_types.specs.declared.command.Command.TheVariants.{Commit}
use Rattle.vm_types.specs.declared.refusal.Refusal.{Refusal}
use Rattle.vm_types.specs.declared.refusal.Refusal.TheVariants.{Device}
use Rattle.vm_types.specs.State.{Seen, State, committed_of, working_of, after}

-- a commit that may have happened: it was accepted, or the device failed in it, or it has no answer yet
abbrev pub MayHaveHappened : Option (Result Answer Refusal) → Type 0
MayHaveHappened None = Unit {0}
MayHaveHappened (Some (Ok answer)) = Unit {0}
MayHaveHappened (Some (Err refusal)) = refusal ≡ Device

-- what is committed after the first n commands, of which the last is a commit that counts as accepted
abbrev pub committed_by : State → List Command → List (Result Answer Refusal) → ℕ → Seen
committed_by s commands answers zero = committed_of s
committed_by s commands answers (suc n) = working_of (after s (take n commands) answers)

-- the first n commands are none, or the last of them is a commit that may have happened
abbrev pub EndsInCommit : List Command → List (Result Answer Refusal) → ℕ → Type 0
EndsInCommit commands answers zero = Unit {0}
EndsInCommit commands answers (suc n) = (slice_get commands n ≡ Some Commit) × MayHaveHappened (slice_get answers n)

-- x shows what is committed after a beginning of the commands, which ends in a commit and holds each one that was acknowledged
pub record Kept {X : Type 0} (shows : X → Seen → Type 0) (s : State) (commands : List Command) (answers : List (Result Answer Refusal)) (x : X) : Type 0 where
  pub beginning : ℕ
  pub within : beginning ≤ length commands
  pub ends : EndsInCommit commands answers beginning
  pub acknowledged : (i : ℕ) (answer : Answer) → slice_get commands i ≡ Some Commit → slice_get answers i ≡ Some (Ok answer) → i < beginning
  pub shown : shows x (committed_by s commands answers beginning)

-- what a crash in a call may show: what was committed, or, if the call is a commit, what it commits
abbrev pub LeftBy : {X : Type 0} → (X → Seen → Type 0) → State → Command → X → Type 0
LeftBy shows s command x = shows x (committed_of s) ⊎ ((command ≡ Commit) × shows x (working_of s))
