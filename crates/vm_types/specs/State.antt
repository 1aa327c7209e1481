-- The state of a store: what is committed and what commands work on, and what commands make of them.
use Rattle.std.specs.Prelude.{ℕ, ◌||◌, Bool, true, false, List, [], ◌∷◌, length, nat_lt, nat_le, Result, Ok, Err, if◌then◌else◌}
use Rattle.vm_types.specs.declared.answer.Answer.{Answer}
use Rattle.vm_types.specs.declared.change.Change.{Change}
use Rattle.vm_types.specs.declared.command.Command.{Command}
use Rattle.vm_types.specs.declared.command.Side.{Side}
use Rattle.vm_types.specs.declared.key.Key.{Key}
use Rattle.vm_types.specs.declared.command.Command.TheVariants.{Put, Remove, Merge, Commit, Rollback, Grow}
use Rattle.vm_types.specs.declared.refusal.Refusal.{Refusal}
use Rattle.vm_types.specs.declared.refusal.Refusal.TheVariants.{BadSize}
use Rattle.vm_types.specs.declared.sizes.TheConstants.{MAX_BLOCKS}
use Rattle.vm_types.specs.Map.{Map, delta, merge_start}
use Rattle.vm_types.specs.Tree.{Tree, current_of, parent_current_of}
use Rattle.vm_types.specs.Step.{Outcome, refuse_if, step}

-- what a disk shows: a tree of alternatives, and how many blocks the store has
pub record Seen : Type 0 where
  pub tree : Tree
  pub blocks : ℕ

-- the committed tree and the working one, each with a number of blocks: `kept` beside the committed tree, `blocks` beside
-- the working one
pub record State : Type 0 where
  pub committed : Tree
  pub kept : ℕ
  pub working : Tree
  pub blocks : ℕ

-- both are what is shown, as they are when a store is opened
abbrev pub opened : Seen → State
opened seen = record { committed = seen.tree; kept = seen.blocks; working = seen.tree; blocks = seen.blocks }

-- what is committed, as a disk shows it
abbrev pub committed_of : State → Seen
committed_of s = record { tree = s.committed; blocks = s.kept }

-- what commands work on, as a disk shows it once it is committed
abbrev pub working_of : State → Seen
working_of s = record { tree = s.working; blocks = s.blocks }

-- the tree after a command, which a refusal leaves as it was
abbrev pub tree_after : Tree → Outcome → Tree
tree_after tree (Ok o) = o.0
tree_after tree (Err refusal) = tree

-- the number of blocks after a command that was accepted and is no Rollback: a Grow tells it, and each other one leaves it
abbrev pub blocks_after : ℕ → Command → ℕ
blocks_after blocks (Grow more) = more
blocks_after blocks command = blocks

-- the answer of a step
abbrev pub answer_of : Outcome → Result Answer Refusal
answer_of (Ok o) = Ok o.1
answer_of (Err refusal) = Err refusal

-- whether a store of this many blocks can't grow to that many: they are no more, or more than a store may have
abbrev pub is_bad_size : ℕ → ℕ → Bool
is_bad_size blocks more = nat_le more blocks || nat_lt MAX_BLOCKS more

-- what a command comes to: a Grow is refused if its size is bad, and all else is as the step says
abbrev pub outcome : State → Command → Outcome
outcome s (Grow more) = refuse_if (is_bad_size s.blocks more) BadSize (step s.working (Grow more))
outcome s command = step s.working command

-- whether a command is Commit
abbrev pub is_commit : Command → Bool
is_commit Commit = true
is_commit command = false

-- whether a command is Rollback
abbrev pub is_rollback : Command → Bool
is_rollback Rollback = true
is_rollback command = false

-- a command that was accepted: it changes what commands work on. Commit makes that the committed, tree and number of blocks, and
-- Rollback makes the committed what commands work on
abbrev pub accepted : State → Command → State
accepted s command = record {
  committed = if is_commit command then s.working else s.committed;
  kept = if is_commit command then s.blocks else s.kept;
  working = if is_rollback command then s.committed else tree_after s.working (step s.working command);
  blocks = if is_rollback command then s.kept else blocks_after s.blocks command;
}

-- a command that was answered so: a refused one changes nothing
abbrev pub next : State → Command → Result Answer Refusal → State
next s command (Ok answer) = accepted s command
next s command (Err refusal) = s

-- commands that were answered so, in order; those without an answer change nothing
abbrev pub after : State → List Command → List (Result Answer Refusal) → State
after s (command ∷ commands) (answer ∷ answers) = after (next s command answer) commands answers
after s commands answers = s

-- the answers of the model, one after another
abbrev pub answers_to : State → List Command → List (Result Answer Refusal)
answers_to s [] = []
answers_to s (command ∷ commands) =
    let answer = answer_of (outcome s command) in
    answer ∷ answers_to (next s command answer) commands

-- the records that an alternative has after a Merge
abbrev pub merged_of : Tree → List ℕ → List (Key × Side) → Map
merged_of tree alt settled = current_of (tree_after tree (step tree (Merge alt settled))) alt

-- the number of record changes: one for a Put or a Remove, for a Merge the keys at which the alternative's records change
abbrev pub edits : Tree → Command → ℕ
edits tree (Put alt key value) = 1
edits tree (Remove alt key) = 1
edits tree (Merge alt settled) = length (delta (current_of tree alt) (merged_of tree alt settled))
edits tree command = 0

-- the records in which a Merge makes its changes: those of the side from which fewer lead to the merged ones, of equal sides the parent's
abbrev pub start_of : Tree → List ℕ → List (Key × Side) → Map
start_of tree alt settled = merge_start (current_of tree alt) (parent_current_of tree alt) (merged_of tree alt settled)

-- the changes that it makes in them
abbrev pub merge_changes : Tree → List ℕ → List (Key × Side) → List Change
merge_changes tree alt settled = delta (start_of tree alt settled) (merged_of tree alt settled)

-- the number of changes that a command makes: its record changes, or for a Merge those that it makes on the smaller side
abbrev pub changes_made : Tree → Command → ℕ
changes_made tree (Merge alt settled) = length (merge_changes tree alt settled)
changes_made tree command = edits tree command

-- how many free blocks a record change wants: one more than it takes at most
abbrev pub blocks_a_change : ℕ
blocks_a_change = 17
