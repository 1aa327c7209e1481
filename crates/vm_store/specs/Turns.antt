-- What the commands that change entries alone make of versions.
use Rattle.std.specs.Prelude.{◌≡◌, ℕ, Bool, List, Result, IfErr, OnErr}
use Rattle.vm_types.specs.declared.answer.Answer.{Answer}
use Rattle.vm_types.specs.declared.command.Command.{Command}
use Rattle.vm_types.specs.declared.refusal.Refusal.{Refusal}
use Rattle.vm_types.specs.declared.refusal.Refusal.TheVariants.{NoSuchAlternative, AlternativeExists, NoSuchCheckpoint, CheckpointExists, IsTop, HasChildren, TooMany}
use Rattle.vm_types.specs.State.{answer_of, tree_after}
use Rattle.vm_types.specs.Step.{step}
use Rattle.vm_types.specs.Tree.{Tree}
use Rattle.vm_disk.specs.Disk.{Contents}
use Rattle.vm_alloc.specs.Held.{IsHeld}
use Rattle.vm_block.specs.Slot.{SlotFits}
use Rattle.vm_store.specs.Filed.{Filed, Standing, tree_of}
use Rattle.vm_store.specs.Versions.{slot_entries}
use Rattle.vm_store.specs.declared.version.Version.{Version}

-- these versions, which a slot may have, stand for this tree: under their roots lie its maps, in blocks that are held
pub record StandFor (bits : List Bool) (x : Contents) (limit : ℕ) (versions : List Version) (tree : Tree) : Type 0 where
  pub filed : List Filed
  pub fits : SlotFits limit (slot_entries versions)
  pub stands : Standing (IsHeld bits) x limit versions filed
  pub gives : tree_of filed ≡ tree

-- what the model refuses a command with that changes entries alone
abbrev pub IsOfEntries : Refusal → Type 0
IsOfEntries NoSuchAlternative = Unit {0}
IsOfEntries AlternativeExists = Unit {0}
IsOfEntries NoSuchCheckpoint = Unit {0}
IsOfEntries CheckpointExists = Unit {0}
IsOfEntries IsTop = Unit {0}
IsOfEntries HasChildren = Unit {0}
IsOfEntries TooMany = Unit {0}
IsOfEntries refusal = ⊥

-- a command was answered so, and left these versions
pub record Turns (old new : List Version) (command : Command) (answer : Result Answer Refusal) : Type 0 where
  -- a refusal is one of those, and leaves the versions as they were
  pub own : IfErr answer IsOfEntries
  pub kept : OnErr answer (new ≡ old)
  -- whatever tree they stand for, the model answers so, and they stand for what it leaves
  pub answers : (bits : List Bool) (x : Contents) (limit : ℕ) (tree : Tree) → StandFor bits x limit old tree → answer ≡ answer_of (step tree command)
  pub stand : (bits : List Bool) (x : Contents) (limit : ℕ) (tree : Tree) → StandFor bits x limit old tree → StandFor bits x limit new (tree_after tree (step tree command))
