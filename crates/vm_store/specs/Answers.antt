-- What a store answers.
use Rattle.std.specs.Prelude.{◌≡◌, ◌⊎◌, ℕ, ◌+◌, ◌*◌, ◌<◌, ◌≤◌, nat_lt, Bool, true, false, List, Option, option_copied, Result, Ok, Err, IsOk}
use Rattle.std.specs.Borrow.{Bor}
use Rattle.vm_types.specs.declared.answer.Answer.{Answer}
use Rattle.vm_types.specs.declared.command.Command.{Command}
use Rattle.vm_types.specs.declared.command.Side.{Side}
use Rattle.vm_types.specs.declared.command.Command.TheVariants.{New, NewAt, Drop, Put, Remove, Checkpoint, Uncheck, Back, Merge, Reclaim, Grow}
use Rattle.vm_types.specs.declared.key.Key.{Key}
use Rattle.vm_types.specs.declared.refusal.Refusal.{Refusal}
use Rattle.vm_types.specs.declared.refusal.Refusal.TheVariants.{Full, Deep, Device, Memory, Damaged}
use Rattle.vm_types.specs.Queries.{conflicts_in}
use Rattle.vm_types.specs.State.{State, blocks_a_change, changes_made, outcome}
use Rattle.vm_types.specs.Step.{Outcome, step}
use Rattle.vm_disk.specs.Disk.{Contents}
use Rattle.vm_block.specs.Leaf.{Record}
use Rattle.vm_tree.specs.FullPath.{FullPath}
use Rattle.vm_store.specs.Sizes.{sizes}

-- the tree under the root has no room for this record
abbrev pub LacksRoom : Contents → ℕ → Record → Type 0
LacksRoom x root r = (0 < root) × FullPath sizes x r root

-- a Put would set a record in the tree of an alternative, the block of whose root `root_of` tells, and there is no room for it
abbrev pub IsDeep : Contents → (List ℕ → ℕ) → Command → Type 0
IsDeep x root_of (Put alt key value) = LacksRoom x (root_of alt) (key, value)
IsDeep x root_of command = ⊥

-- a command that the model accepts is answered so, unless too few blocks are spare, or its tree has no room
abbrev pub IsDue : Outcome → Bool → Type 0 → Result Answer Refusal → Type 0
IsDue (Err refusal) full deep result = result ≡ Err refusal
IsDue (Ok accepted) true deep result = result ≡ Err Full
IsDue (Ok accepted) false deep result = ((result ≡ Ok accepted.1) × (deep → ⊥)) ⊎ ((result ≡ Err Deep) × deep)

-- what is answered to a command but a Merge, if this many blocks are spare: what is due, or that the device failed
abbrev pub IsAnswer : State → ℕ → Type 0 → Command → Result Answer Refusal → Type 0
IsAnswer s spare deep command result =
    (result ≡ Err Device) ⊎ IsDue (outcome s command) (nat_lt spare (blocks_a_change * changes_made s.working command)) deep result

-- a Merge that the model accepts is answered so, unless too few blocks are spare, or some record that it sets finds no room
abbrev pub IsMergeDue : Outcome → Bool → Type 0 → Result Answer Refusal → Type 0
IsMergeDue (Err refusal) full deep result = result ≡ Err refusal
IsMergeDue (Ok accepted) true deep result = result ≡ Err Full
IsMergeDue (Ok accepted) false deep result = (result ≡ Ok accepted.1) ⊎ ((result ≡ Err Deep) × deep)

-- what is answered to a Merge if this many blocks are spare: what is due, or that the device failed; or, of an alternative that is
-- there and has a parent, that memory ran out
abbrev pub IsMergeAnswer : State → ℕ → Type 0 → List ℕ → List (Key × Side) → Result Answer Refusal → Type 0
IsMergeAnswer s spare deep alt settled result =
    (result ≡ Err Device) ⊎ (((result ≡ Err Memory) × IsOk (conflicts_in s.working alt)) ⊎ IsMergeDue (step s.working (Merge alt settled)) (nat_lt spare (blocks_a_change * changes_made s.working (Merge alt settled))) deep result)

-- a Grow that the model refuses is answered so, and one that it accepts, too, unless memory runs out or the device fails
abbrev pub IsGrowDue : Outcome → Result Answer Refusal → Type 0
IsGrowDue (Err refusal) result = result ≡ Err refusal
IsGrowDue (Ok accepted) result = (result ≡ Err Device) ⊎ ((result ≡ Err Memory) ⊎ (result ≡ Ok accepted.1))

-- a refusal that comes before blocks are marked, taken or written: each one but Full, Deep, Device and Damaged
abbrev pub IsEarly : Refusal → Type 0
IsEarly Full = ⊥
IsEarly Deep = ⊥
IsEarly Device = ⊥
IsEarly (Damaged block) = ⊥
IsEarly refusal = Unit {0}

-- a Merge that makes no change: it is done, and needs none on the smaller side, or it is refused before blocks are marked
abbrev pub MakesNoChange : ℕ → Result Answer Refusal → Type 0
MakesNoChange changes (Ok answer) = changes ≡ 0
MakesNoChange changes (Err refusal) = IsEarly refusal

-- a refusal that comes before a block is taken or written: each one but Deep, Device and Damaged
abbrev pub ComesFirst : Refusal → Type 0
ComesFirst Deep = ⊥
ComesFirst Device = ⊥
ComesFirst (Damaged block) = ⊥
ComesFirst refusal = Unit {0}

-- the commands that make, drop or go back to alternatives and checkpoints: they change entries alone
abbrev pub ChangesEntriesAlone : Command → Type 0
ChangesEntriesAlone (New name parent) = Unit {0}
ChangesEntriesAlone (NewAt name parent checkpoint) = Unit {0}
ChangesEntriesAlone (Drop alt) = Unit {0}
ChangesEntriesAlone (Checkpoint alt name) = Unit {0}
ChangesEntriesAlone (Uncheck alt name) = Unit {0}
ChangesEntriesAlone (Back alt name) = Unit {0}
ChangesEntriesAlone command = ⊥

-- the commands that take memory
abbrev pub TakesMemory : Command → Type 0
TakesMemory (Merge alt settled) = Unit {0}
TakesMemory (Grow blocks) = Unit {0}
TakesMemory command = ⊥

-- how many blocks a change takes at most that may take this many: none of them if it is refused, unless the device failed
abbrev pub most_taken : ℕ → Result Answer Refusal → ℕ
most_taken most (Ok answer) = most
most_taken most (Err Device) = most
most_taken most (Err refusal) = 0

-- how many blocks a Merge with this many changes takes at most: 16 for each, and none if it is refused before the first of them
abbrev pub taken_by_changes : ℕ → Result Answer Refusal → ℕ
taken_by_changes changes (Ok answer) = 16 * changes
taken_by_changes changes (Err Deep) = 16 * changes
taken_by_changes changes (Err Device) = 16 * changes
taken_by_changes changes (Err refusal) = 0

-- an answer to a change that comes after the marking, if one is needed: it was made, or refused for want of blocks or of room in its tree
abbrev pub ComesAfterMarking : Result Answer Refusal → Type 0
ComesAfterMarking (Ok answer) = Unit {0}
ComesAfterMarking (Err Full) = Unit {0}
ComesAfterMarking (Err Deep) = Unit {0}
ComesAfterMarking (Err refusal) = ⊥

-- what a Merge leaves of the blocks that were free before it: if they were enough for all its changes, it takes at most what its changes
-- may take; if they were too few, blocks are marked first, which makes all spare ones free, and it takes at most as many of those
abbrev pub TakesForChanges : ℕ → Result Answer Refusal → (before after spare : ℕ) → Type 0
TakesForChanges changes answer before after spare =
    (blocks_a_change * changes ≤ before → before ≤ after + taken_by_changes changes answer)
    × (before < blocks_a_change * changes → ComesAfterMarking answer → spare ≤ after + taken_by_changes changes answer)

-- blocks were marked, and none was taken then: a Reclaim was served, or a Put, a Remove or a Merge was refused for want of blocks
abbrev pub HasMarked : Command → Result Answer Refusal → Type 0
HasMarked Reclaim answer = IsOk answer
HasMarked (Put alt key value) answer = answer ≡ Err Full
HasMarked (Remove alt key) answer = answer ≡ Err Full
HasMarked (Merge alt settled) answer = answer ≡ Err Full
HasMarked command answer = ⊥

-- the one command that makes a store larger
abbrev pub IsGrow : Command → Type 0
IsGrow (Grow blocks) = Unit {0}
IsGrow command = ⊥

-- an answer that lends a value, as one that has a copy of it
abbrev pub copied_answer : Result (Option (Bor (List ℕ))) Refusal → Result (Option (List ℕ)) Refusal
copied_answer (Ok value) = Ok (option_copied value)
copied_answer (Err refusal) = Err refusal

-- what a query answers: what is due, or that the device failed
abbrev pub IsDueOrDevice : {T : Type 0} → Result T Refusal → Result T Refusal → Type 0
IsDueOrDevice result due = (result ≡ Err Device) ⊎ (result ≡ due)

-- what a query answers that takes memory: what is due; or, if that is no refusal, that the device failed, or that memory ran out
abbrev pub IsDueOrWanting : {T : Type 0} → Result T Refusal → Result T Refusal → Type 0
IsDueOrWanting result due = (IsOk due × ((result ≡ Err Device) ⊎ (result ≡ Err Memory))) ⊎ (result ≡ due)

-- the refusal that is due; or, if none is, that memory ran out
abbrev pub IsDueOrMemory : {T : Type 0} → Refusal → Result T Refusal → Type 0
IsDueOrMemory refusal due = (IsOk due × (refusal ≡ Memory)) ⊎ (Err refusal ≡ due)

-- memory ran out, or P holds
abbrev pub IsMemoryOr : Refusal → Type 0 → Type 0
IsMemoryOr refusal P = (refusal ≡ Memory) ⊎ P
