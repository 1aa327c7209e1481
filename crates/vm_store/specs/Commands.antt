-- What a command does to a store, and what a run of commands does.
use Rattle.std.specs.Prelude.{◌≡◌, ◌≢◌, ◌↔◌, ◌≤◌, ℕ, true, false, List, [], ◌∷◌, ◌++◌, Result, Err, OnErr, drop, length, take}
use Rattle.vm_types.specs.declared.answer.Answer.{Answer}
use Rattle.vm_types.specs.declared.command.Command.{Command}
use Rattle.vm_types.specs.declared.command.Command.TheVariants.{Commit, Rollback}
use Rattle.vm_types.specs.declared.refusal.Refusal.{Refusal}
use Rattle.vm_types.specs.declared.refusal.Refusal.TheVariants.{Device, Failed, Memory}
use Rattle.vm_types.specs.Isolation.{LeavesAlone}
use Rattle.vm_types.specs.Moments.{KeptThroughout}
use Rattle.vm_types.specs.State.{State, after, next}
use Rattle.vm_types.specs.Tree.{named}
use Rattle.vm_disk.specs.Disk.{LeftAt, Medium, moment}
use Rattle.vm_disk.specs.Moments.{Throughout}
use Rattle.vm_store.specs.Answers.{ChangesEntriesAlone, IsGrow, TakesMemory}
use Rattle.vm_store.specs.Guarded.{IsGuarded}
use Rattle.vm_store.specs.Store.{EarlyKeeps, EarlyLeavesDisk, GrowsFree, GrowsNoMore, GrowsOn, Holds, IsAsLong, IsCarriedOut, IsHonest, KeepsFree, LeavesBlocks, MarksAll, MarksOnce, ReadsFew, ReadsOnly, RollsBack, WritesCommit, disk_of, entries_of, has_failed, held_of}
use Rattle.vm_store.specs.Shown.{Shows}
use Rattle.vm_store.specs.declared.store.Store.{Store}

-- the commands that were answered, which are the first ones
abbrev pub answered : List Command → List (Result Answer Refusal) → List Command
answered commands answers = take (length answers) commands

module _ {D : Type 0} {members : _} where
  -- how a command changes the number of blocks
  pub record GrowsAsAsked (old new : Store D members) (command : Command) (answer : Result Answer Refusal) : Type 0 where
    -- no command but a Grow gives the disk more blocks, and a Grow no more than it asks for
    pub as_long : (IsGrow command → ⊥) → IsAsLong old new
    pub no_more : GrowsNoMore old new command
    -- a Grow that is refused early makes no device call
    pub untouched : IsGrow command → EarlyLeavesDisk answer old new
    -- after a Grow the new blocks are free, too
    pub grown : GrowsFree answer old new command

  -- what a command does to a store, except for the note that the device failed
  pub record Performs (old new : Store D members) (command : Command) (answer : Result Answer Refusal) : Type 0 where
    -- on an honest disk it does what it is to do to each state that the store stood for
    pub carried : IsCarriedOut old new command answer
    -- Failed is the answer of a store that had failed before, and Memory comes to a Merge or a Grow alone
    pub only_then : answer ≢ Err Failed
    pub memory : answer ≡ Err Memory → TakesMemory command
    -- it is Device only if a device call failed
    pub goes : GrowsOn (answer ≡ Err Device) old new
    -- it gives the disk new blocks only as it was asked to
    pub size : GrowsAsAsked old new command answer
    -- a refusal leaves the entries as they were
    pub same : OnErr answer (entries_of new ≡ entries_of old)
    -- one that comes before blocks are marked, taken or written leaves all but the disk as it was, so as many blocks are free
    pub unchanged : EarlyKeeps answer old new
    -- to make, drop or go back to alternatives and checkpoints takes no device call and no block
    pub blocks : ChangesEntriesAlone command → LeavesBlocks old new
    -- on an honest disk, after a Reclaim, and a Put, a Remove or a Merge that is refused for want of blocks, exactly the spare ones are free
    pub marked : IsHonest new → MarksAll answer old new command
    -- on an honest disk, after a Put, a Remove or a Merge that was refused for want of blocks none marks blocks again before something was
    -- taken or given back, and a Put that is refused again makes no device call
    pub once : IsHonest new → MarksOnce command answer old new
    -- on an honest disk, a Post and a Reclaim only read, and so do a Merge that makes no change and each other command but a Grow that is
    -- refused before it takes a block
    pub reads : IsHonest new → ReadsOnly command answer old new
    -- on an honest disk, a Post and a Merge that makes no change read no more blocks than the compared trees do not share
    pub few : ReadsFew command answer old new
    -- of the free blocks, or on an honest disk of the spare ones after a marking, a Put takes 16 at most and a Remove 8; on an honest disk, a
    -- Merge takes 16 for each change that it makes; a Post and a Commit take none
    pub free : KeepsFree command answer old new
    -- on an honest disk, a Commit writes the other slot and the selector, byte by byte, and no other block
    pub written : command ≡ Commit → WritesCommit answer old new
    -- a Rollback is always accepted, makes no device call, and takes no block
    pub back : command ≡ Rollback → RollsBack answer old new

  -- a store carried out a command
  pub record CarriesOut (old new : Store D members) (command : Command) (answer : Result Answer Refusal) : Type 0 where
    pub performs : Performs old new command answer
    -- if the device failed, and only then, the store has failed
    pub failed : has_failed new ≡ true ↔ answer ≡ Err Device

  -- commands are carried out one after another: each by the store that the one before left, from the first store to the last
  abbrev pub AnswersInTurn : Store D members → Store D members → State → List Command → List (Result Answer Refusal) → Type 0
  AnswersInTurn old new s [] [] = new ≡ old
  AnswersInTurn old new s (command ∷ commands) (answer ∷ answers) =
      (mid : Store D members) × CarriesOut old mid command answer × AnswersInTurn mid new (next s command answer) commands answers
  AnswersInTurn old new s [] (answer ∷ answers) = ⊥
  AnswersInTurn old new s (command ∷ commands) [] = ⊥

  -- a store on the way: this many of the commands led from the first store to it, and the others lead from it to the last
  pub record IsOnTheWay (old new : Store D members) (s : State) (commands : List Command) (answers : List (Result Answer Refusal)) (mid : Store D members) : Type 0 where
    pub beginning : ℕ
    pub within : beginning ≤ length commands
    pub before : AnswersInTurn old mid s (take beginning commands) (take beginning answers)
    pub behind : AnswersInTurn mid new (after s (take beginning commands) (take beginning answers)) (drop beginning commands) (drop beginning answers)

  -- the slots that a crash may leave in use are whole, clean, and held by a store on the way
  abbrev pub IsGuardedOnTheWay : Store D members → Store D members → State → List Command → List (Result Answer Refusal) → Medium → Type 0
  IsGuardedOnTheWay old new s commands answers m = (mid : Store D members) × IsOnTheWay old new s commands answers mid × IsGuarded (held_of mid) m

  -- a run of these commands, the first of which were answered so
  module _ (old new : Store D members) (commands : List Command) (answers : List (Result Answer Refusal)) where
    -- each is answered in its turn, by a store that had not failed
    abbrev pub RunsInTurn : Type 0
    RunsInTurn = has_failed old ≡ false → (s : State) → AnswersInTurn old new s (answered commands answers) answers

    -- a store that has not failed stands for what these answers leave
    abbrev pub StandsAfterAll : Type 0
    StandsAfterAll = IsHonest new → has_failed new ≡ false → (s : State) → Holds old s → Holds new (after s (answered commands answers) answers)

    -- a store that has not failed stands for a state in which an alternative is as before, if none of them works on it, and none posts a
    -- child into it
    abbrev pub IsolatesOthers : Type 0
    IsolatesOthers =
        IsHonest new → has_failed new ≡ false → (s : State) → Holds old s → (name : List ℕ) → LeavesAlone s (answered commands answers) answers name
        → (t : State) × Holds new t × (named t.working name ≡ named s.working name)

    -- a crash at any moment shows the committed tree after a beginning of them that is empty or ends with a commit, and this beginning
    -- holds every commit that was acknowledged
    abbrev pub KeepsCommits : Type 0
    KeepsCommits =
        IsHonest new → has_failed old ≡ false → (s : State) → Holds old s
        → KeptThroughout Shows (LeftAt (members.state (disk_of new))) s (moment (members.state (disk_of old))) (answered commands answers) answers (moment (members.state (disk_of new)))

    -- at each moment the slots that it may leave are whole, clean, and held by the store as some of the commands left it
    abbrev pub StaysGuardedInTurn : Type 0
    StaysGuardedInTurn =
        IsHonest new → has_failed old ≡ false → (s : State) → Holds old s
        → Throughout (members.state (disk_of old)) (members.state (disk_of new)) (IsGuardedOnTheWay old new s (answered commands answers) answers)

-- no answer is that the device failed
abbrev pub NoneIsDevice : List (Result Answer Refusal) → Type 0
NoneIsDevice [] = Unit {0}
NoneIsDevice (answer ∷ answers) = (answer ≢ Err Device) × NoneIsDevice answers

-- the last answer is that the device failed, and no other is
abbrev pub EndsWithDevice : List (Result Answer Refusal) → Type 0
EndsWithDevice answers = (earlier : List (Result Answer Refusal)) × (answers ≡ earlier ++ Err Device ∷ []) × NoneIsDevice earlier
