-- What a run of the program does to the files of its place.
use Rattle.std.specs.Prelude.{◌≡◌, ℕ, Bool, List, Option, Some, None, codes}
use Rattle.clap.specs.Words.{Text}
use Rattle.vm_types.specs.declared.refusal.Refusal.{Refusal}
use Rattle.vm_types.specs.State.{Seen, opened}
use Rattle.vm_disk.specs.Disk.{Contents, IsClean, Medium}
use Rattle.vm_disk.specs.Moments.{Throughout}
use Rattle.vm_disk.specs.declared.disk.Disk.{Ghosts}
use Rattle.vm_store.specs.NewStore.{IsFormatted, IsFormatting, IsOfFormat}
use Rattle.vm_store.specs.Shown.{Shows}
use Rattle.vm_cli.specs.program.CachedLines.{Disks, IsServed, answers_told, commands_told}
use Rattle.vm_cli.specs.program.Branches.{tree_text}
use Rattle.vm_cli.specs.program.Copies.{IsInUse, MakesCopy, copy_job, copy_of, disk_use}
use Rattle.vm_cli.specs.program.Exits.{IsJob, Report, Tells, check_text, created_text, file_text, no_store_text, refused_text, session_from, survey_text}
use Rattle.vm_cli.specs.session.Keeps.{Keeps}
use Rattle.vm_cli.specs.program.Places.{AsksNever, AsksOnce, Denies, IsNew, IsUnused, KeepsCame, KeepsOthers, OpensNone, OpensOne, PlaceState, PlaceUse, WasLent, state_after, state_before}
use Rattle.vm_cli.specs.program.Openings.{HasRefused, NamesAll}
use Rattle.vm_cli.specs.program.DiskUses.{HasCounted, HasMade, HasMadeNone, HasShown}
use Rattle.vm_cli.specs.program.Words.{Wanted}
use Rattle.vm_cli.specs.program.Words.Wanted.{check, copy, create, do_lines, draw, run}
use Rattle.vm_cli.specs.declared.program.Exit.{Exit}
use Rattle.vm_cli.specs.declared.program.task.InMemory.{InMemory}
use Rattle.vm_cli.specs.declared.program.Exit.TheVariants.{Done, Refused, Stopped}
use Rattle.vm_cli.specs.declared.program.opening.NoStore.{NoStore}
use Rattle.vm_cli.specs.declared.session.Manner.{Manner}
use Rattle.vm_cli.specs.declared.session.OnCommand.{OnCommand}
use Rattle.vm_cli.specs.declared.session.OnCommand.TheVariants.{Refuse}

-- every file is as it was
abbrev pub KeepsAll : PlaceState → PlaceState → Type 0
KeepsAll old new = (name : List ℕ) → new.files name ≡ old.files name

-- the job is to answer lines, with this done with commands: a place is asked for one disk that may be written, or, if they are refused,
-- for none
abbrev pub AsksToWrite : OnCommand → ℕ → ℕ → Type 0
AsksToWrite Refuse asked asked' = AsksNever asked asked'
AsksToWrite on asked asked' = AsksOnce asked asked'

-- so it is in this use
abbrev pub OpensFor : {P : Type 0} → PlaceUse P → OnCommand → Type 0
OpensFor place on = AsksToWrite on (place.to_write place.old) (place.to_write place.new)

-- a job was done at a place, and this was told
module _ {P D : Type 0} (members : Ghosts D) (place : PlaceUse P) (report : Report) where
  -- what is told if a store was to be made on a disk, with this many blocks
  pub data ToldOfStore (start end : D) (blocks : ℕ) : Type 0 where
    -- it was made: that it was
    store_made : HasMade (members.state start) (members.state end) blocks → Tells Done report.exit report.output (created_text blocks)
        → ToldOfStore start end blocks
    -- it was not: why not, and that the device failed only if a call of this disk did
    store_refused : (refusal : Refusal) → IsOfFormat refusal → HasMadeNone (members.state start) (members.state end) blocks refusal
        → Tells Refused report.exit report.errors (refused_text refusal) → ToldOfStore start end blocks

  -- a disk of this many blocks, of which the first is zero, was made, for a store on it, and the file of this name holds what it held when
  -- it came back: at each moment it is as it was made, at most synced, or a crash shows at most the new store
  pub record LaysOut (name : List ℕ) (blocks : ℕ) : Type 0 where
    pub start : D
    pub end : D
    pub blank : IsNew blocks (members.state start).now.contents
    pub lent : WasLent name (members.state start) (members.state end) (state_after place)
    pub moments : Throughout (members.state start) (members.state end) (IsFormatting blocks (members.state start).now)
    pub told : ToldOfStore start end blocks

  -- what became of a file of this name that was to be made
  pub data ToldOfFile (name : List ℕ) (blocks : ℕ) : Type 0 where
    -- there was none, its disk was made, and laid out
    laid_out : (state_before place).files name ≡ None → LaysOut name blocks → ToldOfFile name blocks
    -- the place gave no disk of it: it is told that it cannot be created, and no disk came back
    not_made : Denies place name → KeepsCame (state_before place) (state_after place)
        → Tells Refused report.exit report.errors (file_text (codes "altctl: cannot create ") name) → ToldOfFile name blocks

  -- there was no file of this name, and now it shows a new store of this many blocks
  pub record IsMade (name : List ℕ) (blocks : ℕ) : Type 0 where
    pub absent : (state_before place).files name ≡ None
    pub medium : Medium
    pub holds : (state_after place).files name ≡ Some medium.contents
    pub formatted : IsFormatted blocks medium

  -- the job was to make a file of this name, with a new store of this many blocks
  pub record Makes (name : List ℕ) (blocks : ℕ) : Type 0 where
    -- at Done it was made
    pub made : report.exit ≡ Done → IsMade name blocks
    pub lays : ToldOfFile name blocks
    -- a file that was there is as it was
    pub stays : (contents : Contents) → (state_before place).files name ≡ Some contents → (state_after place).files name ≡ Some contents
    pub others : KeepsOthers name (state_before place) (state_after place)

  -- the place gave no disk of the file of this name, which is told, and none came back
  pub record IsDenied (name : List ℕ) : Type 0 where
    pub denied : Denies place name
    pub same_came : KeepsCame (state_before place) (state_after place)
    pub told : Tells Refused report.exit report.errors (file_text (codes "altctl: cannot open ") name)

  -- why nothing was done with the file of this name
  pub data DeniedOr (name : List ℕ) (IsRefused : Type 0) : Type 0 where
    -- the place gave no disk of it
    is_denied : IsDenied name → DeniedOr name IsRefused
    -- its disk was refused, as this says
    is_refused : IsRefused → DeniedOr name IsRefused

  -- the disk of the file of this name was found, it was refused for a reason that is told, and it was given back: that the device failed
  -- is told only if a call of this disk did, and at each moment it was as it was found, at most synced
  pub record Refuses (name : List ℕ) : Type 0 where
    pub found : D
    pub back : D
    pub held : (state_before place).files name ≡ Some (members.state found).now.contents
    pub lent : WasLent name (members.state found) (members.state back) (state_after place)
    pub why : NoStore
    pub refused : HasRefused (members.state found) (members.state back) why
    pub told : Tells Refused report.exit report.errors (no_store_text why)

  -- the job was to serve, draw or copy the store in the file of this name, it is told why it was not, and no file changed
  pub record Declines (name : List ℕ) : Type 0 where
    pub same : KeepsAll (state_before place) (state_after place)
    pub told : DeniedOr name (Refuses name)

  -- the disk of the file of this name was found, it was refused to a check for a reason that is told, with each damaged block that was
  -- found, and it was given back
  pub record Faults (name : List ℕ) : Type 0 where
    pub found : D
    pub back : D
    pub held : (state_before place).files name ≡ Some (members.state found).now.contents
    pub lent : WasLent name (members.state found) (members.state back) (state_after place)
    pub why : NoStore
    pub damaged : Option (List Bool)
    pub refused : HasRefused (members.state found) (members.state back) why
    pub names : NamesAll (members.state found) (members.state back) why damaged
    pub told : Tells Refused report.exit report.errors (survey_text why damaged)

  -- the job was to check the file of this name, it is told why it was not, and which blocks are damaged, and no file changed
  pub record FindsFault (name : List ℕ) : Type 0 where
    pub same : KeepsAll (state_before place) (state_after place)
    pub told : DeniedOr name (Faults name)

  -- the store in the file of this name was counted, and no file changed: at each moment its disk was as it was found, at most synced,
  -- and the numbers are those of the tree that the file showed
  pub record Counts (name : List ℕ) : Type 0 where
    pub same : KeepsAll (state_before place) (state_after place)
    pub found : D
    pub back : D
    pub held : (state_before place).files name ≡ Some (members.state found).now.contents
    pub lent : WasLent name (members.state found) (members.state back) (state_after place)
    pub alternatives : ℕ
    pub checkpoints : ℕ
    pub free : ℕ
    pub counted : HasCounted members found back alternatives checkpoints free
    pub told : Tells Done report.exit report.output (check_text alternatives checkpoints free)

  -- the tree that the file of this name showed was drawn, and no file changed: at each moment its disk was as it was found, at most synced
  pub record Draws (name : List ℕ) : Type 0 where
    pub same : KeepsAll (state_before place) (state_after place)
    pub found : D
    pub back : D
    pub held : (state_before place).files name ≡ Some (members.state found).now.contents
    pub lent : WasLent name (members.state found) (members.state back) (state_after place)
    pub seen : Seen
    pub shown : HasShown (members.state found) (members.state back) seen
    pub told : Tells Done report.exit report.output (tree_text seen.tree)

  -- the store in the one file was copied to the other: at each moment the disk of the first was as it was found, at most synced
  pub record Duplicates (name to : Text) (asked : Option ℕ) : Type 0 where
    pub found : D
    pub back : D
    pub held : (state_before place).files name ≡ Some (members.state found).now.contents
    pub lent : WasLent name (members.state found) (members.state back) (state_after place)
    pub seen : Seen
    pub used : ℕ
    pub shown : HasShown (members.state found) (members.state back) seen
    pub in_use : IsInUse members (members.state found).now.contents seen used
    pub makes : MakesCopy (copy_job to (copy_of seen asked) used (disk_use (members.state found) (members.state back))) place report

  -- ---- what becomes of a job

  -- the job was to check the file of this name
  pub data Checks (name : List ℕ) : Type 0 where
    -- the store in it was counted
    counts : Counts name → Checks name
    -- it was not, and it is told why
    finds_fault : FindsFault name → Checks name

  -- the job was to draw the tree in the file of this name
  pub data DrawsOrDeclines (name : List ℕ) : Type 0 where
    -- it was drawn
    draws : Draws name → DrawsOrDeclines name
    -- it was not, and it is told why
    draws_none : Declines name → DrawsOrDeclines name

  -- the job was to copy the store in the one file to the other
  pub data CopiesOrDeclines (name to : Text) (asked : Option ℕ) : Type 0 where
    -- it was copied, or it is told why it was not
    duplicates : Duplicates name to asked → CopiesOrDeclines name to asked
    -- the file was not opened, it is told why, and no file was made or opened for writing
    copies_none : OpensNone place → Declines name → CopiesOrDeclines name to asked

-- what became of a job
pub data DoneOrStopped {P : Type 0} (place : PlaceUse P) (exit : Exit) (IsDone : Type 0) : Type 0 where
  -- it was done, as this says
  done : IsDone → DoneOrStopped place exit IsDone
  -- the program stopped, as when there was no memory for the words, and no call of the place was made
  stopped : exit ≡ Stopped → IsUnused place → DoneOrStopped place exit IsDone

-- the same of jobs that answer lines
module _ {P D : Type 0} (over : Disks D) (place : PlaceUse P) (report : Report) where
  -- the lines of this input were answered over the file of this name, of which up to this many blocks stayed or waited in memory
  pub record Answers (name : List ℕ) (in_memory : InMemory) (on : Manner) (input : Option (List ℕ)) : Type 0 where
    pub found : D
    pub back : D
    pub served : IsServed over.own over.cached over.late over.late_cached in_memory on found back report.exit (session_from input report)
    -- its disk was found as the file was left, and kept the disk model to the end
    pub held : (state_before place).files name ≡ Some (over.own.state found).now.contents
    pub clean : IsClean (over.own.state found).now
    pub lent : WasLent name (over.own.state found) (over.own.state back) (state_after place)
    pub others : KeepsOthers name (state_before place) (state_after place)
    -- if the file showed something, the commands go on from it: a crash at any moment leaves what those so far keep, and so does the
    -- file at the end
    pub kept : (seen : Seen) → Shows (over.own.state found).now.contents seen
        → Keeps (over.own.state found) (over.own.state back) (opened seen)
        (commands_told over.own over.cached over.late over.late_cached in_memory served (opened seen))
        (answers_told over.own over.cached over.late over.late_cached in_memory served (opened seen))

  -- the job was to answer the lines of this input over the file of this name
  pub data AnswersOrDeclines (name : List ℕ) (in_memory : InMemory) (on : Manner) (input : Option (List ℕ)) : Type 0 where
    -- they were answered
    answers : Answers name in_memory on input → AnswersOrDeclines name in_memory on input
    -- they were not, and it is told why
    answers_none : Declines over.own place report name → AnswersOrDeclines name in_memory on input

  -- what a run of the program does to the files, with this input, by what its words ask for
  pub record Does (words : List Text) (input : Option (List ℕ)) : Type 0 where
    -- a new store: its file is made
    pub creates : (name : Text) (blocks : ℕ) → IsJob words (create name blocks)
        → DoneOrStopped place report.exit (OpensOne place × Makes over.own place report name blocks)
    -- that lines are answered: they are, over the file, which is opened for writing unless commands are refused, or it is said why not
    pub runs : (name : Text) (in_memory : InMemory) (on : Manner) → IsJob words (run name in_memory on)
        → DoneOrStopped place report.exit (OpensFor place on.on_command × AnswersOrDeclines name in_memory on input)
    -- that lines are answered which they give: these are the input
    pub does : (name : Text) (lines : List ℕ) (in_memory : InMemory) (on : Manner) → IsJob words (do_lines name lines in_memory on)
        → DoneOrStopped place report.exit (OpensFor place on.on_command × AnswersOrDeclines name in_memory on (Some lines))
    -- a check: the store in the file is counted, or it is said why not, and which blocks are damaged. Either way files are only read
    pub checks : (name : Text) → IsJob words (check name)
        → DoneOrStopped place report.exit (OpensNone place × Checks over.own place report name)
    -- a drawing: that of the tree that the file showed is made, or it is said why not. Files are only read, too
    pub draws : (name : Text) → IsJob words (draw name)
        → DoneOrStopped place report.exit (OpensNone place × DrawsOrDeclines over.own place report name)
    -- a copy: one is made in a new file, or it is said why not
    pub copies : (name to : Text) (asked : Option ℕ) → IsJob words (copy name to asked)
        → DoneOrStopped place report.exit (CopiesOrDeclines over.own place report name to asked)
    -- no job: no call of the place is made
    pub none : ((job : Wanted) → IsJob words job → ⊥) → IsUnused place
