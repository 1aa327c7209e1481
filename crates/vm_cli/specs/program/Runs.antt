-- What a job does to a place that is honest after it, by what is known of the place, and what lines are answered on any place.
use Rattle.std.specs.Prelude.{◌≡◌, ◌≢◌, ℕ, List, Option, Some, codes}
use Rattle.clap.specs.Words.{Text}
use Rattle.vm_disk.specs.declared.disk.Disk.{Ghosts}
use Rattle.vm_cli.specs.program.CachedLines.{Disks, IsNotServed, IsServed}
use Rattle.vm_cli.specs.answers.Carried.{Begins}
use Rattle.vm_cli.specs.program.Exits.{IsJob, Report, Tells, file_text, no_store_text, reported, session_from, status_of, stopped_text}
use Rattle.vm_cli.specs.program.Files.{AnswersOrDeclines, Checks, CopiesOrDeclines, Does, DoneOrStopped, DrawsOrDeclines, Makes}
use Rattle.vm_cli.specs.session.Known.{SessionStreams, Writer, Written, written_to}
use Rattle.vm_cli.specs.program.Places.{Denies, IsHonestAfter, IsUnused, OpensNone, PlaceUse}
use Rattle.vm_cli.specs.program.Words.{Wanted}
use Rattle.vm_cli.specs.program.Words.Wanted.{check, copy, create, do_lines, draw, run}
use Rattle.vm_cli.specs.declared.program.Exit.{Exit}
use Rattle.vm_cli.specs.declared.program.Exit.TheVariants.{Refused, Stopped}
use Rattle.vm_cli.specs.declared.program.opening.NoStore.{NoStore}
use Rattle.vm_cli.specs.declared.program.task.InMemory.{InMemory}
use Rattle.vm_cli.specs.declared.session.Manner.{Manner}
use Rattle.vm_cli.specs.declared.session.OnCommand.TheVariants.{Refuse}

-- the job was to answer lines over one of these disks, and the disk came back with this end
module _ {D : Type 0} (over : Disks D) (old : D) (result : Exit × D) (in_memory : InMemory) where
  -- they were
  abbrev pub AnswersInMemory : Manner → SessionStreams → Type 0
  AnswersInMemory on known = IsServed over.own over.cached over.late over.late_cached in_memory on old result.1 result.0 known

  -- the disk was refused, and the errors are told why
  pub record TellsRefusalInMemory (errors : Written) : Type 0 where
    pub why : NoStore
    pub refused : IsNotServed over.own over.cached over.late over.late_cached in_memory old result.1 why
    pub told : Tells Refused result.0 errors (no_store_text why)

-- each of a place that is honest after it
module _ {P D : Type 0} (own : Ghosts D) (place : PlaceUse P) (report : Report) where
  -- the job was to make a file with a new store
  abbrev pub MakesIn : Text → ℕ → Type 0
  MakesIn name blocks = IsHonestAfter place → Makes own place report name blocks

  -- the job was to count the store in a file
  abbrev pub ChecksIn : Text → Type 0
  ChecksIn name = IsHonestAfter place → Checks own place report name

  -- the job was to draw the tree that a file showed
  abbrev pub DrawsIn : Text → Type 0
  DrawsIn name = IsHonestAfter place → DrawsOrDeclines own place report name

  -- the job was to copy the store in a file to another
  abbrev pub DuplicatesIn : Text → Text → Option ℕ → Type 0
  DuplicatesIn name to asked = IsHonestAfter place → CopiesOrDeclines own place report name to asked

-- this status is that of an end, of which this holds, and of the errors as they were then
pub record EndsAs {F : Type 0} (status : ℕ) (errors : Writer F) (IsEnd : Exit → F → Type 0) : Type 0 where
  pub exit : Exit
  pub said : F
  pub is : status ≡ status_of exit
  pub end : IsEnd exit said
  -- nothing was said to the errors after it, unless the program stopped: then it was begun to say so
  pub last : exit ≢ Stopped → said ≡ errors.new
  pub stopped : exit ≡ Stopped → Begins errors.contents stopped_text said errors.new

-- a job that only looks at a file
abbrev pub IsLook : Wanted → Type 0
IsLook (create file blocks) = ⊥
IsLook (run file in_memory on) = on.on_command ≡ Refuse
IsLook (do_lines file input in_memory on) = on.on_command ≡ Refuse
IsLook (check file) = Unit {0}
IsLook (draw file) = Unit {0}
IsLook (copy file to blocks) = ⊥

module _ {P D : Type 0} (over : Disks D) (place : PlaceUse P) where
  -- the job was to answer the lines of this input over a file, at a place that is honest after it
  abbrev pub AnswersIn : Report → Text → InMemory → Manner → Option (List ℕ) → Type 0
  AnswersIn report name in_memory on input = IsHonestAfter place → AnswersOrDeclines over place report name in_memory on input

  -- a run of the program with these words and this input gave this status, and left a place that is honest after it
  abbrev pub RunsIn : {F : Type 0} → List Text → ℕ → Option (List ℕ) → Written → Writer F → Type 0
  RunsIn words status input output errors =
      IsHonestAfter place
      → EndsAs status errors (λ exit said. Does over place (reported exit output (written_to errors.contents errors.old said)) words input)

-- on any place, whether it and its disks kept their rules or not
module _ {P D : Type 0} (over : Disks D) (place : PlaceUse P) (report : Report) where
  -- the job was to answer the lines of this input over a file
  pub data ServesIn (name : Text) (in_memory : InMemory) (on : Manner) (input : Option (List ℕ)) : Type 0 where
    -- they were, over a disk that came back
    serves : (found back : D)
        → IsServed over.own over.cached over.late over.late_cached in_memory on found back report.exit (session_from input report)
        → ServesIn name in_memory on input
    -- its disk was refused, and it is told why
    refuses : (found back : D) (why : NoStore) → IsNotServed over.own over.cached over.late over.late_cached in_memory found back why
        → Tells Refused report.exit report.errors (no_store_text why) → ServesIn name in_memory on input
    -- it is told that the place gave no disk of it
    denies : Denies place name → Tells Refused report.exit report.errors (file_text (codes "altctl: cannot open ") name)
        → ServesIn name in_memory on input

  -- what a run of the program with this input does, by what its words ask for
  pub record ServesWords (words : List Text) (input : Option (List ℕ)) : Type 0 where
    -- that the lines of the input are answered: they are, or refused
    pub runs : (name : Text) (in_memory : InMemory) (on : Manner) → IsJob words (run name in_memory on)
        → DoneOrStopped place report.exit (ServesIn name in_memory on input)
    -- that those are which they give
    pub does : (name : Text) (lines : List ℕ) (in_memory : InMemory) (on : Manner) → IsJob words (do_lines name lines in_memory on)
        → DoneOrStopped place report.exit (ServesIn name in_memory on (Some lines))

-- a run of the program with these words and this input gave this status
abbrev pub ServesRun : {P D F : Type 0} → Disks D → PlaceUse P → List Text → ℕ → Option (List ℕ) → Written → Writer F → Type 0
ServesRun over place words status input output errors =
    EndsAs status errors (λ exit said. ServesWords over place (reported exit output (written_to errors.contents errors.old said)) words input)

-- on any place, what a run of the program with these words asks it for at most
pub record LooksOnly {P : Type 0} (place : PlaceUse P) (words : List Text) : Type 0 where
  -- if they ask for a check or a drawing, or for lines that are answered with commands refused: for no disk that may be written
  pub looks : (job : Wanted) → IsJob words job → IsLook job → OpensNone place
  -- if they ask for no job: for nothing
  pub none : ((job : Wanted) → IsJob words job → ⊥) → IsUnused place
