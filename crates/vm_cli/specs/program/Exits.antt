-- How the program ends, and what it has written then.
use Rattle.std.specs.Fmt.{decimal}
use Rattle.std.specs.Prelude.{◌≡◌, ◌≢◌, ◌⊎◌, ◌++◌, ◌&&◌, ℕ, nat_eq, Bool, false, not, List, [], ◌∷◌, length, Option, None, Some, codes, if◌then◌else◌}
use Rattle.std.specs.List.{flat_map, range_with_len}
use Rattle.std.specs.Io.KnownBytes.{Appends}
use Rattle.clap.specs.Words.{IsAmong, Text, fault_of, kind_of, subcommand_of}
use Rattle.clap.specs.declared.error.Error.{Error}
use Rattle.clap.specs.declared.error.kind.ErrorKind.{ErrorKind}
use Rattle.clap.specs.declared.error.kind.ErrorKind.TheVariants.{DisplayHelp, DisplayVersion, OutOfMemory}
use Rattle.vm_types.specs.Texts.{refusal_text}
use Rattle.vm_types.specs.declared.refusal.Refusal.{Refusal}
use Rattle.vm_types.specs.declared.refusal.Refusal.TheVariants.{Damaged, NotAStore}
use Rattle.vm_alloc.specs.Marks.{is_marked}
use Rattle.vm_store.specs.NewStore.{IsOfFormat}
use Rattle.vm_cli.specs.answers.Carried.{Begins, Gains, WritesStart}
use Rattle.vm_cli.specs.program.Branches.{Branch, drawing}
use Rattle.vm_cli.specs.session.Known.{IsUntouched, SessionStreams, Writer, Writers, Written, until, written}
use Rattle.vm_cli.specs.program.Openings.{told_of}
use Rattle.vm_cli.specs.program.Words.{Wanted, altctl, asked_of}
use Rattle.vm_cli.specs.program.Words.Wanted.{check, copy, create, do_lines, draw, run}
use Rattle.vm_cli.specs.declared.program.Exit.{Exit}
use Rattle.vm_cli.specs.declared.program.file_lock.NoLock.{NoLock}
use Rattle.vm_cli.specs.declared.program.file_lock.NoLock.TheVariants.{Memory as NoMemory, InUse, CannotOpen, CannotLock}
use Rattle.vm_cli.specs.declared.program.opening.NoStore.{NoStore}
use Rattle.vm_cli.specs.declared.program.opening.NoStore.TheVariants.{Earlier, Refused as NotOpened, WithoutSums}
use Rattle.vm_cli.specs.declared.program.store_counts.Counts.{Counts}
use Rattle.vm_cli.specs.declared.program.task.InMemory.{InMemory}
use Rattle.vm_cli.specs.declared.program.Exit.TheVariants.{Done, LineRefused, Refused, WrongWords, Stopped}
use Rattle.vm_cli.specs.declared.session.Manner.{Manner}
use Rattle.vm_cli.specs.declared.session.OnRefusal.{OnRefusal}
use Rattle.vm_cli.specs.declared.session.OnRefusal.TheVariants.{Ignore}

-- the status of an end
abbrev pub status_of : Exit → ℕ
status_of Done = 0
status_of Refused = 1
status_of WrongWords = 2
status_of Stopped = 3
status_of LineRefused = 4

-- ---- texts, each with the line feed (10) at its end

-- a store was made
abbrev pub created_text : ℕ → List ℕ
created_text blocks = codes "created " ++ (decimal blocks ++ 10 ∷ [])

-- a store was copied to this many blocks, of which `used` are in use
abbrev pub copied_text : ℕ → ℕ → List ℕ
copied_text blocks used = codes "copied " ++ (decimal blocks ++ (codes ", " ++ (decimal used ++ (codes " used" ++ 10 ∷ []))))

-- what a store holds: this many alternatives, checkpoints and free blocks
abbrev pub check_text : ℕ → ℕ → ℕ → List ℕ
check_text alternatives checkpoints free =
    codes "alternatives " ++ (decimal alternatives ++ (10 ∷ (codes "checkpoints " ++ (decimal checkpoints ++ (10 ∷ (codes "free " ++ (decimal free ++ 10 ∷ [])))))))

-- the same, by its counts
abbrev pub counts_text : Counts → List ℕ
counts_text counts = check_text counts.alternatives counts.checkpoints counts.free

-- words, the name of a file, and more words
abbrev pub named_text : List ℕ → Text → List ℕ → List ℕ
named_text before file behind = before ++ (file ++ behind)

-- a file could not be made or opened
abbrev pub file_text : List ℕ → Text → List ℕ
file_text what file = named_text what file (10 ∷ [])

-- another process has locked a file
abbrev pub in_use_text : Text → List ℕ
in_use_text file = named_text (codes "altctl: ") file (codes " is in use" ++ 10 ∷ [])

-- the system does not lock a file
abbrev pub unlocked_text : Text → List ℕ
unlocked_text file = file_text (codes "altctl: cannot lock ") file

-- a disk is no store, or cannot become one
abbrev pub refused_text : Refusal → List ℕ
refused_text refusal = codes "altctl: " ++ (refusal_text refusal ++ 10 ∷ [])

-- a disk is no store of this format, but one of an earlier format
abbrev pub earlier_text : List ℕ
earlier_text =
    refused_text NotAStore ++ (codes "altctl: the file is of an earlier format: tools/upgrade.py OLD NEW carries it over" ++ 10 ∷ [])

-- a slot is damaged, and has no checksums
abbrev pub without_sums_text : ℕ → List ℕ
without_sums_text n =
    refused_text (Damaged n) ++ (codes "altctl: the file has no checksums: tools/upgrade.py OLD NEW carries it over" ++ 10 ∷ [])

-- why a disk is refused
abbrev pub no_store_text : NoStore → List ℕ
no_store_text (NotOpened refusal) = refused_text refusal
no_store_text Earlier = earlier_text
no_store_text (WithoutSums n) = without_sums_text n

-- whether this is the number that was told
abbrev pub is_told : Option ℕ → ℕ → Bool
is_told None n = false
is_told (Some first) n = nat_eq first n

-- the line that names block n, if it is marked, and is not the one that was told
abbrev pub name_text : Option ℕ → List Bool → ℕ → List ℕ
name_text told marks n = if is_marked marks n && not (is_told told n) then refused_text (Damaged n) else []

-- the marked blocks but for the one that was told, a line for each, in rising order
abbrev pub others_text : Option ℕ → List Bool → List ℕ
others_text told marks = flat_map (λ n. name_text told marks n) (range_with_len 0 (length marks))

-- why a disk is refused, and behind it the damaged blocks that are not told yet
abbrev pub survey_text : NoStore → Option (List Bool) → List ℕ
survey_text why None = no_store_text why
survey_text why (Some marks) = no_store_text why ++ others_text (told_of why) marks

-- the program stopped
abbrev pub stopped_text : List ℕ
stopped_text = codes "altctl: stopped" ++ 10 ∷ []

-- a word is no text
abbrev pub unreadable_text : List ℕ
unreadable_text = codes "altctl: the words are not UTF-8" ++ 10 ∷ []

-- ---- which words ask for which text

-- the words are no mistake, and ask for this job
abbrev pub IsJob : List Text → Wanted → Type 0
IsJob words job = (fault_of altctl words ≡ []) × (asked_of (subcommand_of altctl words) ≡ Some job)

-- an error that is no mistake: help or the version was asked for
abbrev pub IsHelp : ErrorKind → Type 0
IsHelp kind = (kind ≡ DisplayHelp) ⊎ (kind ≡ DisplayVersion)

-- the words ask for help, or for the version
abbrev pub AskHelp : List Text → Type 0
AskHelp words = (kind : ErrorKind) × IsHelp kind × IsAmong kind (fault_of altctl words)

-- the words are a mistake
abbrev pub AreWrong : List Text → Type 0
AreWrong words = (kind : ErrorKind) × (¬ IsHelp kind) × IsAmong kind (fault_of altctl words)

-- the name under which a copy is made that is to have this one
abbrev pub part_of : Text → Text
part_of to = to ++ codes ".part"

-- what is said if the copy of a store is not made
pub data SaysNoCopy (to : Text) : List ℕ → Type 0 where
  -- the place denied its name
  name_denied : SaysNoCopy to (file_text (codes "altctl: cannot create ") to)
  -- it denied a file to copy to
  part_denied : SaysNoCopy to (file_text (codes "altctl: cannot create ") (part_of to))
  -- the copy was refused
  copy_refused : (why : NoStore) → SaysNoCopy to (no_store_text why)

-- what is said if a job has no disk
abbrev pub no_disk_text : Wanted → List ℕ
no_disk_text (create file blocks) = file_text (codes "altctl: cannot create ") file
no_disk_text (run file in_memory on) = file_text (codes "altctl: cannot open ") file
no_disk_text (do_lines file input in_memory on) = file_text (codes "altctl: cannot open ") file
no_disk_text (check file) = file_text (codes "altctl: cannot open ") file
no_disk_text (draw file) = file_text (codes "altctl: cannot open ") file
no_disk_text (copy file to blocks) = file_text (codes "altctl: cannot open ") file

-- it is said why a disk is refused
abbrev pub SaysWhy : List ℕ → Type 0
SaysWhy text = (why : NoStore) × (text ≡ no_store_text why)

-- what is said if the disk of a job is refused, or the copy is not made that it asks for
abbrev pub SaysWhyOf : Wanted → List ℕ → Type 0
SaysWhyOf (create file blocks) text = (refusal : Refusal) × IsOfFormat refusal × (text ≡ refused_text refusal)
SaysWhyOf (run file in_memory on) text = SaysWhy text
SaysWhyOf (do_lines file input in_memory on) text = SaysWhy text
SaysWhyOf (check file) text = (why : NoStore) × (damaged : Option (List Bool)) × (text ≡ survey_text why damaged)
SaysWhyOf (draw file) text = SaysWhy text
SaysWhyOf (copy file to blocks) text = SaysNoCopy to text

-- what is said if a job is refused
abbrev pub SaysRefused : Wanted → List ℕ → Type 0
SaysRefused job text = (text ≡ no_disk_text job) ⊎ SaysWhyOf job text

-- a text for the output
pub data IsNews (words : List Text) : List ℕ → Type 0 where
  -- help or the version, as the words ask for it
  help : (text : List ℕ) → AskHelp words → IsNews words text
  -- that a store was made
  created : (file : Text) (blocks : ℕ) → IsJob words (create file blocks) → IsNews words (created_text blocks)
  -- what a store holds
  counted : (file : Text) (alternatives checkpoints free : ℕ) → IsJob words (check file) → IsNews words (check_text alternatives checkpoints free)
  -- the drawing of a tree
  drawn : (file : Text) (branches : List Branch) → IsJob words (draw file) → IsNews words (drawing branches)
  -- that a store was copied
  copied : (file to : Text) (asked : Option ℕ) (blocks used : ℕ) → IsJob words (copy file to asked) → IsNews words (copied_text blocks used)

-- a text for the errors: why a job was refused
abbrev pub IsRefusal : List Text → List ℕ → Type 0
IsRefusal words text = (job : Wanted) × IsJob words job × SaysRefused job text

-- the words ask that lines are answered in this manner
pub data AskSession (words : List Text) (on : Manner) : Type 0 where
  -- those of the input
  for_input : (file : Text) (in_memory : InMemory) → IsJob words (run file in_memory on) → AskSession words on
  -- their own
  for_lines : (file : Text) (input : List ℕ) (in_memory : InMemory) → IsJob words (do_lines file input in_memory on) → AskSession words on

-- the words ask that lines are answered
abbrev pub AskLines : List Text → Type 0
AskLines words = (on : Manner) × AskSession words on

-- the words ask that lines are answered, and that it is told if one is refused
abbrev pub AskTold : List Text → Type 0
AskTold words = (on : Manner) × (on.on_refusal ≢ Ignore) × AskSession words on

-- lines that were answered may end so
pub data MayEnd (on : OnRefusal) (exit : Exit) : Type 0 where
  well : exit ≡ Done → MayEnd on exit
  stopping : exit ≡ Stopped → MayEnd on exit
  -- one was refused, and that is to be told
  with_refusal : exit ≡ LineRefused → on ≢ Ignore → MayEnd on exit

-- ---- what a writer is told

-- what a job, or a part of one, told: its end, and what was written to the output and to the errors
pub record Report : Type 0 where
  pub exit : Exit
  pub output : Written
  pub errors : Written

abbrev pub reported : Exit → Written → Written → Report
reported exit output errors = record { exit = exit; output = output; errors = errors }

-- what is known of a session that reads this input and writes to that output
abbrev pub session_from : Option (List ℕ) → Report → SessionStreams
session_from input report = record { input = input; output = report.output }

-- a text was meant for a writer, with this end: it was written whole, or begun when the program stopped
abbrev pub Tells : Exit → Exit → Written → List ℕ → Type 0
Tells meant exit to text = ((exit ≡ meant) × Appends to.before to.after text) ⊎ ((exit ≡ Stopped) × WritesStart to.before to.after text)

-- the same, of some text
abbrev pub TellsSome : Exit → Exit → Written → Type 0
TellsSome meant exit to = (text : List ℕ) × Tells meant exit to text

-- why a disk was refused
abbrev pub TellsWhy : Exit → Written → Type 0
TellsWhy exit to = (why : NoStore) × Tells Refused exit to (no_store_text why)

-- why a disk was refused, and which blocks are damaged
abbrev pub TellsWhole : Exit → Written → Type 0
TellsWhole exit to = (why : NoStore) × (damaged : Option (List Bool)) × Tells Refused exit to (survey_text why damaged)

-- why a job was refused
abbrev pub TellsRefused : Wanted → Exit → Written → Type 0
TellsRefused job exit to = (text : List ℕ) × SaysRefused job text × Tells Refused exit to text

-- why a store was not copied to a file of this name
abbrev pub TellsNoCopy : Text → Exit → Written → Type 0
TellsNoCopy name exit to = (text : List ℕ) × SaysNoCopy name text × Tells Refused exit to text

-- what a store holds
abbrev pub TellsCounts : Exit → Written → Type 0
TellsCounts exit to = (alternatives : ℕ) × (checkpoints : ℕ) × (free : ℕ) × Tells Done exit to (check_text alternatives checkpoints free)

-- a drawing
abbrev pub TellsDrawing : Exit → Written → Type 0
TellsDrawing exit to = (branches : List Branch) × Tells Done exit to (drawing branches)

-- that a store was copied
abbrev pub TellsCopied : Exit → Written → Type 0
TellsCopied exit to = (blocks : ℕ) × (used : ℕ) × Tells Done exit to (copied_text blocks used)

-- ---- the ends of jobs

-- why nothing was copied is told; or a device failed, the program stopped, and nothing was told
abbrev pub DropEnds : {F : Type 0} → Refusal → Exit → Writer F → Type 0
DropEnds refusal exit errors = ((exit ≡ Stopped) × IsUntouched errors) ⊎ Tells Refused exit (written errors) (refused_text refusal)

-- a store was copied, and that is told; or the program stopped before
abbrev pub IsCopied : {W : Type 0} → Exit → Writer W → Type 0
IsCopied exit output = TellsCopied exit (written output) ⊎ ((exit ≡ Stopped) × IsUntouched output)

-- a job was done: what the output is told then, or how lines that were answered may end
abbrev pub TellsDone : {W : Type 0} → Wanted → Exit → Writer W → Type 0
TellsDone (create file blocks) exit output = Tells Done exit (written output) (created_text blocks)
TellsDone (run file in_memory on) exit output = MayEnd on.on_refusal exit
TellsDone (do_lines file input in_memory on) exit output = MayEnd on.on_refusal exit
TellsDone (check file) exit output = TellsCounts exit (written output)
TellsDone (draw file) exit output = TellsDrawing exit (written output)
TellsDone (copy file to blocks) exit output = IsCopied exit output

module _ {W F : Type 0} where
  -- a job was done, which says this of the output, and nothing was said to the errors; or it was refused, which says this of the errors, and
  -- nothing was written to the output
  abbrev pub IsDoneOr : Type 0 → Type 0 → Writers W F → Type 0
  IsDoneOr done refused to = (IsUntouched to.errors × done) ⊎ (IsUntouched to.output × refused)

  -- a job was done or refused
  abbrev pub JobEnds : Wanted → Exit → Writers W F → Type 0
  JobEnds job exit to = IsDoneOr (TellsDone job exit to.output) (TellsRefused job exit (written to.errors)) to

  -- lines were answered, or their disk was refused
  abbrev pub SessionEnds : OnRefusal → Exit → Writers W F → Type 0
  SessionEnds on exit to = IsDoneOr (MayEnd on exit) (TellsWhy exit (written to.errors)) to

  -- a store was counted, or its disk was refused
  abbrev pub CheckEnds : Exit → Writers W F → Type 0
  CheckEnds exit to = IsDoneOr (TellsCounts exit (written to.output)) (TellsWhole exit (written to.errors)) to

  -- a tree was drawn, or its disk was refused
  abbrev pub DrawEnds : Exit → Writers W F → Type 0
  DrawEnds exit to = IsDoneOr (TellsDrawing exit (written to.output)) (TellsWhy exit (written to.errors)) to

  -- a store was copied to a file of this name, or was not
  abbrev pub CopyEnds : Text → Exit → Writers W F → Type 0
  CopyEnds name exit to = IsDoneOr (IsCopied exit to.output) (TellsNoCopy name exit (written to.errors)) to

  -- ---- the ends of words that ask for no job

  -- if there was no memory for the words, nothing was written to the output or said to the errors, and the program stops
  abbrev pub StopsUnsaid : Error → Exit → Writers W F → Type 0
  StopsUnsaid error exit to = kind_of error ≡ OutOfMemory → (exit ≡ Stopped) × IsUntouched to.output × IsUntouched to.errors

  -- if help was asked for, the output is told some text, and nothing was said to the errors
  abbrev pub Helps : Error → Exit → Writers W F → Type 0
  Helps error exit to = IsHelp (kind_of error) → IsUntouched to.errors × TellsSome Done exit (written to.output)

  -- if the error is no help, the errors are told some text, and the output is as it was
  abbrev pub Blames : Error → Exit → Writers W F → Type 0
  Blames error exit to = (¬ IsHelp (kind_of error)) → IsUntouched to.output × TellsSome WrongWords exit (written to.errors)

-- ---- ends that the program tells the errors itself

-- a text for the errors was begun, and then it was begun to say that the program stopped
pub record IsCutShort {F : Type 0} (text : List ℕ) (errors : Writer F) : Type 0 where
  pub said : F
  pub begun : Begins errors.contents text errors.old said
  pub stopped : Begins errors.contents stopped_text said errors.new

-- the errors are told a text, and the status is the one that goes with it; or it is 3, if that could not be said
abbrev pub EndsSaying : {F : Type 0} → ℕ → List ℕ → ℕ → Writer F → Type 0
EndsSaying meant text status errors =
    ((status ≡ meant) × Gains errors.contents text errors.old errors.new)
    ⊎ ((status ≡ 3) × IsCutShort text errors)

-- the words are not text, and the errors are told so: the status is 2
abbrev pub RefusesWords : {F : Type 0} → ℕ → Writer F → Type 0
RefusesWords status errors = EndsSaying 2 unreadable_text status errors

-- the file is not locked as the words ask, and the errors are told why: the status is 1, or 3 if memory could not be allocated
abbrev pub RefusesLock : {F : Type 0} → NoLock → ℕ → Writer F → Type 0
RefusesLock NoMemory status errors = (status ≡ 3) × Begins errors.contents stopped_text errors.old errors.new
RefusesLock (InUse file) status errors = EndsSaying 1 (in_use_text file.now) status errors
RefusesLock (CannotOpen file) status errors = EndsSaying 1 (file_text (codes "altctl: cannot open ") file.now) status errors
RefusesLock (CannotLock file) status errors = EndsSaying 1 (unlocked_text file.now) status errors

-- ---- the end of a run

-- what the output has when all was done
pub data HasAll {W : Type 0} (words : List Text) (output : Writer W) : Type 0 where
  -- a text was written to it
  has_text : (text : List ℕ) → IsNews words text → Gains output.contents text output.old output.new → HasAll words output
  -- the words ask that lines are answered
  has_answers : AskLines words → HasAll words output

module _ {W F : Type 0} where
  -- all was done, and nothing was said to the errors
  pub record IsDone (words : List Text) (to : Writers W F) : Type 0 where
    pub quiet : IsUntouched to.errors
    pub has : HasAll words to.output

  -- a line was refused, which the words ask to be told by the status; nothing was said to the errors
  pub record IsLineRefused (words : List Text) (to : Writers W F) : Type 0 where
    pub quiet : IsUntouched to.errors
    pub asked : AskTold words

  -- the file was refused: the errors say so, and nothing was written to the output
  pub record IsRefused (words : List Text) (to : Writers W F) : Type 0 where
    pub empty : IsUntouched to.output
    pub text : List ℕ
    pub refusal : IsRefusal words text
    pub said : Gains to.errors.contents text to.errors.old to.errors.new

  -- the words were wrong: the errors say so, and nothing was written to the output
  pub record IsWrong (words : List Text) (to : Writers W F) : Type 0 where
    pub empty : IsUntouched to.output
    pub wrong : AreWrong words
    pub text : List ℕ
    pub said : Gains to.errors.contents text to.errors.old to.errors.new

  -- the program stopped, and hasn't said so yet
  pub data Stops (words : List Text) (to : Writers W F) : Type 0 where
    -- before anything was written or said, as when there was no memory for the words, though no reason is told
    untold : IsUntouched to.errors → IsUntouched to.output → Stops words to
    -- in a text for the output
    telling : IsUntouched to.errors → (text : List ℕ) → IsNews words text → Begins to.output.contents text to.output.old to.output.new → Stops words to
    -- in a session, for which the words ask
    answering : IsUntouched to.errors → AskLines words → Stops words to
    -- in a text for the errors that says why the file was refused
    refusing : IsUntouched to.output → (text : List ℕ) → IsRefusal words text → Begins to.errors.contents text to.errors.old to.errors.new → Stops words to
    -- in a text for the errors that says what is wrong with the words
    blaming : IsUntouched to.output → (text : List ℕ) → AreWrong words → Begins to.errors.contents text to.errors.old to.errors.new → Stops words to

  -- the program stopped, and began to say so
  pub record IsStopped (words : List Text) (to : Writers W F) : Type 0 where
    -- the errors, before it did
    pub said : F
    pub stops : Stops words (until said to)
    pub begun : Begins to.errors.contents stopped_text said to.errors.new

  -- the end, before it is said that the program stopped
  abbrev pub Ends : Exit → List Text → Writers W F → Type 0
  Ends Done words to = IsDone words to
  Ends LineRefused words to = IsLineRefused words to
  Ends Refused words to = IsRefused words to
  Ends WrongWords words to = IsWrong words to
  Ends Stopped words to = Stops words to
