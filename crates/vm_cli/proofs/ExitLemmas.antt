-- How the program ends, from what its parts did.
use Rattle.std.proofs.Common.{◌≡◌, ◌≤◌, ◌⊎◌, ◌++◌, arith, ℕ, Bool, true, false, not, ◌&&◌, List, [], Option, Result, Ok, Err, OnOk, OnErr, refl, sym, subst, inl, inr}
use Rattle.std.specs.Prelude.{if◌then◌else◌}
use Rattle.std.specs.Io.KnownBytes.{Appends}
use Rattle.clap.specs.Words.{IsAmong, Text, fault_of}
use Rattle.clap.specs.declared.error.kind.ErrorKind.{ErrorKind}
use Rattle.clap.specs.declared.error.kind.ErrorKind.TheVariants.{DisplayHelp, DisplayVersion}
use Rattle.vm_alloc.specs.Marks.{is_marked}
use Rattle.vm_types.specs.declared.refusal.Refusal.TheVariants.{Damaged}
use Rattle.vm_cli.specs.answers.Carried.{WritesStart}
use Rattle.vm_cli.specs.declared.answers.output.WriteFault.{WriteFault}
use Rattle.vm_cli.specs.program.Exits.{AskSession, Ends, IsDoneOr, IsHelp, IsJob, IsNews, JobEnds, MayEnd, Tells, TellsRefused, TellsSome, is_told, name_text, named_text, refused_text, status_of}
use Rattle.vm_cli.specs.program.Exits.HasAll.{has_answers, has_text}
use Rattle.vm_cli.specs.program.Exits.IsNews.{copied as copied_to, counted, created, drawn as drawing_of, help}
use Rattle.vm_cli.specs.program.Exits.MayEnd.{stopping, well, with_refusal}
use Rattle.vm_cli.specs.program.Exits.Stops.{answering, blaming, refusing, telling, untold}
use Rattle.vm_cli.specs.session.Known.{IsUntouched, Writers, between, written}
use Rattle.vm_cli.specs.program.Words.{Wanted, altctl}
use Rattle.vm_cli.specs.program.Words.Wanted.{check, copy, create, draw}
use Rattle.vm_cli.specs.declared.program.Exit.{Exit}
use Rattle.vm_cli.specs.declared.program.Exit.TheVariants.{Done, LineRefused, Refused, WrongWords, Stopped}
use Rattle.vm_cli.specs.declared.session.Manner.{Manner}
use Rattle.vm_cli.proofs.CarriedLemmas.{begins-more, begins-then}
use Rattle.vm_cli.proofs.Known.{Appends-nil, Appends-then}

-- ---- a line with the name of a file

-- the words before the name were written in part
pub file_first : (a b : Option (List ℕ)) (what file rest : List ℕ) → WritesStart a b what → WritesStart a b (named_text what file rest)
file_first a b what file rest h = begins-more a b what (file ++ rest) h

-- they were written whole, and of the rest a beginning
pub file_then : (a b c : Option (List ℕ)) (what rest : List ℕ) → Appends a b what → WritesStart b c rest → WritesStart a c (what ++ rest)
file_then a b c what rest p h = begins-then a b c rest (what ++ rest) (record { sent = what; split = refl; written = p }) h

-- ---- the end of a status

pub is_done : (exit : Exit) → status_of exit ≡ 0 → exit ≡ Done
is_done Done is = refl
is_done Refused is = let no : 1 ≡ 0 = is in absurd (omega arith)
is_done WrongWords is = let no : 2 ≡ 0 = is in absurd (omega arith)
is_done Stopped is = let no : 3 ≡ 0 = is in absurd (omega arith)
is_done LineRefused is = let no : 4 ≡ 0 = is in absurd (omega arith)

pub is_refused : (exit : Exit) → status_of exit ≡ 1 → exit ≡ Refused
is_refused Done is = let no : 0 ≡ 1 = is in absurd (omega arith)
is_refused Refused is = refl
is_refused WrongWords is = let no : 2 ≡ 1 = is in absurd (omega arith)
is_refused Stopped is = let no : 3 ≡ 1 = is in absurd (omega arith)
is_refused LineRefused is = let no : 4 ≡ 1 = is in absurd (omega arith)

pub is_wrong : (exit : Exit) → status_of exit ≡ 2 → exit ≡ WrongWords
is_wrong Done is = let no : 0 ≡ 2 = is in absurd (omega arith)
is_wrong Refused is = let no : 1 ≡ 2 = is in absurd (omega arith)
is_wrong WrongWords is = refl
is_wrong Stopped is = let no : 3 ≡ 2 = is in absurd (omega arith)
is_wrong LineRefused is = let no : 4 ≡ 2 = is in absurd (omega arith)

pub is_stopped : (exit : Exit) → status_of exit ≡ 3 → exit ≡ Stopped
is_stopped Done is = let no : 0 ≡ 3 = is in absurd (omega arith)
is_stopped Refused is = let no : 1 ≡ 3 = is in absurd (omega arith)
is_stopped WrongWords is = let no : 2 ≡ 3 = is in absurd (omega arith)
is_stopped Stopped is = refl
is_stopped LineRefused is = let no : 4 ≡ 3 = is in absurd (omega arith)

pub is_line_refused : (exit : Exit) → status_of exit ≡ 4 → exit ≡ LineRefused
is_line_refused Done is = let no : 0 ≡ 4 = is in absurd (omega arith)
is_line_refused Refused is = let no : 1 ≡ 4 = is in absurd (omega arith)
is_line_refused WrongWords is = let no : 2 ≡ 4 = is in absurd (omega arith)
is_line_refused Stopped is = let no : 3 ≡ 4 = is in absurd (omega arith)
is_line_refused LineRefused is = refl

pub small_status : (exit : Exit) → status_of exit ≤ 4
small_status Done = omega arith
small_status Refused = omega arith
small_status WrongWords = omega arith
small_status Stopped = omega arith
small_status LineRefused = omega arith

-- ---- the end

-- an error asks for help, or is a mistake
pub help_or_mistake : (kind : ErrorKind) → IsHelp kind ⊎ ¬ IsHelp kind
help_or_mistake DisplayHelp = inl (inl refl)
help_or_mistake DisplayVersion = inl (inr refl)
help_or_mistake kind = inr (λ h. elim h [ inl e ↦ cc | inr e ↦ cc ])

module _ {W F : Type 0} (words : List Text) (to : Writers W F) where
  -- a job was refused, and that was told
  refused : (job : Wanted) (exit : Exit) → IsJob words job → IsUntouched to.output → TellsRefused job exit (written to.errors) → Ends exit words to
  refused job exit asked empty (text, says, inl (is, said)) = rw is (record { empty = empty; text = text; refusal = (job, asked, says); said = said })
  refused job exit asked empty (text, says, inr (is, begun)) = rw is (refusing empty text (job, asked, says) begun)

  -- news were told
  news : (text : List ℕ) (exit : Exit) → IsNews words text → IsUntouched to.errors → Tells Done exit (written to.output) text → Ends exit words to
  news text exit says quiet (inl (is, all)) = rw is (record { quiet = quiet; has = has_text text says all })
  news text exit says quiet (inr (is, begun)) = rw is (telling quiet text says begun)

  -- a store was to be made
  pub made : (file : Text) (blocks : ℕ) (exit : Exit) → IsJob words (create file blocks) → JobEnds (create file blocks) exit to → Ends exit words to
  made file blocks exit job (inl (quiet, tells)) = news _ exit (created file blocks job) quiet tells
  made file blocks exit job (inr (empty, tells)) = refused (create file blocks) exit job empty tells

  -- lines were answered
  session_ends : (on : Manner) (exit : Exit) → AskSession words on → IsUntouched to.errors → MayEnd on.on_refusal exit → Ends exit words to
  session_ends on exit asks quiet (well is) = rw is (record { quiet = quiet; has = has_answers (on, asks) })
  session_ends on exit asks quiet (stopping is) = rw is (answering quiet (on, asks))
  session_ends on exit asks quiet (with_refusal is told) = rw is (record { quiet = quiet; asked = (on, told, asks) })

  -- lines were to be answered
  pub answered : (job : Wanted) (on : Manner) (exit : Exit) → IsJob words job → AskSession words on
      → IsDoneOr (MayEnd on.on_refusal exit) (TellsRefused job exit (written to.errors)) to → Ends exit words to
  answered job on exit asked asks (inl (quiet, may)) = session_ends on exit asks quiet may
  answered job on exit asked asks (inr (empty, tells)) = refused job exit asked empty tells

  -- a store was to be checked
  pub checked : (file : Text) (exit : Exit) → IsJob words (check file) → JobEnds (check file) exit to → Ends exit words to
  checked file exit job (inl (quiet, (alternatives, checkpoints, free, tells))) = news _ exit (counted file alternatives checkpoints free job) quiet tells
  checked file exit job (inr (empty, tells)) = refused (check file) exit job empty tells

  -- a tree was to be drawn
  pub drawn : (file : Text) (exit : Exit) → IsJob words (draw file) → JobEnds (draw file) exit to → Ends exit words to
  drawn file exit job (inl (quiet, (branches, tells))) = news _ exit (drawing_of file branches job) quiet tells
  drawn file exit job (inr (empty, tells)) = refused (draw file) exit job empty tells

  -- a store was to be copied
  pub copied : (file name : Text) (asked : Option ℕ) (exit : Exit) → IsJob words (copy file name asked) → JobEnds (copy file name asked) exit to → Ends exit words to
  copied file name asked exit job (inl (quiet, inl (blocks, used, tells))) = news _ exit (copied_to file name asked blocks used job) quiet tells
  copied file name asked exit job (inl (quiet, inr (is, empty))) = rw is (untold quiet empty)
  copied file name asked exit job (inr (empty, tells)) = refused (copy file name asked) exit job empty tells

  -- memory was wanting
  pub no_memory : (exit : Exit) → exit ≡ Stopped → IsUntouched to.output → IsUntouched to.errors → Ends exit words to
  no_memory exit is empty quiet = rw is (untold quiet empty)

  -- help was to be shown
  pub helped : (kind : ErrorKind) (exit : Exit) → IsHelp kind → IsAmong kind (fault_of altctl words) → IsUntouched to.errors × TellsSome Done exit (written to.output)
      → Ends exit words to
  helped kind exit helps among (quiet, (text, tells)) = news text exit (help text (kind, helps, among)) quiet tells

  -- a mistake was to be shown
  pub mistaken : (kind : ErrorKind) (exit : Exit) → (¬ IsHelp kind) → IsAmong kind (fault_of altctl words) → IsUntouched to.output × TellsSome WrongWords exit (written to.errors)
      → Ends exit words to
  mistaken kind exit wrong among (empty, (text, inl (is, said))) = rw is (record { empty = empty; wrong = (kind, wrong, among); text = text; said = said })
  mistaken kind exit wrong among (empty, (text, inr (is, begun))) = rw is (blaming empty text (kind, wrong, among) begun)

-- ---- damaged blocks

named_if : (m t : Bool) (line : List ℕ) → m ≡ true → t ≡ false → (if m && not t then line else []) ≡ line
named_if m t line marked other = rw (marked, other) refl

told_if : (m t : Bool) (line : List ℕ) → t ≡ true → (if m && not t then line else []) ≡ []
told_if true t line told = rw told refl
told_if false t line told = refl

unmarked_if : (m t : Bool) (line : List ℕ) → m ≡ false → (if m && not t then line else []) ≡ []
unmarked_if m t line unmarked = rw unmarked refl

-- a block is not named
pub told_unnamed : (told : Option ℕ) (marks : List Bool) (n : ℕ) (a : Option (List ℕ)) → is_told told n ≡ true → Appends a a (name_text told marks n)
told_unnamed told marks n a is = subst (Appends a a) (sym (told_if (is_marked marks n) (is_told told n) (refused_text (Damaged n)) is)) (Appends-nil a)

pub unmarked_unnamed : (told : Option ℕ) (marks : List Bool) (n : ℕ) (a : Option (List ℕ)) → is_marked marks n ≡ false → Appends a a (name_text told marks n)
unmarked_unnamed told marks n a is = subst (Appends a a) (sym (unmarked_if (is_marked marks n) (is_told told n) (refused_text (Damaged n)) is)) (Appends-nil a)

-- the line of one that is
pub named_here : (told : Option ℕ) (marks : List Bool) (n : ℕ) → is_marked marks n ≡ true → is_told told n ≡ false → name_text told marks n ≡ refused_text (Damaged n)
named_here told marks n marked other = named_if (is_marked marks n) (is_told told n) (refused_text (Damaged n)) marked other

-- why a disk is refused was told, and more behind it
pub tells_more : (a b c : Option (List ℕ)) (said : Result (Unit {0}) WriteFault) (exit : Exit) (text more : List ℕ) → Tells Refused Refused (between a b) text → OnOk said (exit ≡ Refused) → OnErr said (exit ≡ Stopped) → OnOk said (Appends b c more) → OnErr said (WritesStart b c more)
    → Tells Refused exit (between a c) (text ++ more)
tells_more a b c (Ok x) exit text more (inl told) ok err all begun = inl (ok, Appends-then a b c text more told.1 all)
tells_more a b c (Err e) exit text more (inl told) ok err all begun = inr (err, file_then a b c text more told.1 begun)
tells_more a b c said exit text more (inr stopped) ok err all begun = absurd (not_stopped stopped.0)
  where
    not_stopped : Refused ≡ Stopped → ⊥
    not_stopped is = cc

-- it was not told whole
pub tells_less : (a b : Option (List ℕ)) (exit : Exit) (text more : List ℕ) → (exit ≡ Refused → ⊥) → Tells Refused exit (between a b) text → Tells Refused exit (between a b) (text ++ more)
tells_less a b exit text more other (inl told) = absurd (other told.0)
tells_less a b exit text more other (inr stopped) = inr (stopped.0, begins-more a b text more stopped.1)
