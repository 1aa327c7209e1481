-- What is read of an input, line by line.
use Rattle.std.specs.Prelude.{◌≡◌, ◌-◌, ℕ, true, false, List, [], ◌∷◌, ◌++◌, drop, take, Option, Result, Ok, Err}
use Rattle.std.specs.Io.KnownBytes.{Consumes, IsAtEnd}
use Rattle.vm_cli.specs.lines.Input.{HoldsLine, is_nil}
use Rattle.vm_cli.specs.declared.lines.line.Line.{Line}
use Rattle.vm_cli.specs.declared.session.ServeFault.{ServeFault}
use Rattle.vm_cli.specs.declared.session.ServeFault.TheVariants as fault
use Rattle.vm_cli.specs.declared.session.line_reader.Ending.{Ending}
use Rattle.vm_cli.specs.declared.session.line_reader.Ending.TheVariants as ending
use Rattle.vm_cli.specs.declared.session.line_reader.LineReader.{LineReader}

-- what was read and is no part of a line yet
abbrev pub unread_of : LineReader → List ℕ
unread_of reader = take (reader.end - reader.start) (drop reader.start reader.chunk)

-- these bytes were taken from what the reader had left and what was unread before, and these are unread now
pub record Took (known rest : Option (List ℕ)) (before taken after : List ℕ) : Type 0 where
  pub read : List ℕ
  pub consumed : Consumes known rest read
  pub split : before ++ read ≡ taken ++ after

-- the line has its bytes up to its line feed (10); or all that the input has left, with none behind it; or the reader failed
abbrev pub ReadsLine : Result Ending ServeFault → List ℕ → Option (List ℕ) → Option (List ℕ) → List ℕ → List ℕ → Line → Type 0
ReadsLine (Ok ending.Line) from known rest before after line =
    (more : List ℕ) × HoldsLine line (from ++ more) × Took known rest before (more ++ 10 ∷ []) after
ReadsLine (Ok ending.HalfLine) from known rest before after line =
    (more : List ℕ) × HoldsLine line (from ++ more) × Took known rest before more after × (after ≡ []) × IsAtEnd rest × (is_nil (from ++ more) ≡ false)
ReadsLine (Ok ending.Input) from known rest before after line =
    (more : List ℕ) × HoldsLine line (from ++ more) × Took known rest before more after × (after ≡ []) × IsAtEnd rest × (is_nil (from ++ more) ≡ true)
ReadsLine (Err fault.Read) from known rest before after line = (taken : List ℕ) × Took known rest before taken after
ReadsLine (Err why) from known rest before after line = ⊥
