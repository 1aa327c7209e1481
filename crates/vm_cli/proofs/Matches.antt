-- The subcommand of a parse, from its name and its rows.
use Rattle.std.proofs.Common.{◌≡◌, List, Option, Some, None, Result, Ok, Err, ap, option_map, codes, refl}
use Rattle.std.specs.Prelude.{Box, IsErrAnd}
use Rattle.std.specs.Box.{box_value}
use Rattle.clap.specs.Words.{Row, Text, all_of, first_of, subcommand_rows}
use Rattle.clap.specs.declared.parser.matches.ArgMatches.TheViews.{out-SubCommand}
use Rattle.clap.specs.declared.parser.matches.SubCommand.{SubCommand}
use Rattle.vm_cli.specs.program.Given.{input_of}
use Rattle.vm_cli.specs.program.Words.{asked_by, asked_of, memory_by, do_by, manner_by}
use Rattle.vm_cli.specs.program.Words.Wanted.{do_lines}
use Rattle.vm_cli.specs.declared.program.task.InMemory.{InMemory}
use Rattle.vm_cli.specs.declared.session.Grouping.TheVariants.{Lines}
use Rattle.vm_cli.specs.declared.session.Manner.{Manner}
use Rattle.vm_cli.specs.declared.session.OnRefusal.TheVariants.{Tell}

pub subcommand_rows-parts : (Z : Type 0) (o : Option (Box SubCommand Z)) (name : Text) (rows : List Row)
    → Some name ≡ option_map (λ b. (out-SubCommand (box_value b)).name.now) o
    → Some rows ≡ option_map (λ p. p.1) (subcommand_rows o)
    → subcommand_rows o ≡ Some (name, rows)
subcommand_rows-parts Z None name rows n r = cc
subcommand_rows-parts Z (Some b) name rows n r = cc

-- what a subcommand's matches ask for, where they name a file
pub asked_of-entered : (entered : Option (Text × List Row)) (name : Text) (rows : List Row) (file : Text)
    → entered ≡ Some (name, rows) → first_of (codes "file") rows ≡ Some file → asked_of entered ≡ asked_by name rows file
asked_of-entered entered name rows file e f = rw (e, f) refl

-- what `do` asks for, where its lines, the numbers of blocks and the manner are there
pub do_by-lines : (rows : List Row) (file : Text) (lines : List Text) (in_memory : InMemory) (manner : Manner) → all_of (codes "line") rows ≡ Some lines → memory_by rows ≡ Some in_memory
    → manner_by Tell Lines rows ≡ Some manner → do_by rows file ≡ Some (do_lines file (input_of lines) in_memory manner)
do_by-lines rows file lines in_memory manner given number how = rw (given, number, how) refl

-- without lines it asks for nothing
pub do_by-none : (rows : List Row) (file : Text) → all_of (codes "line") rows ≡ None → do_by rows file ≡ None
do_by-none rows file none = rw none refl

-- a fault that was passed on is the one that came
pub passed_on : {T E : Type 0} {e : E} (result : Result T E) → IsErrAnd result (λ fault. fault ≡ e) → result ≡ Err e
passed_on (Ok x) is = absurd is
passed_on (Err fault) is = ap Err is
