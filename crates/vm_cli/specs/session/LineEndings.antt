-- How an input ends.
use Rattle.std.specs.Prelude.{Bool, true, false}
use Rattle.vm_cli.specs.declared.session.line_reader.Ending.{Ending}
use Rattle.vm_cli.specs.declared.session.line_reader.Ending.TheVariants as ending

-- behind a line, or within one
abbrev pub ending_at : Bool → Ending
ending_at true = ending.Input
ending_at false = ending.HalfLine
