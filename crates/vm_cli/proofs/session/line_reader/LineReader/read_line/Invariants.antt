use Rattle.std.proofs.Common.{◌++◌, ℕ, List}
use Rattle.vm_cli.specs.lines.Input.{HoldsLine}
use Rattle.vm_cli.specs.session.LineReading.{Took, unread_of}
use Rattle.vm_cli.proofs.session.line_reader.LineReader.read_line.Given as goal

-- the bytes so far were read, and are the line's or unread
abbrev pub invariant-loop : goal.invariant-loop
invariant-loop g l =
    (from : List ℕ) → HoldsLine l.fn.line from
    → (more : List ℕ) × HoldsLine l.line (from ++ more) × Took (g.R.Read.remaining l.fn.reader) (g.R.Read.remaining l.reader) (unread_of l.fn.self) more (unread_of l.self)
