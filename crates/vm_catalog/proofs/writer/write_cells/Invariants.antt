use Rattle.std.proofs.Common.{drop}
use Rattle.vm_catalog.specs.Written.{cells}
use Rattle.vm_catalog.proofs.WrittenLemmas.{IsRow}
use Rattle.vm_catalog.proofs.writer.write_cells.Given as goal

-- the cells so far stand first, and the rest is as it was
abbrev pub invariant-loop-i : goal.invariant-loop-i
invariant-loop-i l = IsRow (drop l.first (cells l.blocks l.entries)) l.i l.out l.fn.out
