use Rattle.std.proofs.Common.{◌≡◌, length, map, take, option_copied}
use Rattle.vm_types.specs.Pieces.{ArePieces, Extends}
use Rattle.vm_types.proofs.values.Values.add_all.Given as goal

abbrev pub invariant-loop-i : goal.invariant-loop-i
invariant-loop-i g l = record {
  more : Extends l.fn.self l.self;
  so_far : ArePieces l.self (map option_copied (take l.i l.values)) (take l.i l.pieces);
  whole : length l.pieces ≡ g.row.N;
}
