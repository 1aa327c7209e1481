use Rattle.std.proofs.Common.{◌≡◌, ◌≤◌, ◌+◌, drop, length}
use Rattle.vm_types.specs.Merge.{taking}
use Rattle.vm_types.proofs.SettledLemmas.{three_by_side}
use Rattle.vm_types.proofs.merge.count_taken.Given as goal

-- the number so far, with the changes that are ahead, is that of all
abbrev pub invariant-loop-i : goal.invariant-loop-i
invariant-loop-i l = record {
  inside : l.at ≤ length l.mine;
  few : l.count ≤ l.i;
  all : length (three_by_side (taking l.side l.settled) l.theirs l.mine) ≡ l.count + length (three_by_side (taking l.side l.unused) (drop l.i l.theirs) (drop l.at l.mine));
}
