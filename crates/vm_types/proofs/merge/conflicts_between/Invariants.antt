use Rattle.std.proofs.Common.{◌≡◌, ◌≤◌, ◌++◌, drop, length}
use Rattle.vm_types.specs.Merge.{clash}
use Rattle.vm_types.proofs.MergingLemmas.{side_by_side}
use Rattle.vm_types.proofs.merge.conflicts_between.Given as goal

-- the conflicts so far, with those that are ahead, are all
abbrev pub invariant-loop-i : goal.invariant-loop-i
invariant-loop-i l = record {
  inside : l.at ≤ length l.mine;
  all : side_by_side clash l.theirs l.mine ≡ l.conflicts ++ side_by_side clash (drop l.i l.theirs) (drop l.at l.mine);
}
