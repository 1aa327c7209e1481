use Rattle.std.proofs.Common.{◌≡◌, ◌≤◌, ◌++◌, drop, length}
use Rattle.vm_types.proofs.MergingLemmas.{key_of_clash, side_by_side}
use Rattle.vm_types.proofs.merge.keys_in_conflict.Given as goal

-- the keys so far, with those of the conflicts that are ahead, are all
abbrev pub invariant-loop-i : goal.invariant-loop-i
invariant-loop-i l = record {
  inside : l.at ≤ length l.mine;
  all : side_by_side key_of_clash l.theirs l.mine ≡ l.keys.items ++ side_by_side key_of_clash (drop l.i l.theirs) (drop l.at l.mine);
}
