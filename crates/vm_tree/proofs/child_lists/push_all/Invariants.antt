use Rattle.std.proofs.Common.{◌≡◌, ◌++◌, take}
use Rattle.vm_tree.proofs.child_lists.push_all.Given as goal

-- the items so far are there
abbrev pub invariant-loop-item : goal.invariant-loop-item
invariant-loop-item g l = l.into.items ≡ l.initial.into.items ++ take l.item-index l.items
