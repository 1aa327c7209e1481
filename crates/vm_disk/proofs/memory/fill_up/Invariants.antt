use Rattle.std.proofs.Common.{◌≡◌, ◌-◌, ◌≤◌, ◌++◌, length, max, replicate}
use Rattle.std.specs.Vec.{vec_capacity}
use Rattle.vm_disk.proofs.memory.fill_up.Given as goal

abbrev pub invariant-loop-item : goal.invariant-loop-item
invariant-loop-item g l =
    let old = l.initial.items in record {
      items : l.items.items ≡ old.items ++ replicate (length l.items.items - length old.items) l.item;
      capacity : vec_capacity old ≤ vec_capacity l.items;
      most : length l.items.items ≤ max l.count (length old.items);
      least : length old.items ≤ length l.items.items;
    }

abbrev pub decreases-loop-item : goal.decreases-loop-item
decreases-loop-item g l = l.count - length l.items.items
