use Rattle.std.proofs.Common.{◌≡◌, ◌-◌, ◌≤◌, length, take}
use Rattle.vm_types.proofs.packed.PackedList.to_vec.Given as goal

abbrev pub invariant-loop-item : goal.invariant-loop-item
invariant-loop-item g l = (l.i ≤ length l.self) × (l.items.items ≡ take l.i l.self)

abbrev pub decreases-loop-item : goal.decreases-loop-item
decreases-loop-item g l = length l.self - l.i
