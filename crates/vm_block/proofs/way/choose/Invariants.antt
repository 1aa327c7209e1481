use Rattle.std.proofs.Common.{◌-◌, ◌≡◌, ℕ, ◌<◌, ◌≤◌, List, length, slice_index}
use Rattle.vm_block.specs.Way.{KeysStand}
use Rattle.vm_block.proofs.way.choose.Given as goal

-- the row at low is not above the place, but for the first; that at high is, but for the end
abbrev pub invariant-loop-low : goal.invariant-loop-low
invariant-loop-low l = record {
  below : l.low < l.high;
  within : l.high ≤ l.fn.count;
  found : (ps : List ℕ) → length ps ≡ l.fn.count → KeysStand l.fn.bytes l.fn.size ps → (0 < l.low → slice_index ps l.low ≤ l.fn.place) × (l.high < l.fn.count → l.fn.place < slice_index ps l.high);
}

abbrev pub decreases-loop-low : goal.decreases-loop-low
decreases-loop-low l = l.high - l.low
