use Rattle.std.proofs.Common.{◌≡◌, ◌-◌, ◌*◌, ◌<◌, ◌↔◌, drop}
use Rattle.vm_block.specs.Bounds.{IsSound, bounds_of, last_end}
use Rattle.vm_block.proofs.bounds.bounds_end.Given as goal

-- what is left to look at, and where the last of its values ends
abbrev pub invariant-loop-i : goal.invariant-loop-i
invariant-loop-i l = record {
  small : l.from < 65536;
  low_small : l.low < 1208925819614629174706177;
  sound : IsSound 0 0 (bounds_of l.count l.bytes) ↔ IsSound l.low l.from (bounds_of (l.count - l.i) (drop (12 * l.i) l.bytes));
  last : last_end 0 (bounds_of l.count l.bytes) ≡ last_end l.from (bounds_of (l.count - l.i) (drop (12 * l.i) l.bytes));
}
