use Rattle.std.proofs.Common.{◌≡◌, ℕ, ◌<◌, ◌≤◌, length}
use Rattle.vm_block.specs.Split.{IfComing, larger}
use Rattle.vm_block.proofs.split.best_cut.Given as goal

-- the best of the cuts that were looked at
abbrev pub invariant-loop-h : goal.invariant-loop-h
invariant-loop-h l = record {
  above : 0 < l.best;
  within : l.best ≤ l.many;
  found : IfComing l.bytes l.coming (λ all. (l.least ≡ larger l.best all) × ((h : ℕ) → 0 < h → h < l.h → h < length all → l.least ≤ larger h all));
}
