use Rattle.std.proofs.Common.{◌-◌, ◌≡◌, ◌/◌, ◌≤◌, ◌<◌, ◌*◌, ℕ, length, take}
use Rattle.std.specs.Prelude.{drop}
use Rattle.vm_types.specs.declared.sizes.TheConstants.{BLOCK_SIZE}
use Rattle.vm_disk.specs.Disk.{block}
use Rattle.vm_sums.specs.Sums.{summed}
use Rattle.altstore.proofs.image.fill.Given as goal

-- the blocks before this one are those of the image
abbrev pub invariant-loop-n : goal.invariant-loop-n
invariant-loop-n l = record {
  as_many : length l.disk.platter.blocks.items ≡ l.count;
  count : l.count ≡ length l.image / BLOCK_SIZE;
  most : l.n ≤ l.count;
  filled : (k : ℕ) → k < l.n → block l.disk.platter.blocks.items k ≡ summed k (take BLOCK_SIZE (drop (BLOCK_SIZE * k) l.image));
}

abbrev pub decreases-loop-n : goal.decreases-loop-n
decreases-loop-n l = l.count - l.n
