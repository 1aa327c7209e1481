use Rattle.std.proofs.Common.{◌-◌, ◌≡◌, ◌≤◌, length, take}
use Rattle.std.specs.Io.KnownBytes.{Appends}
use Rattle.vm_sums.specs.Summed.{shown_contents}
use Rattle.altstore.specs.Images.{joined}
use Rattle.altstore.proofs.image.write_blocks.Given as goal

-- the blocks before this one were written, and the disk holds what it held
abbrev pub invariant-loop-n : goal.invariant-loop-n
invariant-loop-n g l = record {
  same : l.disk.platter.blocks.items ≡ l.fn.disk.platter.blocks.items;
  count : l.count ≡ length l.fn.disk.platter.blocks.items;
  most : l.n ≤ l.count;
  written : Appends (g.W.Write.contents l.fn.writer) (g.W.Write.contents l.writer) (joined (take l.n (shown_contents l.fn.disk.platter.blocks.items)));
}

abbrev pub decreases-loop-n : goal.decreases-loop-n
decreases-loop-n g l = l.count - l.n
