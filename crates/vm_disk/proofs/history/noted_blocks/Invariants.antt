use Rattle.std.proofs.Common.{◌≡◌, reverse, take}
use Rattle.vm_disk.specs.Past.{noted}
use Rattle.vm_disk.proofs.history.noted_blocks.Given as goal

abbrev pub invariant-loop-block : goal.invariant-loop-block
invariant-loop-block l = reverse (noted l.kept) ≡ take l.block-index l.blocks
