use Rattle.std.proofs.Common.{◌≡◌, ◌+◌}
use Rattle.vm_disk.specs.Kept.{UsesBlocks}
use Rattle.vm_disk.proofs.kept.Kept.set_run.Given as goal

abbrev pub invariant-loop-block : goal.invariant-loop-block
invariant-loop-block l =
    record {
      place : l.at ≡ l.n + l.block-index;
      uses : UsesBlocks l.n l.blocks l.block-index l.initial.self l.self;
    }
