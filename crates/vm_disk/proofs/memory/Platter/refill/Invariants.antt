use Rattle.std.proofs.Common.{◌≡◌, ℕ, if◌then◌else◌, take}
use Rattle.vm_disk.specs.Disk.{block}
use Rattle.vm_disk.specs.Memory.{medium_of, filled, ChangesBytesOnly}
use Rattle.vm_disk.proofs.memory.Platter.refill.Given as goal

abbrev pub invariant-loop-n : goal.invariant-loop-n
invariant-loop-n l =
    let old = l.initial.self in record {
      keeps : ChangesBytesOnly old l.self;
      filled : (k : ℕ) → block l.self.blocks.items k ≡ (if (medium_of old).dirty k then filled (take l.n-index l.fill) k (block old.blocks.items k) else block old.blocks.items k);
    }
