use Rattle.std.proofs.Common.{◌≡◌, reverse, take}
use Rattle.vm_disk.specs.Past.{noted}
use Rattle.vm_disk.proofs.history.noted_bytes.Given as goal

abbrev pub invariant-loop-byte : goal.invariant-loop-byte
invariant-loop-byte l = reverse (noted l.kept) ≡ take l.byte-index l.bytes
