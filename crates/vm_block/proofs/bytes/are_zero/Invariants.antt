use Rattle.std.proofs.Common.{◌≡◌, ◌↔◌, take}
use Rattle.vm_block.specs.Padding.{zeros}
use Rattle.vm_block.proofs.bytes.are_zero.Given as goal

abbrev pub invariant-loop-byte : goal.invariant-loop-byte
invariant-loop-byte l = (l.bits ≡ 0) ↔ (take l.byte-index l.bytes ≡ zeros l.byte-index)
