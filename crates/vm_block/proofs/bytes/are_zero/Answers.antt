use Rattle.std.proofs.Common.{refl}
use Rattle.vm_block.proofs.Pieces.{zeros_are, zeros_gathered}
use Rattle.vm_block.proofs.bytes.are_zero.Goals as goal

pub loop-byte-init : goal.loop-byte-init
loop-byte-init c = (λ _. zeros_are 0, λ _. refl)

pub loop-byte-preserved : goal.loop-byte-preserved
loop-byte-preserved c = zeros_gathered _ _ _ c.loop-byte-test.true c.loop-byte.invariant
