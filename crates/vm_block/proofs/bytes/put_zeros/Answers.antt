use Rattle.std.proofs.Common.{rules}
use Rattle.vm_block.specs.Padding.{zeros}
use Rattle.vm_block.proofs.bytes.put_zeros.Goals as goal

pub returns : goal.returns
unfolding zeros
returns c = search rules
