use Rattle.std.proofs.Common.{arith}
use Rattle.std.proofs.Math.Facts.{Fits-lt-pow}
use Rattle.vm_block.proofs.HeadLemmas.{words_read}
use Rattle.vm_block.proofs.head.read_head.Goals as goal

pub returns : goal.returns
returns c =
    words_read c.args.bytes.now c.read_u32.result c.read_u32-2.result c.read_u32-3.result c.read_u32-4.result _ _ _ (λ k. Fits-lt-pow (c.type_inv.bytes k)) c.requires (omega arith) (omega arith) (omega arith) c.read_u32.ensures c.read_u32-2.ensures c.read_u32-3.ensures c.read_u32-4.ensures
