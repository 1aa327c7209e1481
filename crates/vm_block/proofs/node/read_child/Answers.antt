use Rattle.std.proofs.Common.{◌≡◌, ◌-◌, length, take, drop, ap, sym, ◌∙◌, arith}
use Rattle.std.proofs.Math.Facts.{Fits-lt-pow}
use Rattle.byteorder.specs.Endian.{little_bytes}
use Rattle.vm_block.proofs.Pieces.{spelled_at}
use Rattle.vm_block.proofs.NodeLemmas.{child_spelled}
use Rattle.vm_block.proofs.node.read_child.Goals as goal

pub returns-clause-spelled : goal.returns-clause-spelled
returns-clause-spelled c =
    let bytes = c.args.bytes.now in
    let block : take 4 (drop 10 bytes) ≡ little_bytes 4 c.read_u32.result =
    spelled_at 4 10 (length bytes - 10) bytes (λ k. Fits-lt-pow (c.type_inv.bytes k)) (omega arith) (omega arith) ∙ ap (little_bytes 4) (sym c.read_u32.ensures) in
    child_spelled bytes _ c.requires c.read_key.ensures.spelled block
