use Rattle.std.proofs.Common.{◌≡◌, ◌-◌, ◌++◌, take, drop, length, ap, sym, ◌∙◌, arith}
use Rattle.std.proofs.Math.Seq.{take-add}
use Rattle.std.proofs.Math.Facts.{Fits-lt-pow}
use Rattle.byteorder.specs.Endian.{little_bytes}
use Rattle.vm_block.proofs.Pieces.{spelled_number, spelled_at}
use Rattle.vm_block.proofs.keys.read_key.Goals as goal

pub returns-clause-spelled : goal.returns-clause-spelled
returns-clause-spelled c =
    let bytes = c.args.bytes.now in
    let table : take 2 bytes ≡ little_bytes 2 c.read_u16.result =
    spelled_number 2 bytes (λ k. Fits-lt-pow (c.type_inv.bytes k)) (omega arith) ∙ ap (little_bytes 2) (sym c.read_u16.ensures) in
    let number : take 8 (drop 2 bytes) ≡ little_bytes 8 c.read_u64.result =
    spelled_at 8 2 (length bytes - 2) bytes (λ k. Fits-lt-pow (c.type_inv.bytes k)) (omega arith) (omega arith) ∙ ap (little_bytes 8) (sym c.read_u64.ensures) in
    take-add 2 8 bytes ∙ ap (λ x. x ++ take 8 (drop 2 bytes)) table ∙ ap (λ x. little_bytes 2 c.read_u16.result ++ x) number
