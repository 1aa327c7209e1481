use Rattle.std.proofs.Common.{◌≡◌, ◌+◌, ◌-◌, ◌≤◌, ◌%◌, ◌^◌, length, drop, ap, ◌∙◌, arith}
use Rattle.std.proofs.lemmas.List.{length-drop, take_all}
use Rattle.byteorder.specs.Endian.{little_number}
use borrow.Rule.Slice.PartMut.{put_mid}
use Rattle.std.specs.Int.Bits.{bit_xor}
use Rattle.vm_sums.specs.Hash.{hash_of}
use Rattle.vm_sums.specs.Sums.{sum_of, with_number}
use Rattle.vm_sums.proofs.ExchangeLemmas.{length-with_number, number_again, numbered}
use Rattle.vm_sums.proofs.sum.exchange.Goals as goal

pub returns : goal.returns
returns c =
    let bytes = c.args.block.now in
    let p = c.args.place in
    let room : p + 4 ≤ length bytes = omega (arith, c.requires, c.told-block) in
    let first = numbered p c.args.n (4096 - p) bytes c.write_u32.new.buf room (omega (arith, c.told-block)) c.write_u32.ensures in
    let mid = put_mid p (4096 - p) bytes c.write_u32.new.buf in
    let many : length mid ≡ 4096 = ap length first ∙ length-with_number p c.args.n bytes room ∙ c.told-block in
    let second = numbered p _ (4096 - p) mid c.write_u32-2.new.buf (omega (arith, many, c.requires)) (omega (arith, many)) c.write_u32-2.ensures in
    second ∙ ap (with_number p _) first ∙ number_again p bytes room c.args.n _
    ∙ ap (λ z. with_number p (bit_xor c.read_u32-stored.result (z % 2 ^ 32)) bytes) (c.hash.ensures ∙ ap hash_of first)
    ∙ ap (λ z. with_number p (bit_xor z (sum_of c.args.n p bytes)) bytes) (c.read_u32-stored.ensures ∙ ap (little_number 4) (take_all (4096 - p) (drop p bytes) (omega (arith, length-drop p bytes, c.told-block))))
