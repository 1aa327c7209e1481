use Rattle.std.proofs.Common.{◌+◌, ◌++◌, length, refl, length-append}
use Rattle.vm_block.proofs.Pieces.{then_writes}
use Rattle.vm_block.proofs.parts.write_values.Goals as goal

pub returns : goal.returns
returns c =
    let v1 = c.args.front.now.values.now in
    let v2 = c.args.middle.now.values.now in
    let v3 = c.args.back.now.values.now in
    let old = c.args.out.now in
    let both = then_writes v1 v2 old _ _ (length v1) _ (length v2) (length v1 + length v2) c.put.ensures refl refl c.put-2.ensures refl in
    then_writes (v1 ++ v2) v3 old _ _ (length v1 + length v2) _ (length v3) (length v1 + length v2 + length v3) both (length-append v1 v2) refl c.put-3.ensures refl
