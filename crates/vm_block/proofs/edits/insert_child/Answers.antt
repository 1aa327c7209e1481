use Rattle.std.proofs.Common.{ℕ, ◌+◌, ◌-◌, ◌*◌, ◌++◌, drop, ap, ◌∙◌, arith}
use Rattle.byteorder.specs.Endian.{little_bytes}
use Rattle.vm_block.proofs.DividingLemmas.{child_before}
use Rattle.vm_block.proofs.edits.insert_child.Goals as goal
use borrow.Rule.Slice.PartMut.{put_mid, mid_of}

pub returns : goal.returns
returns c level cs e fit many =
    let at = 16 + 14 * c.args.index in
    let moved = put_mid at (4096 - at) c.copy_within.new.self c.write_child.new.out in
    child_before c.args.bytes.now c.copy_within.new.self c.write_child.new.out _ level cs c.args.index c.args.child _ e fit (omega (arith, many, c.requires.within)) (omega (arith, many, c.requires.room)) ((omega arith, omega arith), omega arith) c.copy_within.ensures.after (omega (arith, many)) c.write_child.ensures
    (c.write_u32.ensures ∙ ap (λ (n : ℕ). little_bytes 4 (n + 1) ++ drop 4 (mid_of 8 4088 moved)) many)
