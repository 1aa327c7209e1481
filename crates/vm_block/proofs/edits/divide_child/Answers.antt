use Rattle.std.proofs.Common.{◌<◌, length, sym, ap, ◌∙◌, arith}
use Rattle.vm_block.specs.Changed.{with_at}
use Rattle.vm_block.specs.Node.{node_bytes}
use Rattle.vm_block.proofs.DividingLemmas.{set_fit, set_length, two_in_place}
use Rattle.vm_block.proofs.edits.divide_child.Goals as goal

pub returns : goal.returns
returns c level cs node many =
    let i = c.args.index in
    let left = c.args.left in
    let lt : i < length cs = omega (arith, many, c.requires.within) in
    c.insert_child.ensures level (with_at i left cs) (c.set_child.ensures.child level cs node lt) (set_fit cs i left node.fit ((omega arith, omega arith), omega arith)) (many ∙ sym (set_length cs i left lt))
    ∙ ap (node_bytes level) (two_in_place cs i left c.args.right lt)
