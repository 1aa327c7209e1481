use Rattle.std.proofs.Common.{◌≡◌, ◌<◌, ◌+◌, List, ◌∷◌, ◌++◌, length, take, drop, ap, ◌∙◌, arith}
use Rattle.vm_block.specs.declared.node.Child.{Child}
use Rattle.vm_block.specs.Node.{node_bytes}
use Rattle.vm_block.proofs.DividingLemmas.{pair_fit, pair_length, three_in_place}
use Rattle.vm_block.proofs.edits.divide_in_three.Goals as goal

pub returns : goal.returns
returns c level cs node many =
    let i = c.args.index in
    let left = c.args.left in
    let middle = c.args.middle in
    let lt : i < length cs = omega (arith, many, c.requires.within) in
    let ys : List Child = take i cs ++ left ∷ middle ∷ drop (i + 1) cs in
    let long : c.args.count + 1 ≡ length ys = omega (arith, many, pair_length cs i left middle lt) in
    c.insert_child.ensures level ys (c.divide_child.ensures level cs node many) (pair_fit cs i left middle node.fit ((omega arith, omega arith), omega arith) ((omega arith, omega arith), omega arith)) long
    ∙ ap (node_bytes level) (three_in_place cs i left middle c.args.right lt)
