use Rattle.std.proofs.Common.{◌≡◌, ◌+◌, ◌-◌, ◌<◌, ◌≤◌, List, length, sym, ap, ◌∙◌, subst, arith}
use Rattle.vm_block.specs.declared.node.Child.{Child}
use Rattle.vm_block.specs.Node.{node_bytes}
use Rattle.vm_tree.specs.Splits.{Made, children_of, extra, with_children}
use Rattle.vm_tree.specs.Replacement.{IsRenewed, without_own}
use Rattle.vm_tree.specs.declared.block_writes.Copied.{Copied}
use Rattle.vm_tree.proofs.PutLemmas.{count_of, replaced_length}
use Rattle.vm_tree.proofs.insertion.write_replaced.Goals as goal
use Rattle.vm_tree.proofs.insertion.write_replaced.Goals.{in-One, in-Two+else-way, in-Three+else-way-2}

pub returns-then-way-clause-made : goal.returns-then-way-clause-made
returns-then-way-clause-made g c honest before keep more mine sizes cs rs node count fan rises made =
    c.write_divided.ensures.made honest before keep more mine sizes cs rs node count fan rises
    (subst (λ (now : List Child). Made (IsRenewed before c.args.held.now (without_own c.args.own keep)) sizes (g.D.Disk.state c.args.disk.now).now.contents (length c.args.held.now) (c.args.level - 1) (with_children cs c.args.way.index now) rs) (ap children_of c.in-Two.is) made)

pub returns-then-way-2-clause-made : goal.returns-then-way-2-clause-made
returns-then-way-2-clause-made g c honest before keep more mine sizes cs rs node count fan rises made =
    c.write_divided-then-way-2.ensures.made honest before keep more mine sizes cs rs node count fan rises
    (subst (λ (now : List Child). Made (IsRenewed before c.args.held.now (without_own c.args.own keep)) sizes (g.D.Disk.state c.args.disk.now).now.contents (length c.args.held.now) (c.args.level - 1) (with_children cs c.args.way.index now) rs) (ap children_of c.in-Three.is) made)

pub returns-clause-made : goal.returns-clause-made
returns-clause-made g c honest before keep more mine sizes cs rs node count fan rises made =
    let i = c.args.way.index in
    let lt : i < length cs = omega (arith, count, c.requires.way.0) in
    let now = with_children cs i (children_of c.args.copied) in
    let like = λ (copied : Copied). node_bytes c.args.level (with_children cs i (children_of copied)) in
    let spelled : c.match-copied.bytes ≡ node_bytes c.args.level now =
    elim c.match-copied.branch [
      | in-One w ↦ w.bytes-is ∙ w.set_child.ensures.child c.args.level cs node lt ∙ ap like (sym w.in-One.is)
      | in-Two+else-way w ↦ w.bytes-is ∙ w.divide_child.ensures c.args.level cs node count ∙ ap like (sym w.in-Two.is)
      | in-Three+else-way-2 w ↦ w.bytes-is ∙ w.divide_in_three.ensures c.args.level cs node count ∙ ap like (sym w.in-Three.is)
    ] in
    let few : length cs + extra c.args.copied ≤ g.row.FAN =
    elim c.match-copied.branch [
      | in-One w ↦ omega (arith, ap extra w.in-One.is, count, c.requires.way.1)
      | in-Two+else-way w ↦ omega (arith, ap extra w.in-Two.is, count, w.if-way.false)
      | in-Three+else-way-2 w ↦ omega (arith, ap extra w.in-Three.is, count, w.if-way-2.false)
    ] in
    let many = replaced_length cs (children_of c.args.copied) i lt in
    let all = count_of c.args.copied in
    c.in_ok-node.ensures.node honest before keep more mine sizes c.args.level now rs spelled node.above node.low (omega (arith, many, all, lt)) (omega (arith, many, all, few, c.requires.fan.most)) (omega (arith, many, all, few, fan)) rises made
