use Rattle.std.proofs.Common.{◌≡◌, ◌∙◌, ◌-◌, List, length, ap, sym, subst}
use Rattle.vm_block.specs.declared.node.Child.{Child}
use Rattle.vm_tree.specs.Replacement.{IsRenewed, without_own}
use Rattle.vm_tree.specs.Splits.{Made, with_children}
use Rattle.vm_tree.proofs.insertion.write_divided.Goals as goal

pub returns-clause-made : goal.returns-clause-made
returns-clause-made g c honest before keep more mine sizes cs rs node count fan rises made =
    let now = c.args.now.now in
    let i = c.args.way.index in
    let same = c.as_slice.ensures.value ∙ c.spelled_children-children.ensures.only c.args.level cs node count in
    let lent : c.as_slice-2.result.now ≡ with_children cs i now = c.as_slice-2.ensures.value ∙ c.spliced-children.ensures ∙ ap (λ (ds : List Child). with_children ds i now) same in
    c.write_nodes.ensures.made honest before keep more mine sizes rs node.above node.low fan rises
    (subst (λ (ds : List Child). Made (IsRenewed before c.args.held.now (without_own c.args.own keep)) sizes (g.D.Disk.state c.args.disk.now).now.contents (length c.args.held.now) (c.args.level - 1) ds rs) (sym lent) made)
