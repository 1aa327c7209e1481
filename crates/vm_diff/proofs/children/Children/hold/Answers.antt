use Rattle.std.proofs.Common.{[], ◌∷◌, refl, arith}
use Rattle.vm_block.specs.declared.node.Child.{Child}
use Rattle.vm_block.specs.Node.{IsNode}
use Rattle.vm_diff.proofs.RowLemmas.{children_whole}
use Rattle.vm_diff.proofs.children.Children.hold.Goals as goal

pub returns : goal.returns
returns c =
    let child : Child = record { low = c.args.low; block = c.args.block } in
    let node : IsNode c.write_node.new.out 1 (child ∷ []) = record {
      spelled = c.write_node.ensures;
      above = omega arith;
      low = omega arith;
      some = omega arith;
      few = omega arith;
      fit = ((c.place.ensures.fits, omega arith), tt);
      rising = (omega arith, tt);
    } in
    children_whole c.write_node.new.out 1 (child ∷ []) 1 node refl
