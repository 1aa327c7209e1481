use Rattle.std.proofs.Common.{◌*◌, ◌++◌, length, drop, ap, ◌∙◌, refl, arith}
use Rattle.std.specs.List.{flat_map}
use Rattle.vm_block.specs.Node.{node_head, child_bytes}
use Rattle.vm_block.proofs.Pieces.{block_written}
use Rattle.vm_block.proofs.NodeLemmas.{length-node_head}
use Rattle.vm_block.proofs.node.write_node_into.Goals as goal

pub returns : goal.returns
returns c =
    let cs = c.args.children.now in
    block_written (node_head c.args.level (length cs)) (flat_map child_bytes cs) c.args.out.now _ _ _ 16 (14 * length cs) _ _ (length-node_head c.args.level (length cs)) (omega arith) (c.write_node_head.ensures ∙ ap (λ l. node_head l (length cs) ++ drop 16 c.args.out.now) c.from.ensures) refl c.write_children.ensures c.write_children.auto.out refl c.put_zeros.ensures
