use Rattle.vm_tree.proofs.block_writes.write_node_block.Goals as goal

pub returns-clause-made : goal.returns-clause-made
returns-clause-made g c honest before keep more mine sizes rs above low fan rises made =
    c.write_bytes.ensures.node honest before keep more mine sizes c.args.level c.args.children.now rs c.write_node.ensures above low c.requires.count.0 c.requires.count.1 fan rises made
