use Rattle.std.proofs.Common.{◌*◌, drop, sym, ◌∙◌, arith}
use Rattle.std.proofs.lemmas.List.{take-take}
use Rattle.vm_block.proofs.NodeLemmas.{node_children}
use Rattle.vm_block.proofs.node.spelled_children.Goals as goal

pub returns-clause-only : goal.returns-clause-only
returns-clause-only c level cs node count =
    node_children c.args.bytes.now level cs c.read_children.new.children.items c.args.count 4080 node count (omega arith) c.read_children.ensures.many c.read_children.ensures.fit c.read_children.ensures.spelled

pub returns-clause-spelled : goal.returns-clause-spelled
returns-clause-spelled c = sym (take-take (14 * c.args.count) 4080 (drop 16 c.args.bytes.now) (omega (arith, c.requires))) ∙ c.read_children.ensures.spelled
