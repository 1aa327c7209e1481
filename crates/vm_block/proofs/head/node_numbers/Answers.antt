use Rattle.std.proofs.Common.{Some, sym, ◌∙◌, arith}
use Rattle.std.proofs.lemmas.Bool.{false≢true}
use Rattle.vm_block.proofs.HeadLemmas.{node_head_found, node_head_only}
use Rattle.vm_block.proofs.head.node_numbers.Goals as goal

pub returns-then-is_node-clause-found : goal.returns-then-is_node-clause-found
returns-then-is_node-clause-found c =
    let h = c.read_head-head.result in
    node_head_found c.args.bytes.now h.letters h.level h.count h.zero c.read_head-head.ensures (c.is_node.ensures.0 c.if-is_node.true)

pub returns-then-is_node-clause-only : goal.returns-then-is_node-clause-only
returns-then-is_node-clause-only c level n head =
    let h = c.read_head-head.result in
    let same = node_head_only c.args.bytes.now h.letters h.level h.count h.zero level n (omega arith) (omega arith) (omega arith) (omega arith) c.read_head-head.ensures head in
    λ i. Some (same.1 i, same.2 i)

pub returns-else-is_node-clause-only : goal.returns-else-is_node-clause-only
returns-else-is_node-clause-only c level n head =
    let h = c.read_head-head.result in
    absurd (false≢true (sym c.if-is_node.false ∙ c.is_node.ensures.1 (node_head_only c.args.bytes.now h.letters h.level h.count h.zero level n (omega arith) (omega arith) (omega arith) (omega arith) c.read_head-head.ensures head).0))
