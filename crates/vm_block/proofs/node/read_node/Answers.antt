use Rattle.std.proofs.Common.{List, sym, ◌∙◌, subst, arith}
use Rattle.std.proofs.lemmas.Bool.{false≢true}
use Rattle.vm_types.specs.Places.{RisesFrom}
use Rattle.vm_block.specs.declared.node.Child.{Child}
use Rattle.vm_block.specs.Node.{lows}
use Rattle.vm_block.proofs.NodeLemmas.{node_numbers, node_range, node_framed, node_children, node_found}
use Rattle.vm_block.proofs.node.read_node.Goals as goal

pub returns-then-not-is_in_range-clause-only : goal.returns-then-not-is_in_range-clause-only
returns-then-not-is_in_range-clause-only c = λ level cs node.
    let same = node_numbers c.args.bytes.now level cs c.read_u32-level.result c.read_u32-count.result 4092 4088 node c.read_u32-level.ensures c.read_u32-count.ensures (omega arith) (omega arith) in
    false≢true (sym c.if-not-is_in_range.true ∙ c.is_in_range.ensures.1 (node_range c.args.bytes.now level cs c.read_u32-level.result c.read_u32-count.result node same))

pub returns-then-not-is_framed-clause-only : goal.returns-then-not-is_framed-clause-only
returns-then-not-is_framed-clause-only c = λ level cs node.
    let same = node_numbers c.args.bytes.now level cs c.read_u32-level.result c.read_u32-count.result 4092 4088 node c.read_u32-level.ensures c.read_u32-count.ensures (omega arith) (omega arith) in
    let framed = node_framed c.args.bytes.now level cs c.read_u32-level.result c.read_u32-count.result c.write_node_head.new.out node same c.write_node_head.ensures in
    false≢true (sym c.if-not-is_framed.true ∙ c.is_framed.ensures.1 framed)

pub returns-then-not-are_rising-clause-only : goal.returns-then-not-are_rising-clause-only
returns-then-not-are_rising-clause-only c = λ level cs node.
    let same = node_numbers c.args.bytes.now level cs c.read_u32-level.result c.read_u32-count.result 4092 4088 node c.read_u32-level.ensures c.read_u32-count.ensures (omega arith) (omega arith) in
    let children = node_children c.args.bytes.now level cs c.read_children.new.children.items c.read_u32-count.result 4080 node same.1 (omega arith) c.read_children.ensures.many c.read_children.ensures.fit c.read_children.ensures.spelled in
    let rising = subst (λ (ds : List Child). RisesFrom 0 (lows ds)) (sym (c.as_slice.ensures.value ∙ children)) node.rising in
    false≢true (sym c.if-not-are_rising.true ∙ c.are_rising.ensures.1 rising)

pub returns-clause-found : goal.returns-clause-found
returns-clause-found c =
    let items = c.read_children.new.children.items in
    let range = c.is_in_range.ensures.0 c.if-not-is_in_range.false in
    let framed = c.is_framed.ensures.0 c.if-not-is_framed.false in
    let rising = subst (λ (cs : List Child). RisesFrom 0 (lows cs)) c.as_slice.ensures.value (c.are_rising.ensures.0 c.if-not-are_rising.false) in
    node_found c.args.bytes.now items c.read_u32-level.result c.read_u32-count.result 4080 c.told-bytes range.0 range.1 range.2 range.3 c.read_children.ensures.many c.write_node_head.new.out c.write_node_head.ensures framed.0 framed.1 (omega arith) c.read_children.ensures.spelled c.read_children.ensures.fit rising

pub returns-clause-only : goal.returns-clause-only
returns-clause-only c = λ level cs node.
    let same = node_numbers c.args.bytes.now level cs c.read_u32-level.result c.read_u32-count.result 4092 4088 node c.read_u32-level.ensures c.read_u32-count.ensures (omega arith) (omega arith) in
    (same.0, node_children c.args.bytes.now level cs c.read_children.new.children.items c.read_u32-count.result 4080 node same.1 (omega arith) c.read_children.ensures.many c.read_children.ensures.fit c.read_children.ensures.spelled)
