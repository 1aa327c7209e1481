use Rattle.std.proofs.Common.{Some, sym, ap, ◌∙◌, arith}
use Rattle.std.proofs.lemmas.Bool.{false≢true}
use Rattle.vm_block.proofs.HeadLemmas.{leaf_head_found, leaf_head_only}
use Rattle.vm_block.proofs.leaf.leaf_len.Goals as goal

pub returns-then-is_head-clause-found : goal.returns-then-is_head-clause-found
returns-then-is_head-clause-found c =
    let h = c.read_head-head.result in
    leaf_head_found c.args.bytes.now h.letters h.level h.count h.zero c.read_head-head.ensures (c.is_head.ensures.0 c.if-is_head.true)

pub returns-then-is_head-clause-only : goal.returns-then-is_head-clause-only
returns-then-is_head-clause-only c n head =
    let h = c.read_head-head.result in
    ap Some (leaf_head_only c.args.bytes.now h.letters h.level h.count h.zero n (omega arith) (omega arith) (omega arith) (omega arith) c.read_head-head.ensures head).1

pub returns-else-is_head-clause-only : goal.returns-else-is_head-clause-only
returns-else-is_head-clause-only c n head =
    let h = c.read_head-head.result in
    absurd (false≢true (sym c.if-is_head.false ∙ c.is_head.ensures.1 (leaf_head_only c.args.bytes.now h.letters h.level h.count h.zero n (omega arith) (omega arith) (omega arith) (omega arith) c.read_head-head.ensures head).0))
