use Rattle.std.proofs.Common.{refl, sym, ◌∙◌}
use Rattle.std.proofs.lemmas.Bool.{false≢true}
use Rattle.vm_block.proofs.Pieces.{begins_with, zero_behind}
use Rattle.vm_block.proofs.bytes.is_framed.Goals as goal

pub returns-then-starts_with : goal.returns-then-starts_with
returns-then-starts_with c =
    let front = begins_with c.args.bytes.now c.args.head.now c.starts_with.result c.starts_with.ensures.value in
    let back = zero_behind c.args.bytes.now c.args.end _ refl in
    (λ cleared. (front.0 c.if-starts_with.true, back.0 (c.are_zero.ensures.0 cleared)), λ both. c.are_zero.ensures.1 (back.1 both.1))

pub returns-else-starts_with : goal.returns-else-starts_with
returns-else-starts_with c =
    let front = begins_with c.args.bytes.now c.args.head.now c.starts_with.result c.starts_with.ensures.value in
    (λ framed. absurd (false≢true (sym c.if-starts_with.false ∙ framed)), λ both. front.1 both.0)
