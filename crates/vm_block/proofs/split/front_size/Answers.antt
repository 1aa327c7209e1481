use Rattle.std.proofs.Common.{◌+◌, ◌-◌, ◌*◌, ◌≤◌, ◌∷◌, [], length, ap, ◌∙◌, arith}
use Rattle.vm_block.proofs.SplitLemmas.{front_before, front_behind}
use Rattle.vm_block.proofs.split.front_size.Goals as goal

pub returns-then-h-coming-clause-only : goal.returns-then-h-coming-clause-only
returns-then-h-coming-clause-only c rs r leaf many long =
    let coming = c.args.coming.now in
    front_before rs (r ∷ []) c.args.h coming.index coming.next _ c.if-h-coming.true (omega (arith, many, c.requires.coming)) (c.end_before.ensures.only rs leaf (omega (arith, many, c.requires.coming, c.if-h-coming.true)))

pub returns-clause-only : goal.returns-clause-only
returns-clause-only c rs r leaf many long =
    let coming = c.args.coming.now in
    let k = c.args.h - coming.index - 1 in
    let room : coming.next + k ≤ length rs = omega (arith, many, c.requires.coming, c.requires.within, c.if-h-coming.false) in
    ap (λ n. 12 * c.args.h + c.end_before-4.result + coming.len + n) c.saturating_sub-behind.ensures
    ∙ front_behind rs r c.args.h coming.index coming.next k c.end_before-4.result c.end_before-3.result c.end_before-2.result coming.len (omega (arith, c.if-h-coming.false)) (omega (arith, many, c.requires.coming)) room
    (c.end_before-4.ensures.only rs leaf (omega (arith, many, c.requires.coming)))
    (c.end_before-3.ensures.only rs leaf (omega (arith, many, c.requires.coming)))
    (c.end_before-2.ensures.only rs leaf room)
    long
