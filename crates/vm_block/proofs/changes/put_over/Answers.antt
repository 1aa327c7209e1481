use Rattle.std.proofs.Common.{subst, arith}
use Rattle.vm_types.specs.Places.{place}
use Rattle.vm_block.specs.Look.{IsLook}
use Rattle.vm_block.proofs.OverLemmas.{over_leaf}
use Rattle.vm_block.proofs.changes.put_over.Goals as goal

pub returns-else-high-low-clause-only : goal.returns-else-high-low-clause-only
returns-else-high-low-clause-only c key fits rs leaf there =
    let i = c.in-Found.index in
    let found = subst (λ look. IsLook (place key) look rs) c.in-Found.is there in
    let low = c.values_range-low.ensures.low rs leaf (omega (arith, found.within)) in
    let high = c.values_range-low.ensures.high rs leaf (omega (arith, found.within)) in
    over_leaf c.args.bytes.now c.copy_from_slice.new.self rs key c.args.value.now i c.values_range-low.result.0 _ leaf fits c.requires.short found low (omega (arith, low, high, c.if-high-low.false, c.values_range-low.ensures.order)) c.if-high-low.false c.copy_from_slice.ensures.after
