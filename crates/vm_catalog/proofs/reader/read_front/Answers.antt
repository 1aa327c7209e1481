use Rattle.std.proofs.Common.{◌≡◌, true, refl, sym, arith, length-take-le}
use Rattle.vm_catalog.proofs.reader.read_front.Goals as goal

pub slice_bounds-read_slot_head-end : goal.slice_bounds-read_slot_head-end
slice_bounds-read_slot_head-end c =
    sym (length-take-le 128 c.args.block.now (omega (arith, c.requires.whole)))

pub read_slot_head-requires : goal.read_slot_head-requires
read_slot_head-requires c =
    length-take-le 128 c.args.block.now (omega (arith, c.requires.whole))

pub returns-clause-only : goal.returns-clause-only
returns-clause-only c limit n head each =
    let same = (c.in_ok-head.ensures.only limit n head).1 in
    let all : c.read_entries.result ≡ true = c.read_entries.ensures.only (λ i lt. each i (omega (arith, same, c.min-count.ensures))) in
    rw (c.then_some.ensures, all) refl
