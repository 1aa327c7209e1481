use Rattle.std.proofs.Common.{arith}
use Rattle.vm_disk.proofs.MomentLemmas.{and_then, weaken}
use Rattle.vm_disk.specs.Moments.{Leaves}
use Rattle.vm_store.specs.Shown.{ShowsAtMost}
use Rattle.vm_store.proofs.LayoutLemmas.{nothing_most, ready_now}
use Rattle.vm_store.proofs.store.new_store.put_down.Goals as goal

pub returns-in_default-clause-moments : goal.returns-in_default-clause-moments
returns-in_default-clause-moments g c tree maps honest clean none =
    weaken _ _ _ _ (nothing_most _) (c.lay_out.ensures.moments honest clean none)

pub returns-clause-moments : goal.returns-clause-moments
returns-clause-moments g c tree maps honest clean none =
    let before = c.put_header.ensures.any.earlier honest in
    let blocks = c.args.blocks in
    let laid = weaken _ _ _ (Leaves (ShowsAtMost (record { tree = tree; blocks = blocks }))) (nothing_most _) (c.lay_out.ensures.moments before clean none) in
    and_then _ _ _ (Leaves (ShowsAtMost (record { tree = tree; blocks = blocks }))) laid
    (c.put_header.ensures.moments honest tree blocks c.args.entries.now (ready_now tree blocks _ _ _ maps (c.in-Ok.ensures.laid before maps.fits)))

pub returns-clause-down : goal.returns-clause-down
returns-clause-down g c honest tree maps =
    let before = c.put_header.ensures.any.earlier honest in
    c.put_header.ensures.completed honest tree c.args.blocks c.args.entries.now (ready_now tree c.args.blocks _ _ _ maps (c.in-Ok.ensures.laid before maps.fits)) (omega (arith, c.lay_out.ensures.any.same_blocks, c.requires.room))
