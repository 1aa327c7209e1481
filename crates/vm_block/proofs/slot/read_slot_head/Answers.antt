use Rattle.std.proofs.Common.{refl, sym, ◌∙◌}
use Rattle.std.proofs.lemmas.Bool.{false≢true}
use Rattle.vm_block.proofs.Pieces.{told_apart}
use Rattle.vm_block.proofs.SlotLemmas.{head_read, head_fits, head_again}
use Rattle.vm_block.proofs.slot.read_slot_head.Goals as goal

pub returns-then-not-fits-clause-only : goal.returns-then-not-fits-clause-only
returns-then-not-fits-clause-only c = λ limit n head.
    let same = head_read c.args.bytes.now limit n c.read_u32.result c.read_u32-2.result _ _ head c.read_u32.ensures c.read_u32-2.ensures refl refl in
    false≢true (sym c.if-not-fits.true ∙ c.fits.ensures.1 (head_fits limit n c.read_u32.result c.read_u32-2.result head.fits same))

pub returns-then-eq-clause-only : goal.returns-then-eq-clause-only
returns-then-eq-clause-only c = λ limit n head.
    head_read c.args.bytes.now limit n c.read_u32.result c.read_u32-2.result _ _ head c.read_u32.ensures c.read_u32-2.ensures refl refl

pub returns-else-eq-clause-only : goal.returns-else-eq-clause-only
returns-else-eq-clause-only c = λ limit n head.
    let same = head_read c.args.bytes.now limit n c.read_u32.result c.read_u32-2.result _ _ head c.read_u32.ensures c.read_u32-2.ensures refl refl in
    told_apart _ _ c.eq.result c.eq.ensures c.if-eq.false (head_again c.args.bytes.now c.write_slot_head.new.out limit n c.read_u32.result c.read_u32-2.result head same c.write_slot_head.ensures)
