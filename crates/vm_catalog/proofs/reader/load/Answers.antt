use Rattle.std.proofs.Common.{sym, ◌∙◌, subst, refl}
use Rattle.std.proofs.lemmas.Result.{err_from_is_err_and}
use Rattle.std.proofs.lemmas.Bool.{false≢true}
use Rattle.vm_disk.specs.Disk.{Medium}
use Rattle.vm_disk.proofs.MomentLemmas.{reads_then, same_medium}
use Rattle.vm_block.specs.Slot.{IsLedger, used_blocks}
use Rattle.vm_catalog.specs.Place.{blocks_from, slot_at}
use Rattle.vm_catalog.specs.Catalog.{SlotAt}
use Rattle.vm_catalog.specs.SlotReads.{BeginsSlot}
use Rattle.vm_catalog.proofs.ReadingLemmas.{loaded, loaded_one, loads_fault}
use Rattle.vm_catalog.proofs.reader.load.Goals as goal

pub returns-in_err-head-clause-only : goal.returns-in_err-head-clause-only
returns-in_err-head-clause-only g c honest limit es slot =
    let p = err_from_is_err_and c.from_residual.result c.from_residual.ensures.1 in
    rw (p.1, p.2) (loads_fault _ limit es (c.in_err-head.ensures.only honest limit es slot))

pub read_others-requires-clause-found : goal.read_others-requires-clause-found
read_others-requires-clause-found g c honest =
    let P : Medium → Type 0 = λ m. BeginsSlot (blocks_from m.contents (slot_at c.args.slot_name) 1) c.in_ok-head.head.blocks c.in_ok-head.head.entries c.read_first.new.entries.items in
    subst P (sym (same_medium _ _ (c.read_first.ensures.reads honest))) (c.in_ok-head.ensures.found honest)

pub returns-in_err-read_others-clause-reads : goal.returns-in_err-read_others-clause-reads
returns-in_err-read_others-clause-reads g c honest =
    reads_then _ _ _ (c.read_first.ensures.reads (c.read_others.ensures.any.earlier honest)) (c.read_others.ensures.reads honest)

pub returns-in_err-read_others-clause-only : goal.returns-in_err-read_others-clause-only
returns-in_err-read_others-clause-only g c honest limit es slot =
    let p = err_from_is_err_and c.from_residual-in_err-read_others.result c.from_residual-in_err-read_others.ensures.1 in
    let P : Medium → Type 0 = λ m. SlotAt m.contents c.args.slot_name limit es in
    let there = subst P (sym (same_medium _ _ (c.read_first.ensures.reads (c.in_err-read_others.ensures.any.earlier honest)))) slot in
    rw (p.1, p.2) (loads_fault _ limit es (c.in_err-read_others.ensures.only honest limit es there))

pub returns-then-is_ledger-clause-reads : goal.returns-then-is_ledger-clause-reads
returns-then-is_ledger-clause-reads g c honest =
    reads_then _ _ _ (c.read_first.ensures.reads (c.read_others.ensures.any.earlier honest)) (c.read_others.ensures.reads honest)

pub returns-else-is_ledger-clause-reads : goal.returns-else-is_ledger-clause-reads
returns-else-is_ledger-clause-reads g c honest =
    reads_then _ _ _ (c.read_first.ensures.reads (c.read_others.ensures.any.earlier honest)) (c.read_others.ensures.reads honest)

pub returns-then-is_ledger-clause-found : goal.returns-then-is_ledger-clause-found
returns-then-is_ledger-clause-found g c honest =
    let P : Medium → Type 0 = λ m. BeginsSlot (blocks_from m.contents (slot_at c.args.slot_name) (used_blocks c.in_ok-head.head.entries)) c.in_ok-head.head.blocks c.in_ok-head.head.entries c.read_others.new.entries.items in
    let begins = subst P (same_medium _ _ (c.read_first.ensures.reads (c.in_ok-read_others.ensures.any.earlier honest))) (c.in_ok-read_others.ensures.found honest) in
    let ledger = subst IsLedger c.deref.ensures.value (c.if-is_ledger.ensures.0 refl) in
    loaded (g.D.Disk.state c.args.disk.now).now.contents c.args.slot_name _ _ _ c.in_ok-read_others.ensures.fits begins ledger

pub returns-then-is_ledger-clause-only : goal.returns-then-is_ledger-clause-only
returns-then-is_ledger-clause-only g c honest limit es slot =
    let P : Medium → Type 0 = λ m. BeginsSlot (blocks_from m.contents (slot_at c.args.slot_name) (used_blocks c.in_ok-head.head.entries)) c.in_ok-head.head.blocks c.in_ok-head.head.entries c.read_others.new.entries.items in
    let begins = subst P (same_medium _ _ (c.read_first.ensures.reads (c.in_ok-read_others.ensures.any.earlier honest))) (c.in_ok-read_others.ensures.found honest) in
    loaded_one (g.D.Disk.state c.args.disk.now).now.contents c.args.slot_name _ _ _ limit es c.in_ok-read_others.ensures.fits begins slot

pub returns-else-is_ledger-clause-only : goal.returns-else-is_ledger-clause-only
returns-else-is_ledger-clause-only g c honest limit es slot =
    let P : Medium → Type 0 = λ m. BeginsSlot (blocks_from m.contents (slot_at c.args.slot_name) (used_blocks c.in_ok-head.head.entries)) c.in_ok-head.head.blocks c.in_ok-head.head.entries c.read_others.new.entries.items in
    let begins = subst P (same_medium _ _ (c.read_first.ensures.reads (c.in_ok-read_others.ensures.any.earlier honest))) (c.in_ok-read_others.ensures.found honest) in
    let same = loaded_one (g.D.Disk.state c.args.disk.now).now.contents c.args.slot_name _ _ _ limit es c.in_ok-read_others.ensures.fits begins slot in
    absurd (false≢true (c.if-is_ledger.ensures.1 (subst IsLedger (sym (c.deref.ensures.value ∙ same.1)) slot.fits.ledger)))
