use Rattle.std.proofs.Common.{Err, inl, subst, sym, ap, ◌∙◌}
use Rattle.vm_catalog.specs.Place.{slot_at}
use Rattle.vm_catalog.specs.Catalog.{SlotAt}
use Rattle.vm_catalog.specs.SlotReads.{Loads}
use Rattle.vm_store.proofs.store.recovery.load_slot.Goals as goal

pub returns-in-Err-Damaged-clause-refused : goal.returns-in-Err-Damaged-clause-refused
returns-in-Err-Damaged-clause-refused g c honest store in_use =
    let x = (g.D.Disk.state c.args.disk.now).now.contents in (
      store,
      inl (
        c.first_block.ensures ∙ ap slot_at in_use,
        λ limit es slot. subst (λ e. Loads (Err e) limit es) c.in-Err-Damaged.field-0-is (c.in-Err-Damaged.ensures.only honest limit es (subst (λ b. SlotAt x b limit es) (sym in_use) slot)),
      ),
    )

pub returns-in-Err-Damaged-clause-none : goal.returns-in-Err-Damaged-clause-none
returns-in-Err-Damaged-clause-none g c honest in_use n is limit es slot =
    let x = (g.D.Disk.state c.args.disk.now).now.contents in
    subst (λ e. Loads (Err e) limit es) c.in-Err-Damaged.field-0-is (c.in-Err-Damaged.ensures.only honest limit es (subst (λ b. SlotAt x b limit es) (sym in_use) slot))
