use Rattle.std.proofs.Common.{refl}
use Rattle.vm_disk.proofs.MomentLemmas.{weaken, goes_on, at_end}
use Rattle.vm_store.proofs.LayoutLemmas.{KeepsFirst, no_header, first_untouched, first_kept, first_synced, laid_now}
use Rattle.vm_store.proofs.store.new_store.lay_out.Goals as goal

pub returns-in_default-clause-moments : goal.returns-in_default-clause-moments
returns-in_default-clause-moments g c honest clean none =
    let old = (g.D.Disk.state c.args.disk.now).now in
    weaken _ _ _ _ (λ m spares. no_header old m none (first_untouched _ old m refl clean spares)) (c.write_slot.ensures.moments honest)

pub returns-in_default-select_slot-clause-moments : goal.returns-in_default-select_slot-clause-moments
returns-in_default-select_slot-clause-moments g c honest clean none =
    let old = (g.D.Disk.state c.args.disk.now).now in
    let written = weaken _ _ _ (KeepsFirst old) (λ m spares. first_untouched _ old m refl clean spares) (c.write_slot.ensures.moments (c.select_slot.ensures.any.earlier honest)) in
    let select = c.select_slot.ensures.honest honest in
    weaken _ _ _ _ (λ m keeps. no_header old m none keeps) (goes_on _ _ _ (KeepsFirst old) written select.time (first_kept _ _ old _ _ (at_end _ _ _ written) select))

pub returns-clause-moments : goal.returns-clause-moments
returns-clause-moments g c honest clean none =
    let old = (g.D.Disk.state c.args.disk.now).now in
    let written = weaken _ _ _ (KeepsFirst old) (λ m spares. first_untouched _ old m refl clean spares) (c.write_slot.ensures.moments (c.select_slot.ensures.any.earlier (c.sync.ensures.any.earlier honest))) in
    let select = c.select_slot.ensures.honest (c.sync.ensures.any.earlier honest) in
    let chosen = goes_on _ _ _ (KeepsFirst old) written select.time (first_kept _ _ old _ _ (at_end _ _ _ written) select) in
    let sync = c.sync.ensures.honest honest in
    weaken _ _ _ _ (λ m keeps. no_header old m none keeps) (goes_on _ _ _ (KeepsFirst old) chosen sync.time (first_synced _ old _ _ (at_end _ _ _ chosen) sync))

pub returns-clause-laid : goal.returns-clause-laid
returns-clause-laid g c honest fits =
    let before = c.sync.ensures.any.earlier honest in
    let written = c.select_slot.ensures.any.earlier before in
    laid_now c.args.blocks c.args.entries.now _ _ _ _ _ _ _ fits (at_end _ _ _ (c.write_slot.ensures.moments written)) (c.in-Ok.ensures.written written) c.in-Ok-select_slot.is (c.select_slot.ensures.honest before) (c.sync.ensures.honest honest)
