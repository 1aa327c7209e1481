use Rattle.std.proofs.Common.{refl, ap, ◌∙◌, length}
use Rattle.vm_disk.specs.Disk.{block}
use Rattle.vm_disk.proofs.MomentLemmas.{goes_on, weaken, at_end, write_on}
use Rattle.vm_block.specs.Selector.{selector_bytes}
use Rattle.vm_block.specs.Slot.{used_blocks}
use Rattle.vm_catalog.proofs.PublishLemmas.{in_other_slot, touches_other, before_selector, at_selector, ready_by, ends_published, ends_safely, left_by_publish, stays_written, sync_on, touches_turned}
use Rattle.vm_catalog.proofs.writer.publish.Goals as goal

-- up to the writes of the slot
pub returns-in_err-write_slot-clause-moments : goal.returns-in_err-write_slot-clause-moments
returns-in_err-write_slot-clause-moments g c honest limit es rest fits =
    let old = g.D.Disk.state c.args.disk.now in
    weaken _ _ _ _ (before_selector c.args.in_use old.now limit es c.args.blocks c.args.entries.now rest fits) (touches_other _ _ (used_blocks (length c.args.entries.now)) c.other-free.ensures (c.write_slot.ensures.moments honest))

pub returns-in_err-write_slot-clause-any_moment : goal.returns-in_err-write_slot-clause-any_moment
returns-in_err-write_slot-clause-any_moment g c honest limit es rest fits =
    weaken _ _ _ _ (left_by_publish _ _ _ _ _ _) (returns-in_err-write_slot-clause-moments g c honest limit es rest fits)

-- up to the first sync
pub returns-in_err-sync-clause-moments : goal.returns-in_err-sync-clause-moments
returns-in_err-sync-clause-moments g c honest limit es rest fits =
    let old = g.D.Disk.state c.args.disk.now in
    let before = before_selector c.args.in_use old.now limit es c.args.blocks c.args.entries.now rest fits in
    let writes = touches_other _ _ (used_blocks (length c.args.entries.now)) c.other-free.ensures (c.write_slot.ensures.moments (c.sync.ensures.any.earlier honest)) in
    weaken _ _ _ _ before (sync_on _ _ _ _ _ writes (c.sync.ensures.honest honest))

pub returns-in_err-sync-clause-any_moment : goal.returns-in_err-sync-clause-any_moment
returns-in_err-sync-clause-any_moment g c honest limit es rest fits =
    weaken _ _ _ _ (left_by_publish _ _ _ _ _ _) (returns-in_err-sync-clause-moments g c honest limit es rest fits)

-- up to the write of the selector
pub returns-in_err-select_slot-clause-moments : goal.returns-in_err-select_slot-clause-moments
returns-in_err-select_slot-clause-moments g c honest limit es rest fits =
    let old = g.D.Disk.state c.args.disk.now in
    let before = before_selector c.args.in_use old.now limit es c.args.blocks c.args.entries.now rest fits in
    let sync = c.sync.ensures.honest (c.select_slot.ensures.any.earlier honest) in
    let synced = c.in_ok-sync.ensures.honest (c.select_slot.ensures.any.earlier honest) in
    let slot = sync_on _ _ _ _ _ (touches_other _ _ (used_blocks (length c.args.entries.now)) c.other-free.ensures (c.write_slot.ensures.moments (c.sync.ensures.any.earlier (c.select_slot.ensures.any.earlier honest)))) sync in
    let ready = ready_by c.args.in_use old.now limit es c.args.blocks c.args.entries.now rest fits _ _ (at_end _ _ _ slot) synced.synced sync.same (in_other_slot _ (used_blocks (length c.args.entries.now)) c.other-free.ensures (c.in_ok-write_slot.ensures.written (c.sync.ensures.any.earlier (c.select_slot.ensures.any.earlier honest)))) in
    let turn = c.select_slot.ensures.honest honest in
    goes_on _ _ _ _ (weaken _ _ _ _ before slot) turn.time
    (at_selector c.args.in_use old.now limit es c.args.blocks c.args.entries.now rest fits _ _ ready turn.dirty turn.count turn.sure turn.others turn.others_dirty)

pub returns-in_err-select_slot-clause-any_moment : goal.returns-in_err-select_slot-clause-any_moment
returns-in_err-select_slot-clause-any_moment g c honest limit es rest fits =
    weaken _ _ _ _ (left_by_publish _ _ _ _ _ _) (returns-in_err-select_slot-clause-moments g c honest limit es rest fits)

-- the last sync
pub returns-clause-moments : goal.returns-clause-moments
returns-clause-moments g c honest limit es rest fits =
    let old = g.D.Disk.state c.args.disk.now in
    let before = before_selector c.args.in_use old.now limit es c.args.blocks c.args.entries.now rest fits in
    let sync = c.sync.ensures.honest (c.select_slot.ensures.any.earlier (c.sync-2.ensures.any.earlier honest)) in
    let synced = c.in_ok-sync.ensures.honest (c.select_slot.ensures.any.earlier (c.sync-2.ensures.any.earlier honest)) in
    let slot = sync_on _ _ _ _ _ (touches_other _ _ (used_blocks (length c.args.entries.now)) c.other-free.ensures (c.write_slot.ensures.moments (c.sync.ensures.any.earlier (c.select_slot.ensures.any.earlier (c.sync-2.ensures.any.earlier honest))))) sync in
    let ready = ready_by c.args.in_use old.now limit es c.args.blocks c.args.entries.now rest fits _ _ (at_end _ _ _ slot) synced.synced sync.same (in_other_slot _ (used_blocks (length c.args.entries.now)) c.other-free.ensures (c.in_ok-write_slot.ensures.written (c.sync.ensures.any.earlier (c.select_slot.ensures.any.earlier (c.sync-2.ensures.any.earlier honest))))) in
    let turn = c.select_slot.ensures.honest (c.sync-2.ensures.any.earlier honest) in
    let turned = c.in_ok-select_slot.ensures.honest (c.sync-2.ensures.any.earlier honest) in
    let safe = at_selector c.args.in_use old.now limit es c.args.blocks c.args.entries.now rest fits _ _ ready turn.dirty turn.count turn.sure turn.others turn.others_dirty in
    let last = c.sync-2.ensures.honest honest in
    goes_on _ _ _ _ (goes_on _ _ _ _ (weaken _ _ _ _ before slot) turn.time safe) last.time
    (ends_safely c.args.in_use old.now limit es c.args.blocks c.args.entries.now rest fits _ _ _ _ (record { is_ready = ready; chosen = turned.written ∙ ap selector_bytes c.other-free.ensures; count = turn.count; others = turn.others }) safe last)

pub returns-clause-any_moment : goal.returns-clause-any_moment
returns-clause-any_moment g c honest limit es rest fits =
    weaken _ _ _ _ (left_by_publish _ _ _ _ _ _) (returns-clause-moments g c honest limit es rest fits)

pub returns-clause-done : goal.returns-clause-done
returns-clause-done g c honest limit es rest fits =
    let old = g.D.Disk.state c.args.disk.now in
    let sync = c.sync.ensures.honest (c.select_slot.ensures.any.earlier (c.sync-2.ensures.any.earlier honest)) in
    let synced = c.in_ok-sync.ensures.honest (c.select_slot.ensures.any.earlier (c.sync-2.ensures.any.earlier honest)) in
    let slot = sync_on _ _ _ _ _ (touches_other _ _ (used_blocks (length c.args.entries.now)) c.other-free.ensures (c.write_slot.ensures.moments (c.sync.ensures.any.earlier (c.select_slot.ensures.any.earlier (c.sync-2.ensures.any.earlier honest))))) sync in
    let ready = ready_by c.args.in_use old.now limit es c.args.blocks c.args.entries.now rest fits _ _ (at_end _ _ _ slot) synced.synced sync.same (in_other_slot _ (used_blocks (length c.args.entries.now)) c.other-free.ensures (c.in_ok-write_slot.ensures.written (c.sync.ensures.any.earlier (c.select_slot.ensures.any.earlier (c.sync-2.ensures.any.earlier honest))))) in
    let turn = c.select_slot.ensures.honest (c.sync-2.ensures.any.earlier honest) in
    let turned = c.in_ok-select_slot.ensures.honest (c.sync-2.ensures.any.earlier honest) in
    let last = c.sync-2.ensures.honest honest in
    ends_published c.args.in_use old.now limit es c.args.blocks c.args.entries.now rest fits _ _ _ _ (record { is_ready = ready; chosen = turned.written ∙ ap selector_bytes c.other-free.ensures; count = turn.count; others = turn.others }) last

-- the other slot and the selector alone are touched
pub returns-in_err-write_slot-clause-touched : goal.returns-in_err-write_slot-clause-touched
returns-in_err-write_slot-clause-touched g c honest = touches_turned _ _ (length c.args.entries.now) c.other-free.ensures (c.write_slot.ensures.moments honest)

pub returns-in_err-sync-clause-touched : goal.returns-in_err-sync-clause-touched
returns-in_err-sync-clause-touched g c honest =
    sync_on _ _ _ _ _ (touches_turned _ _ (length c.args.entries.now) c.other-free.ensures (c.write_slot.ensures.moments (c.sync.ensures.any.earlier honest))) (c.sync.ensures.honest honest)

pub returns-in_err-select_slot-clause-touched : goal.returns-in_err-select_slot-clause-touched
returns-in_err-select_slot-clause-touched g c honest =
    let before = c.select_slot.ensures.any.earlier honest in
    write_on _ _ _ _ _ _ _ refl (sync_on _ _ _ _ _ (touches_turned _ _ (length c.args.entries.now) c.other-free.ensures (c.write_slot.ensures.moments (c.sync.ensures.any.earlier before))) (c.sync.ensures.honest before)) (c.select_slot.ensures.honest honest)

pub returns-clause-touched : goal.returns-clause-touched
returns-clause-touched g c honest =
    let turned = c.sync-2.ensures.any.earlier honest in
    let before = c.select_slot.ensures.any.earlier turned in
    sync_on _ _ _ _ _ (write_on _ _ _ _ _ _ _ refl (sync_on _ _ _ _ _ (touches_turned _ _ (length c.args.entries.now) c.other-free.ensures (c.write_slot.ensures.moments (c.sync.ensures.any.earlier before))) (c.sync.ensures.honest before)) (c.select_slot.ensures.honest turned)) (c.sync-2.ensures.honest honest)

-- the slot is written, and neither the syncs nor the selector change it
pub returns-clause-written : goal.returns-clause-written
returns-clause-written g c honest =
    let turned = c.sync-2.ensures.any.earlier honest in
    let before = c.select_slot.ensures.any.earlier turned in
    let sync = c.sync.ensures.honest before in
    let slot = in_other_slot _ (used_blocks (length c.args.entries.now)) c.other-free.ensures (c.in_ok-write_slot.ensures.written (c.sync.ensures.any.earlier before)) in
    let selector = c.select_slot.ensures.honest turned in
    stays_written _ _ _ _ _ _ _ slot (λ n other. selector.others n other ∙ ap (λ x. block x n) sync.same) ((c.in_ok-select_slot.ensures.honest turned).written ∙ ap selector_bytes c.other-free.ensures) (c.sync-2.ensures.honest honest).same
