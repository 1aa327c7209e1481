use Rattle.std.proofs.Common.{◌≡◌, true, Err, IfErr, subst, sym, ap, ◌∙◌, arith}
use Rattle.vm_disk.specs.Disk.{Contents, block, Medium}
use Rattle.vm_disk.proofs.MomentLemmas.{then_reads, same_medium}
use Rattle.vm_block.specs.Selector.{named_slot}
use Rattle.vm_catalog.specs.Catalog.{SlotAt}
use Rattle.vm_tree.proofs.Looking.{passed_on}
use Rattle.vm_store.specs.Refused.{HasNoSlot, IsStore, IsRefused}
use Rattle.vm_store.proofs.OpeningLemmas.{all_read, all_told, err_so, ok_so, ok_with, parts_show, settled_then, slot_told, trees_under, untold}
use Rattle.vm_store.proofs.store.recovery.find_store.Goals as goal

pub returns-clause-moments : goal.returns-clause-moments
returns-clause-moments g c honest =
    then_reads _ _ _ _ (then_reads _ _ _ _ (c.find_slot.ensures.moments (c.load_slot.ensures.any.earlier (c.read_maps.ensures.any.earlier honest))) (c.load_slot.ensures.reads (c.read_maps.ensures.any.earlier honest))) (c.read_maps.ensures.reads honest)

pub returns-clause-synced : goal.returns-clause-synced
returns-clause-synced g c honest other =
    settled_then _ _ _ (settled_then _ _ _ (c.in_ok-slot_name.ensures.synced (c.load_slot.ensures.any.earlier (c.read_maps.ensures.any.earlier honest)) (λ e. cc)) (c.load_slot.ensures.reads (c.read_maps.ensures.any.earlier honest))) (c.read_maps.ensures.reads honest)

pub returns-clause-holds : goal.returns-clause-holds
returns-clause-holds g c honest =
    let synced = settled_then _ _ _ (c.in_ok-slot_name.ensures.synced (c.load_slot.ensures.any.earlier (c.read_maps.ensures.any.earlier honest)) (λ e. cc)) (c.load_slot.ensures.reads (c.read_maps.ensures.any.earlier honest)) in
    let found = c.in_ok-slot_name.ensures.found (c.load_slot.ensures.any.earlier (c.read_maps.ensures.any.earlier honest)) in
    let same = same_medium _ _ (c.load_slot.ensures.reads (c.read_maps.ensures.any.earlier honest)) in
    let store = subst IsStore (sym synced.same) found.0 in
    let in_use = found.1 ∙ ap (λ x. named_slot (block x 1)) (sym synced.same) in
    let slot = subst (λ (m : Medium). SlotAt m.contents c.in_ok-slot_name.slot_name c.in_ok-slot.slot.blocks c.in_ok-slot.slot.entries.items) (sym same) (c.in_ok-slot.ensures.found (c.read_maps.ensures.any.earlier honest)) in
    let read = same_medium _ _ (c.read_maps.ensures.reads honest) in
    parts_show _ c.read_maps.result (λ seen shown. c.read_maps.ensures.holds honest synced.clean store in_use slot (trees_under _ _ read _ _ _ in_use slot seen shown))

pub returns-clause-read : goal.returns-clause-read
returns-clause-read g c inner honest =
    let synced = settled_then _ _ _ (c.in_ok-slot_name.ensures.synced (c.load_slot.ensures.any.earlier (c.read_maps.ensures.any.earlier honest)) (λ e. cc)) (c.load_slot.ensures.reads (c.read_maps.ensures.any.earlier honest)) in
    let found = c.in_ok-slot_name.ensures.found (c.load_slot.ensures.any.earlier (c.read_maps.ensures.any.earlier honest)) in
    let same = same_medium _ _ (c.load_slot.ensures.reads (c.read_maps.ensures.any.earlier honest)) in
    let store = subst IsStore (sym synced.same) found.0 in
    let in_use = found.1 ∙ ap (λ x. named_slot (block x 1)) (sym synced.same) in
    let slot = subst (λ (m : Medium). SlotAt m.contents c.in_ok-slot_name.slot_name c.in_ok-slot.slot.blocks c.in_ok-slot.slot.entries.items) (sym same) (c.in_ok-slot.ensures.found (c.read_maps.ensures.any.earlier honest)) in
    let read = same_medium _ _ (c.read_maps.ensures.reads honest) in
    let whole = g.met.D.Disk.whole c.load_slot.new.disk (c.read_maps.ensures.any.earlier honest) in
    all_read _ _ read _ _ _ in_use slot c.read_maps.result store (omega (arith, whole, c.in_ok-slot.ensures.inside, c.load_slot.ensures.any.same_blocks)) (c.read_maps.ensures.topped inner honest)

pub returns-clause-whole : goal.returns-clause-whole
returns-clause-whole g c walk honest =
    let synced = settled_then _ _ _ (c.in_ok-slot_name.ensures.synced (c.load_slot.ensures.any.earlier (c.read_maps.ensures.any.earlier honest)) (λ e. cc)) (c.load_slot.ensures.reads (c.read_maps.ensures.any.earlier honest)) in
    let found = c.in_ok-slot_name.ensures.found (c.load_slot.ensures.any.earlier (c.read_maps.ensures.any.earlier honest)) in
    let same = same_medium _ _ (c.load_slot.ensures.reads (c.read_maps.ensures.any.earlier honest)) in
    let store = subst IsStore (sym synced.same) found.0 in
    let in_use = found.1 ∙ ap (λ x. named_slot (block x 1)) (sym synced.same) in
    let slot = subst (λ (m : Medium). SlotAt m.contents c.in_ok-slot_name.slot_name c.in_ok-slot.slot.blocks c.in_ok-slot.slot.entries.items) (sym same) (c.in_ok-slot.ensures.found (c.read_maps.ensures.any.earlier honest)) in
    let read = same_medium _ _ (c.read_maps.ensures.reads honest) in
    ok_so c.read_maps.result _ _ (λ parts hold. (hold.seen, hold.shown))
    (ok_with c.read_maps.result _ (c.read_maps.ensures.whole walk honest) (λ trees. c.read_maps.ensures.holds honest synced.clean store in_use slot trees))

pub returns-clause-refused : goal.returns-clause-refused
returns-clause-refused g c honest =
    let synced = settled_then _ _ _ (c.in_ok-slot_name.ensures.synced (c.load_slot.ensures.any.earlier (c.read_maps.ensures.any.earlier honest)) (λ e. cc)) (c.load_slot.ensures.reads (c.read_maps.ensures.any.earlier honest)) in
    let found = c.in_ok-slot_name.ensures.found (c.load_slot.ensures.any.earlier (c.read_maps.ensures.any.earlier honest)) in
    let same = same_medium _ _ (c.load_slot.ensures.reads (c.read_maps.ensures.any.earlier honest)) in
    subst (λ (x : Contents). IfErr c.read_maps.result (IsRefused x)) synced.same
    (c.read_maps.ensures.refused honest (subst IsStore (sym synced.same) found.0) (found.1 ∙ ap (λ x. named_slot (block x 1)) (sym synced.same))
    (subst (λ (m : Medium). SlotAt m.contents c.in_ok-slot_name.slot_name c.in_ok-slot.slot.blocks c.in_ok-slot.slot.entries.items) (sym same) (c.in_ok-slot.ensures.found (c.read_maps.ensures.any.earlier honest))))

pub returns-in_err-slot-clause-moments : goal.returns-in_err-slot-clause-moments
returns-in_err-slot-clause-moments g c honest =
    then_reads _ _ _ _ (c.find_slot.ensures.moments (c.load_slot.ensures.any.earlier honest)) (c.load_slot.ensures.reads honest)

pub returns-in_err-slot-clause-synced : goal.returns-in_err-slot-clause-synced
returns-in_err-slot-clause-synced g c honest other =
    settled_then _ _ _ (c.in_ok-slot_name.ensures.synced (c.in_err-slot.ensures.any.earlier honest) (λ e. cc)) (c.load_slot.ensures.reads honest)

pub returns-in_err-slot-clause-refused : goal.returns-in_err-slot-clause-refused
returns-in_err-slot-clause-refused g c honest =
    let synced = c.in_ok-slot_name.ensures.synced (c.in_err-slot.ensures.any.earlier honest) (λ e. cc) in
    let found = c.in_ok-slot_name.ensures.found (c.in_err-slot.ensures.any.earlier honest) in
    rw (passed_on _ c.from_residual-in_err-slot.ensures.1)
    (subst (λ (x : Contents). IsRefused x c.in_err-slot.field-0.0) synced.same
    (c.in_err-slot.ensures.refused honest (subst IsStore (sym synced.same) found.0) (found.1 ∙ ap (λ x. named_slot (block x 1)) (sym synced.same))))

pub returns-clause-damaged : goal.returns-clause-damaged
returns-clause-damaged g c survey =
    let synced = λ (honest : (g.D.Disk.state c.read_maps.new.disk).honest ≡ true). (c.in_ok-slot_name.ensures.synced (c.load_slot.ensures.any.earlier (c.read_maps.ensures.any.earlier honest)) (λ e. cc)).same in
    err_so c.read_maps.result _ _ (λ refusal told. all_told (g.D.Disk.state c.args.disk.now) (g.D.Disk.state c.find_slot.new.disk) (g.D.Disk.state c.load_slot.new.disk) (g.D.Disk.state c.read_maps.new.disk) _ _ refusal
    synced
    (λ honest. same_medium _ _ (c.load_slot.ensures.reads (c.read_maps.ensures.any.earlier honest)))
    (λ honest. (c.in_ok-slot_name.ensures.found (c.load_slot.ensures.any.earlier (c.read_maps.ensures.any.earlier honest))).1)
    (λ honest. c.in_ok-slot.ensures.found (c.read_maps.ensures.any.earlier honest)) told)
    (c.read_maps.ensures.damaged survey)

pub returns-in_err-slot-clause-damaged : goal.returns-in_err-slot-clause-damaged
returns-in_err-slot-clause-damaged g c survey =
    rw (passed_on _ c.from_residual-in_err-slot.ensures.1)
    (slot_told _ _ _ c.in_err-slot.field-0.0 (λ honest n is.
    let synced = c.in_ok-slot_name.ensures.synced (c.in_err-slot.ensures.any.earlier honest) (λ e. cc) in
    let found = c.in_ok-slot_name.ensures.found (c.in_err-slot.ensures.any.earlier honest) in
    subst (λ (x : Contents). HasNoSlot x) synced.same (c.in_err-slot.ensures.none honest (found.1 ∙ ap (λ x. named_slot (block x 1)) (sym synced.same)) n (ap Err is))))

pub returns-in_err-slot_name-clause-damaged : goal.returns-in_err-slot_name-clause-damaged
returns-in_err-slot_name-clause-damaged g c survey =
    rw (passed_on _ c.from_residual.ensures.1) (untold _ _ _ _ (λ n is. c.in_err-slot_name.ensures.kind n (ap Err is)))
