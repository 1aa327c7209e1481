use Rattle.std.proofs.Common.{◌≡◌, Err, refl, subst, sym, ap, ◌∙◌, arith, Some, None, Ok, option_copied}
use Rattle.vm_types.specs.declared.command.Command.TheVariants.{Remove}
use Rattle.vm_types.specs.declared.refusal.Refusal.{Refusal}
use Rattle.vm_types.specs.declared.refusal.Refusal.TheVariants.{NoSuchRecord}
use Rattle.vm_disk.proofs.MomentLemmas.{at_end, reads_keep, touches_nothing, started}
use Rattle.vm_alloc.specs.Held.{free_count}
use Rattle.vm_tree.specs.Faults.{refusal_of}
use Rattle.vm_tree.specs.Free.{is_free}
use Rattle.vm_tree.proofs.Looking.{passed_on}
use Rattle.vm_tree.proofs.RemoveLemmas.{damaged_keeps, none_keeps}
use Rattle.vm_store.specs.Answers.{IsAnswer}
use Rattle.vm_store.specs.Rest.{before_of, spare_of}
use Rattle.vm_store.proofs.CarryLemmas.{changed, wrote}
use Rattle.vm_store.proofs.FaultLemmas.{spares_before}
use Rattle.vm_store.proofs.FirstLemmas.{fault_takes, late_fault}
use Rattle.vm_store.proofs.MarkedLemmas.{free_at_most}
use Rattle.vm_store.proofs.PartsLemmas.{same_parts}
use Rattle.vm_store.proofs.Removing.{removes_missing, removes_done, removes_device, removed_root, removed_none, removed_there, some_value, for_reason}
use Rattle.vm_store.proofs.RestingLemmas.{found_entry, value_found}
use Rattle.vm_store.proofs.SeriesLemmas.{in_series, holds_as, holds_then, looked_holds, remove_holds}
use Rattle.vm_store.proofs.SpareTests.{no_fewer}
use Rattle.vm_store.proofs.TopLemmas.{grown_of, grown_small}
use Rattle.vm_store.proofs.store.Store.remove_in_series.Goals as goal

pub returns-clause-carried : goal.returns-clause-carried
returns-clause-carried g c honest s holds reason =
    let self = c.args.self.now in
    let rests = holds.rests in
    let alt = c.args.alt.now in
    let e = c.args.version in
    let is = c.requires.found in
    let found = found_entry _ _ _ _ _ _ s rests alt e is in
    let before = grown_of _ _ _ _ e.current _ (sym self.parts.bits) found.stands.current in
    let removed = c.in_ok-removed.ensures.remove honest found.filed.current before.stands_in before.rooted in
    let grown = grown_of _ _ _ _ c.in-Some.root _ self.parts.bits (removed_root _ _ _ _ c.in-Some.is removed before.each) in
    let value = some_value _ (removed_there _ _ _ _ c.in-Some.is removed) in
    let there = value_found _ _ _ _ _ _ s rests alt e is c.args.key (Some value.0) (sym value.1) in
    let room = no_fewer _ _ (omega (arith, c.requires.room, free_at_most _ _ _ _ _ _ s self.parts.bits rests)) in
    let stays = ap (λ o. before_of o self.parts.held) c.before_series.ensures in
    let series = in_series _ _ _ _ _ _ _ s alt _ _ c.requires.series stays holds in
    changed _ _ s holds (Remove alt c.args.key) _ (removes_done s alt c.args.key _ _ value.0 there room (λ deep. deep))
    _ (started _ _ refl) series (c.in_ok-removed.ensures.writes.moments honest _ series.wider (spares_before (option_copied c.before_series.result) self.parts.held)) (c.in_ok-removed.ensures.writes.unsynced honest) c.in_ok-removed.ensures.writes.still
    (λ _. holds_as refl c.set_current.ensures
    (holds_then alt _ _ c.requires.series stays
    (remove_holds _ _ _ _ _ _ _ s rests alt e is series _ c.remove.new.held c.in-Some.root (grown_small _ _ _ _ _ self.parts.most grown)
    (at_end _ _ _ (c.in_ok-removed.ensures.writes.moments honest _ series.wider (spares_before (option_copied c.before_series.result) self.parts.held))) c.in_ok-removed.ensures.writes.still c.args.key holds.keeps value.0 there grown)))

pub returns-in_default-clause-carried : goal.returns-in_default-clause-carried
returns-in_default-clause-carried g c honest s holds reason =
    let self = c.args.self.now in
    let rests = holds.rests in
    let alt = c.args.alt.now in
    let e = c.args.version in
    let is = c.requires.found in
    let found = found_entry _ _ _ _ _ _ s rests alt e is in
    let before = grown_of _ _ _ _ e.current _ (sym self.parts.bits) found.stands.current in
    let removed = c.in_ok-removed.ensures.remove honest found.filed.current before.stands_in before.rooted in
    let missing = value_found _ _ _ _ _ _ s rests alt e is c.args.key None (sym (removed_none _ _ _ c.in_default.is removed)) in
    let kept = c.remove.ensures.kept in
    let there = none_keeps (option_copied c.before_series.result) c.args.self.now.parts.held c.remove.new.held c.remove.result (c.in_ok-removed.was ∙ ap Ok c.in_default.is) in
    let moments = reads_keep _ _ _ (kept.reads honest there) (touches_nothing (is_free self.parts.held) _) in
    let answers : (r : Refusal) → r ≡ NoSuchRecord → IsAnswer s (spare_of rests) ⊥ (Remove alt c.args.key) (Err r) = λ r same.
    subst (λ (r : Refusal). IsAnswer s (spare_of rests) ⊥ (Remove alt c.args.key) (Err r)) (sym same) (removes_missing s alt c.args.key _ _ missing) in
    wrote _ _ s holds (Remove alt c.args.key) _ (answers c.args.missing (for_reason reason (λ there. there (sym missing))))
    _ (started _ _ refl) rests moments (c.in_ok-removed.ensures.writes.unsynced honest) c.in_ok-removed.ensures.writes.still
    (λ _. looked_holds _ _ _ _ _ _ _ _ _ _ s (kept.reads honest there) (kept.kept there) holds)

pub returns-in_err-removed-clause-carried : goal.returns-in_err-removed-clause-carried
returns-in_err-removed-clause-carried g c honest s holds reason =
    let self = c.args.self.now in
    let rests = holds.rests in
    let alt = c.args.alt.now in
    let e = c.args.version in
    let found = found_entry _ _ _ _ _ _ s rests alt e c.requires.found in
    let before = grown_of _ _ _ _ e.current _ (sym self.parts.bits) found.stands.current in
    let removed = c.in_err-removed.ensures.remove honest found.filed.current before.stands_in before.rooted in
    let stays = ap (λ o. before_of o self.parts.held) c.before_series.ensures in
    let series = in_series _ _ _ _ _ _ _ s alt _ _ c.requires.series stays holds in
    let moments = c.in_err-removed.ensures.writes.moments honest _ series.wider (spares_before (option_copied c.before_series.result) self.parts.held) in
    rw (passed_on _ c.from_residual.ensures.1)
    (changed _ _ s holds (Remove alt c.args.key) _ (removes_device s alt c.args.key _ _ c.in_err-removed.field-0.0 removed)
    _ (started _ _ refl) series moments (c.in_err-removed.ensures.writes.unsynced honest) c.in_err-removed.ensures.writes.still
    (λ fine. absurd (fine (ap Err (ap refusal_of removed)))))

pub returns-in_default-clause-reads : goal.returns-in_default-clause-reads
returns-in_default-clause-reads g c honest first = c.remove.ensures.kept.reads honest (none_keeps (option_copied c.before_series.result) c.args.self.now.parts.held c.remove.new.held c.remove.result (c.in_ok-removed.was ∙ ap Ok c.in_default.is))

pub returns-in_err-removed-clause-reads : goal.returns-in_err-removed-clause-reads
returns-in_err-removed-clause-reads g c honest = rw (passed_on _ c.from_residual.ensures.1) (λ first. absurd (late_fault c.in_err-removed.field-0.0 first))

pub returns-in_default-clause-free : goal.returns-in_default-clause-free
returns-in_default-clause-free g c =
    let same = c.remove.ensures.kept.kept (none_keeps (option_copied c.before_series.result) c.args.self.now.parts.held c.remove.new.held c.remove.result (c.in_ok-removed.was ∙ ap Ok c.in_default.is)) in
    (λ enough. omega (arith, ap free_count same), λ honest few. absurd (omega (arith, c.requires.room, few)))

pub returns-in_err-removed-clause-free : goal.returns-in_err-removed-clause-free
returns-in_err-removed-clause-free g c =
    rw (passed_on _ c.from_residual.ensures.1) (
      λ enough. fault_takes 8 c.args.self.now.parts.held c.remove.new.held (omega (arith, c.in_err-removed.ensures.writes.taken)) c.in_err-removed.field-0.0 (λ b is. c.in_err-removed.ensures.kept.kept (damaged_keeps (option_copied c.before_series.result) c.args.self.now.parts.held c.remove.new.held c.in_err-removed.field-0.0 b is)),
      λ honest few. absurd (omega (arith, c.requires.room, few)),
    )

pub returns-in_default-clause-unchanged : goal.returns-in_default-clause-unchanged
returns-in_default-clause-unchanged g c early =
    let same = c.remove.ensures.kept.kept (none_keeps (option_copied c.before_series.result) c.args.self.now.parts.held c.remove.new.held c.remove.result (c.in_ok-removed.was ∙ ap Ok c.in_default.is)) in
    record { alloc = refl; parts = same_parts _ _ refl refl refl refl refl refl same refl refl refl refl refl; failed = refl }
