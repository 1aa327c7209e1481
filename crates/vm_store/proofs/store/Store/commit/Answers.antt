use Rattle.std.proofs.Common.{rules, inl, inr, refl, sym, ap, subst, ◌∙◌}
use Rattle.vm_types.specs.declared.answer.Answer.TheVariants.{Done}
use Rattle.vm_disk.proofs.MomentLemmas.{weaken}
use Rattle.vm_block.specs.Slot.{SlotFits}
use Rattle.vm_store.specs.Versions.{slot_entries}
use Rattle.vm_store.proofs.GuardLemmas.{lent_guarded}
use Rattle.vm_store.proofs.LongerLemmas.{rests_renamed}
use Rattle.vm_store.proofs.PerformLemmas.{performs_commit}
use Rattle.vm_store.proofs.RestingLemmas.{published, lent_left, is_published_as}
use Rattle.vm_types.specs.declared.command.Command.TheVariants.{Commit}
use Rattle.vm_store.proofs.VersionLemmas.{answers_done}
use Rattle.vm_store.proofs.SeriesLemmas.{holds_alone}
use Rattle.vm_store.proofs.store.Store.commit.Goals as goal

pub returns-in-Ok : goal.returns-in-Ok
returns-in-Ok g c =
    let is = c.deref.ensures.value ∙ c.write_entries.ensures.items ∙ ap slot_entries c.as_slice.ensures.items in
    performs_commit _ _ _
    (λ honest s holds.
    let rests = holds.rests in
    let fits = subst (SlotFits c.args.self.now.parts.blocks) (sym is) rests.fits in record {
      answers = answers_done s _ ⊥ Commit s.working refl (λ never. never) refl;
      state = λ fine. holds_alone rests.blocks (rests_renamed _ _ _ _ _ _ _ _ _ _ c.other-self.ensures refl refl (published _ _ _ _ _ _ s rests _ _ Done (is_published_as _ _ _ _ _ _ is (c.in-Ok.ensures.done honest _ _ rests.rest fits)) c.copy_from.ensures));
      crash = weaken _ _ _ _ (λ m leaves left may. lent_left _ _ _ _ _ _ s rests _ is left (leaves left may)) (c.in-Ok.ensures.any_moment honest _ _ rests.rest fits);
      guarded = weaken _ _ _ _ (λ m publishing. lent_guarded _ _ _ _ _ _ s rests _ is m publishing) (c.in-Ok.ensures.moments honest _ _ rests.rest fits);
      unsynced = λ other. absurd (other refl);
    })
    (rw (← is) (c.in-Ok.ensures.written, c.in-Ok.ensures.touched)) (inl refl) (search rules) (search rules) (search rules)

pub returns-in-Err : goal.returns-in-Err
returns-in-Err g c =
    let is = c.deref.ensures.value ∙ c.write_entries.ensures.items ∙ ap slot_entries c.as_slice.ensures.items in
    performs_commit _ _ _
    (λ honest s holds.
    let rests = holds.rests in
    let fits = subst (SlotFits c.args.self.now.parts.blocks) (sym is) rests.fits in record {
      answers = inl refl;
      state = λ fine. absurd (fine refl);
      crash = weaken _ _ _ _ (λ m leaves left may. lent_left _ _ _ _ _ _ s rests _ is left (leaves left may)) (c.in-Err.ensures.any_moment honest _ _ rests.rest fits);
      guarded = weaken _ _ _ _ (λ m publishing. lent_guarded _ _ _ _ _ _ s rests _ is m publishing) (c.in-Err.ensures.moments honest _ _ rests.rest fits);
      unsynced = λ other. absurd (other refl);
    })
    (rw (← is) (c.in-Err.ensures.written, c.in-Err.ensures.touched)) (inr refl) (search rules) (search rules) (search rules)
