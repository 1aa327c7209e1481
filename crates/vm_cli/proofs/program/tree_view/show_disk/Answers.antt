use Rattle.std.proofs.Common.{◌≡◌, ◌∙◌, true, ap, inl, inr, refl, subst, sym, Err}
use Rattle.vm_types.specs.declared.refusal.Refusal.TheVariants.{Device}
use Rattle.vm_types.specs.State.{opened}
use Rattle.vm_disk.specs.Disk.{Goes}
use Rattle.vm_disk.specs.Moments.{Throughout}
use Rattle.vm_disk.proofs.GoesLemmas.{goes_then}
use Rattle.vm_disk.proofs.MomentLemmas.{then_reads}
use Rattle.vm_store.specs.Refused.{IsAtMostSynced, IsRefused}
use Rattle.vm_cli.specs.program.Exits.{Tells}
use Rattle.vm_cli.specs.session.Known.{written_to}
use Rattle.vm_cli.specs.declared.program.Exit.TheVariants.{Done}
use Rattle.vm_cli.specs.declared.program.opening.NoStore.TheVariants.{Refused}
use Rattle.vm_cli.proofs.OpeningLemmas.{device_untold, memory_untold}
use Rattle.vm_cli.proofs.CountingLemmas.{is_err, is_ok}
use Rattle.vm_cli.proofs.PassLemmas.{goes_both, passes_goes}
use Rattle.vm_cli.proofs.program.tree_view.show_disk.Goals as goal

pub returns-in-Ok-drawn-clause-ends : goal.returns-in-Ok-drawn-clause-ends
returns-in-Ok-drawn-clause-ends g c =
    let output = written_to g.W.Write.contents c.args.output.now c.show.new.output in
    let text = is_ok _ c.draw_store-drawn.result _ c.in-Ok-drawn.is c.draw_store-drawn.ensures.text in
    inl (refl, (text.0, subst (λ t. Tells Done c.show.result output t) (c.deref.ensures.value ∙ text.1) c.show.ensures))

pub returns-in-Ok-drawn-clause-told : goal.returns-in-Ok-drawn-clause-told
returns-in-Ok-drawn-clause-told g c honest =
    let old = g.D.Disk.state c.args.disk in
    let output = written_to g.W.Write.contents c.args.output.now c.show.new.output in
    let there = subst (λ d. (g.D.Disk.state d).honest ≡ true) c.close-disk.ensures.disk honest in
    let passes = c.draw_store-drawn.ensures.passes in
    let earlier = passes.goes.earlier there in
    let opens = c.in-Ok.ensures.opened.opens earlier in
    let text = is_ok _ c.draw_store-drawn.result _ c.in-Ok-drawn.is (c.draw_store-drawn.ensures.drawn there c.in-Ok.ensures.opened.well (opened opens.seen) opens.stands.holds) in
    inl (record {
      seen = opens.seen;
      shown = record {
        goes = subst (λ d. Goes ⊥ old (g.D.Disk.state d)) (sym c.close-disk.ensures.disk) (goes_both _ _ _ c.in-Ok.ensures.opened.goes (passes_goes _ _ passes));
        shown = opens.shown;
        moments = subst (λ d. Throughout old (g.D.Disk.state d) (IsAtMostSynced old.now)) (sym c.close-disk.ensures.disk) (then_reads _ _ _ _ (c.in-Ok.ensures.opened.moments earlier) (passes.reads there refl));
      };
      told = subst (λ t. Tells Done c.show.result output t) (c.deref.ensures.value ∙ text) c.show.ensures;
    })

pub returns-in-Err-drawn-clause-told : goal.returns-in-Err-drawn-clause-told
returns-in-Err-drawn-clause-told g c honest =
    let old = g.D.Disk.state c.args.disk in
    let refusal = c.in-Err-drawn.refusal in
    let there = subst (λ d. (g.D.Disk.state d).honest ≡ true) c.close-disk.ensures.disk honest in
    let passes = c.draw_store-drawn.ensures.passes in
    let earlier = passes.goes.earlier there in
    let opens = c.in-Ok.ensures.opened.opens earlier in
    let why = is_err _ c.draw_store-drawn.result _ c.in-Err-drawn.is (c.draw_store-drawn.ensures.refused there c.in-Ok.ensures.opened.well (opened opens.seen) opens.stands.holds) in
    inr (record {
      why = Refused refusal;
      refused = record {
        goes = subst (λ d. Goes (refusal ≡ Device) old (g.D.Disk.state d)) (sym c.close-disk.ensures.disk)
            (goes_then _ _ _ _ _ _ c.in-Ok.ensures.opened.goes c.draw_store-drawn.ensures.any (λ is. c.in-Err-drawn.is ∙ ap Err is));
        why = λ _. elim why [
          | inl device ↦ subst (IsRefused old.now.contents) (sym device) tt
          | inr memory ↦ subst (IsRefused old.now.contents) (sym memory) tt
        ];
        earlier = λ _. elim why [ inl device ↦ device_untold _ _ device | inr memory ↦ memory_untold _ _ memory ];
        moments = λ _. subst (λ d. Throughout old (g.D.Disk.state d) (IsAtMostSynced old.now)) (sym c.close-disk.ensures.disk) (then_reads _ _ _ _ (c.in-Ok.ensures.opened.moments earlier) (passes.reads there refl));
      };
      told = c.refused.ensures;
    })

pub returns-in-Err-drawn-clause-ends : goal.returns-in-Err-drawn-clause-ends
returns-in-Err-drawn-clause-ends g c = inr (refl, (Refused c.in-Err-drawn.refusal, c.refused.ensures))
