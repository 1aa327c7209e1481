use Rattle.std.proofs.Common.{◌≡◌, ◌≢◌, true, None, inl, inr, refl, sym, subst, ap, ◌∙◌, Err}
use Rattle.vm_types.specs.declared.refusal.Refusal.TheVariants.{Device}
use Rattle.vm_types.specs.State.{opened}
use Rattle.vm_disk.specs.Disk.{Goes}
use Rattle.vm_disk.specs.Moments.{Throughout}
use Rattle.vm_disk.proofs.GoesLemmas.{goes_at}
use Rattle.vm_store.specs.Refused.{IsAtMostSynced, IsRefused}
use Rattle.vm_cli.specs.declared.program.opening.NoStore.TheVariants.{Refused}
use Rattle.vm_cli.proofs.OpeningLemmas.{memory_unnamed, memory_untold}
use Rattle.vm_cli.proofs.CountingLemmas.{counted_shown, is_err, is_ok}
use Rattle.vm_cli.proofs.program.check_disk.Goals as goal

pub returns-in-Ok-counts-clause-told : goal.returns-in-Ok-counts-clause-told
returns-in-Ok-counts-clause-told g c =
    let old = g.D.Disk.state c.args.disk in
    let store = c.in-Ok.store in
    let counts = c.in-Ok-counts.counts in
    let there = λ (honest : (g.D.Disk.state c.close-disk.result).honest ≡ true). subst (λ d. (g.D.Disk.state d).honest ≡ true) c.close-disk.ensures.disk honest in
    inl (record {
      alternatives = counts.alternatives;
      checkpoints = counts.checkpoints;
      free = counts.free;
      counted = record {
        goes = subst (λ d. Goes ⊥ old (g.D.Disk.state d)) (sym c.close-disk.ensures.disk) c.in-Ok.ensures.opening.opened.goes;
        counted = λ honest.
            let opens = c.in-Ok.ensures.opening.opened.opens (there honest) in
            let synced = c.in-Ok.ensures.opening.opened.synced (there honest) in
            let said = is_ok _ c.count-counts.result _ c.in-Ok-counts.is (c.count-counts.ensures.counted c.in-Ok.ensures.opening.opened.well (opened opens.seen) opens.stands.holds) in
            counted_shown g.D.Disk _ store synced.same opens counts said;
        moments = λ honest. subst (λ d. Throughout old (g.D.Disk.state d) (IsAtMostSynced old.now)) (sym c.close-disk.ensures.disk) (c.in-Ok.ensures.opening.opened.moments (there honest));
      };
      told = c.counted.ensures;
    })

pub returns-in-Ok-clause-told : goal.returns-in-Ok-clause-told
returns-in-Ok-clause-told g c =
    let old = g.D.Disk.state c.args.disk in
    let refusal = c.in-Err-counts.refusal in
    let there = λ (honest : (g.D.Disk.state c.close-disk.result).honest ≡ true). subst (λ d. (g.D.Disk.state d).honest ≡ true) c.close-disk.ensures.disk honest in
    let never : refusal ≢ Device = λ is. c.count-counts.ensures.never c.in-Ok.ensures.opening.opened.well (c.in-Err-counts.is ∙ ap Err is) in
    inr (record {
      why = Refused refusal;
      damaged = None;
      refused = record {
        goes = subst (λ d. Goes (refusal ≡ Device) old (g.D.Disk.state d)) (sym c.close-disk.ensures.disk) (goes_at _ _ _ _ c.in-Ok.ensures.opening.opened.goes (λ is. absurd (never is)));
        why = λ honest.
            let opens = c.in-Ok.ensures.opening.opened.opens (there honest) in
            let memory = is_err _ c.count-counts.result _ c.in-Err-counts.is (c.count-counts.ensures.refused c.in-Ok.ensures.opening.opened.well (opened opens.seen) opens.stands.holds) in
            subst (IsRefused old.now.contents) (sym memory) tt;
        earlier = λ honest.
            let opens = c.in-Ok.ensures.opening.opened.opens (there honest) in
            let memory = is_err _ c.count-counts.result _ c.in-Err-counts.is (c.count-counts.ensures.refused c.in-Ok.ensures.opening.opened.well (opened opens.seen) opens.stands.holds) in
            memory_untold old.now.contents refusal memory;
        moments = λ honest. subst (λ d. Throughout old (g.D.Disk.state d) (IsAtMostSynced old.now)) (sym c.close-disk.ensures.disk) (c.in-Ok.ensures.opening.opened.moments (there honest));
      };
      names = memory_unnamed old (g.D.Disk.state c.close-disk.result) refusal (λ honest.
          let opens = c.in-Ok.ensures.opening.opened.opens (there honest) in
          is_err _ c.count-counts.result _ c.in-Err-counts.is (c.count-counts.ensures.refused c.in-Ok.ensures.opening.opened.well (opened opens.seen) opens.stands.holds));
      told = c.refused.ensures;
    })

pub returns-in-Ok-counts-clause-ends : goal.returns-in-Ok-counts-clause-ends
returns-in-Ok-counts-clause-ends g c =
    let counts = c.in-Ok-counts.counts in
    inl (refl, (counts.alternatives, counts.checkpoints, counts.free, c.counted.ensures))

pub returns-in-Ok-clause-ends : goal.returns-in-Ok-clause-ends
returns-in-Ok-clause-ends g c = inr (refl, (Refused c.in-Err-counts.refusal, None, c.refused.ensures))
