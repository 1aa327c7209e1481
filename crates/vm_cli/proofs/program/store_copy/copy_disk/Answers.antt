use Rattle.std.proofs.Common.{◌≡◌, true, ap, inr, refl, sym, subst}
use Rattle.vm_types.specs.State.{opened}
use Rattle.vm_disk.specs.Disk.{Goes}
use Rattle.vm_disk.specs.Moments.{Throughout}
use Rattle.vm_disk.proofs.MomentLemmas.{then_reads}
use Rattle.vm_store.specs.Refused.{IsAtMostSynced}
use Rattle.vm_cli.specs.program.Copies.TakesCopy.{makes, refuses}
use Rattle.vm_cli.specs.program.Exits.SaysNoCopy.{copy_refused}
use Rattle.vm_cli.proofs.CopyingLemmas.{copied_from, in_use_shown}
use Rattle.vm_cli.proofs.PassLemmas.{goes_both}
use Rattle.vm_cli.proofs.program.store_copy.copy_disk.Goals as goal

pub returns-in-Ok-clause-copied : goal.returns-in-Ok-clause-copied
returns-in-Ok-clause-copied g c place honest =
    let old = g.P.D.Disk.state c.args.disk in
    let store = c.in-Ok.store in
    let there = subst (λ d. (g.P.D.Disk.state d).honest ≡ true) c.close.ensures.disk honest in
    let goes = c.copy_store-exit.ensures.any in
    let earlier = goes.earlier there in
    let opens = c.in-Ok.ensures.opened.opens earlier in
    let synced = c.in-Ok.ensures.opened.synced earlier in
    let first = c.in-Ok.ensures.opened.goes in
    let copy_made = c.copy_store-exit.ensures.files place there c.in-Ok.ensures.opened.well (opened opens.seen) opens.stands.holds in
    makes opens.seen _
    (record {
      goes = subst (λ d. Goes ⊥ old (g.P.D.Disk.state d)) (sym c.close.ensures.disk) (goes_both _ _ _ first goes);
      shown = opens.shown;
      moments = subst (λ d. Throughout old (g.P.D.Disk.state d) (IsAtMostSynced old.now)) (sym c.close.ensures.disk) (then_reads _ _ _ _ (c.in-Ok.ensures.opened.moments earlier) (c.copy_store-exit.ensures.reads there));
    })
    (in_use_shown g.P.D.Disk _ store synced.same opens)
    (copied_from _ _ _ _ _ _ _ first _ _ (ap g.P.D.Disk.state c.close.ensures.disk) copy_made)

pub returns-in-Err-clause-ends : goal.returns-in-Err-clause-ends
returns-in-Err-clause-ends g c = inr (refl, (_, copy_refused c.in-Err.why, c.unopened.ensures))

pub returns-in-Err-clause-copied : goal.returns-in-Err-clause-copied
returns-in-Err-clause-copied g c place honest = refuses c.in-Err.why c.in-Err.ensures.refused refl c.unopened.ensures
