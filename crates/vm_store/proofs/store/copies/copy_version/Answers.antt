use Rattle.std.proofs.Common.{refl}
use Rattle.vm_disk.proofs.MomentLemmas.{same_medium}
use Rattle.vm_tree.proofs.Looking.{passed_on}
use Rattle.vm_check.proofs.CopyLemmas.{copied_back, copied_in, root_on}
use Rattle.vm_check.proofs.CopySteps.{same_fault, step_on}
use Rattle.vm_check.proofs.ReachedLemmas.{marked_so, marked_then}
use Rattle.vm_store.specs.Sizes.{sizes}
use Rattle.vm_store.proofs.CopyingLemmas.{under_here}
use Rattle.vm_store.proofs.store.copies.copy_version.Goals as goal

pub returns-in_err-base-clause-step : goal.returns-in_err-base-clause-step
returns-in_err-base-clause-step g c =
    rw (passed_on _ c.from_residual-in_err-base.ensures.1) (step_on c.in_ok-current.ensures.step refl c.in_err-base.ensures.step (λ is. cc) (λ is. cc) (λ is. cc) (λ is. cc))

pub returns-clause-step : goal.returns-clause-step
returns-clause-step g c =
    step_on c.in_ok-current.ensures.step refl c.in_ok-base.ensures.step (λ is. cc) (λ is. cc) (λ is. cc) (λ is. refl)

pub returns-clause-copied : goal.returns-clause-copied
returns-clause-copied g c source target so_far =
    let step = c.in_ok-base.ensures.step in
    let first = c.in_ok-current.ensures.copied (step.looks.goes.earlier source) (step.goes.earlier target) so_far in
    let same = same_medium _ _ (c.in_ok-current.ensures.step.looks.reads (step.looks.goes.earlier source)) in
    let then = c.in_ok-base.ensures.copied source target (copied_in same _ c.args.limit c.copy_tree.new.numbers first.0) in (
      copied_back same _ c.args.limit c.copy_tree-2.new.numbers then.0,
      record { kind = refl; name = refl; owner = refl; current = root_on step.numbers _ _ first.1; base = then.1 },
    )

pub returns-in_err-current-clause-sound : goal.returns-in_err-current-clause-sound
returns-in_err-current-clause-sound g c source f stands b is =
    c.in_err-current.ensures.sound source sizes stands.current.stands_in (f.current, stands.current.rooted) b (same_fault _ _ _ c.from_residual.ensures.1 is)

pub returns-in_err-base-clause-sound : goal.returns-in_err-base-clause-sound
returns-in_err-base-clause-sound g c source f stands b is =
    let same = same_medium _ _ (c.in_ok-current.ensures.step.looks.reads (c.in_err-base.ensures.step.looks.goes.earlier source)) in
    c.in_err-base.ensures.sound source sizes stands.base.stands_in (under_here same c.args.blocks c.args.version.now.base stands.base.stands_in (f.base, stands.base.rooted)) b
    (same_fault _ _ _ c.from_residual-in_err-base.ensures.1 is)

pub returns-in_err-current-clause-reached : goal.returns-in_err-current-clause-reached
returns-in_err-current-clause-reached g c source marks f stands =
    marked_so marks _ _ (c.in_err-current.ensures.reached source sizes stands.current.stands_in (f.current, stands.current.rooted) marks stands.current.each) (λ is. same_fault _ _ _ c.from_residual.ensures.1 is)

pub returns-in_err-base-clause-reached : goal.returns-in_err-base-clause-reached
returns-in_err-base-clause-reached g c source marks f stands =
    let before = c.in_err-base.ensures.step.looks.goes.earlier source in
    let same = same_medium _ _ (c.in_ok-current.ensures.step.looks.reads before) in
    marked_then marks _ _ _ (c.in_ok-current.ensures.reached before sizes stands.current.stands_in (f.current, stands.current.rooted) marks stands.current.each)
    (c.in_err-base.ensures.reached source sizes stands.base.stands_in (under_here same c.args.blocks c.args.version.now.base stands.base.stands_in (f.base, stands.base.rooted)) marks stands.base.each)
    (λ is. same_fault _ _ _ c.from_residual-in_err-base.ensures.1 is)

pub returns-clause-reached : goal.returns-clause-reached
returns-clause-reached g c source marks f stands =
    let before = c.in_ok-base.ensures.step.looks.goes.earlier source in
    let same = same_medium _ _ (c.in_ok-current.ensures.step.looks.reads before) in
    marked_then marks _ _ _ (c.in_ok-current.ensures.reached before sizes stands.current.stands_in (f.current, stands.current.rooted) marks stands.current.each)
    (c.in_ok-base.ensures.reached source sizes stands.base.stands_in (under_here same c.args.blocks c.args.version.now.base stands.base.stands_in (f.base, stands.base.rooted)) marks stands.base.each)
    (λ is. cc)
