use Rattle.std.proofs.Common.{refl, sym, arith}
use Rattle.vm_disk.proofs.MomentLemmas.{same_medium}
use Rattle.vm_alloc.specs.Marks.{IsMarked}
use Rattle.vm_tree.proofs.Looking.{passed_on}
use Rattle.vm_check.proofs.CopyLemmas.{copied_back, copied_in}
use Rattle.vm_check.proofs.CopySteps.{same_fault, step_on}
use Rattle.vm_check.proofs.ReachedLemmas.{marked_then}
use Rattle.vm_store.proofs.CopyingLemmas.{version_at, version_here, versions_next}
use Rattle.vm_store.proofs.store.copies.copy_versions.Goals as goal

pub returns-in_err-copy-clause-step : goal.returns-in_err-copy-clause-step
returns-in_err-copy-clause-step g c =
    rw (passed_on _ c.from_residual.ensures.1) (step_on c.loop-version.invariant.step refl c.in_err-copy.ensures.step (λ is. cc) (λ is. cc) (λ is. cc) (λ is. cc))

pub loop-version-preserved : goal.loop-version-preserved
loop-version-preserved g c =
    let so_far = c.loop-version.invariant in
    let more = c.in_ok-copy.ensures in
    record {
      step = step_on so_far.step refl more.step (λ is. cc) (λ is. cc) (λ is. cc) (λ is. refl);
      reached = λ source marks fs stands.
          let before = more.step.looks.goes.earlier source in
          let same = same_medium _ _ (so_far.step.looks.reads before) in
          let at = version_at (IsMarked marks) _ c.args.blocks c.args.versions.now fs c.loop-version.version-index c.version-item.result (omega (arith, c.loop-version-test.true)) stands in
          marked_then marks _ _ _ (so_far.reached before marks fs stands) (more.reached source marks at.0 (version_here same (IsMarked marks) c.args.blocks _ _ at.0 (sym c.version-item.is) at.1)) (λ is. cc);
      many = omega (arith, c.in-Ok.ensures.len, so_far.many);
      room = omega (arith, c.in-Ok.ensures.capacity, so_far.room);
      copied = λ source target before.
          let same = same_medium _ _ (so_far.step.looks.reads (more.step.looks.goes.earlier source)) in
          let at = so_far.copied (more.step.looks.goes.earlier source) (more.step.goes.earlier target) before in
          let next = more.copied source target (copied_in same _ c.args.limit c.loop-version.numbers at.0) in (
            copied_back same _ c.args.limit c.copy_version.new.numbers next.0,
            versions_next more.step.numbers c.args.versions.now c.loop-version.version-index c.version-item.result c.in_ok-copy.copy c.loop-version.copies.items _ (omega (arith, c.loop-version-test.true)) (sym c.version-item.is) at.1 next.1 c.in-Ok.ensures.items,
          );
    }

pub returns-in_err-copy-clause-sound : goal.returns-in_err-copy-clause-sound
returns-in_err-copy-clause-sound g c source fs stands b is =
    let so_far = c.loop-version.invariant in
    let same = same_medium _ _ (so_far.step.looks.reads (c.in_err-copy.ensures.step.looks.goes.earlier source)) in
    let at = version_at (λ n. Unit {0}) _ c.args.blocks c.args.versions.now fs c.loop-version.version-index c.version-item.result (omega (arith, c.loop-version-test.true)) stands in
    c.in_err-copy.ensures.sound source at.0 (version_here same (λ n. Unit {0}) c.args.blocks _ _ at.0 (sym c.version-item.is) at.1) b (same_fault _ _ _ c.from_residual.ensures.1 is)

pub returns-in_err-copy-clause-reached : goal.returns-in_err-copy-clause-reached
returns-in_err-copy-clause-reached g c source marks fs stands =
    let so_far = c.loop-version.invariant in
    let before = c.in_err-copy.ensures.step.looks.goes.earlier source in
    let same = same_medium _ _ (so_far.step.looks.reads before) in
    let at = version_at (IsMarked marks) _ c.args.blocks c.args.versions.now fs c.loop-version.version-index c.version-item.result (omega (arith, c.loop-version-test.true)) stands in
    marked_then marks _ _ _ (so_far.reached before marks fs stands) (c.in_err-copy.ensures.reached source marks at.0 (version_here same (IsMarked marks) c.args.blocks _ _ at.0 (sym c.version-item.is) at.1))
    (λ is. same_fault _ _ _ c.from_residual.ensures.1 is)
