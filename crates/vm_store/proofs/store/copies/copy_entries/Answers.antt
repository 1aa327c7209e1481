use Rattle.std.proofs.Common.{◌∙◌, ap, length, sym}
use Rattle.vm_tree.proofs.Looking.{passed_on}
use Rattle.vm_check.proofs.CopySteps.{same_fault}
use Rattle.vm_check.proofs.ReachedLemmas.{marked_so}
use Rattle.vm_store.specs.Versions.{slot_entries}
use Rattle.vm_store.proofs.SlotLemmas.{slot-length}
use Rattle.vm_store.proofs.store.copies.copy_entries.Goals as goal

pub returns-in_err-copy_versions-clause-step : goal.returns-in_err-copy_versions-clause-step
returns-in_err-copy_versions-clause-step g c = rw (passed_on _ c.from_residual.ensures.1) c.in_err-copy_versions.ensures.step

pub returns-in_err-copy_versions-clause-sound : goal.returns-in_err-copy_versions-clause-sound
returns-in_err-copy_versions-clause-sound g c source fs stands b is =
    c.in_err-copy_versions.ensures.sound source fs stands b (same_fault _ _ _ c.from_residual.ensures.1 is)

pub returns-clause-many : goal.returns-clause-many
returns-clause-many g c = ap length c.write_entries.ensures.items ∙ slot-length _ ∙ ap length c.deref.ensures.value ∙ c.in_ok-copy_versions.ensures.many

pub returns-clause-copied : goal.returns-clause-copied
returns-clause-copied g c source target so_far =
    let done = c.in_ok-copy_versions.ensures.copied source target so_far in record {
      copies = c.copy_versions.new.copies.items;
      named = sym (c.write_entries.ensures.items ∙ ap slot_entries c.deref.ensures.value);
      copied = done.0;
      each = done.1;
    }

pub returns-in_err-copy_versions-clause-reached : goal.returns-in_err-copy_versions-clause-reached
returns-in_err-copy_versions-clause-reached g c source marks fs stands =
    marked_so marks _ _ (c.in_err-copy_versions.ensures.reached source marks fs stands) (λ is. same_fault _ _ _ c.from_residual.ensures.1 is)
