use Rattle.std.proofs.Common.{◌≡◌, ℕ, ◌<◌, false, get_or}
use Rattle.vm_store.specs.Versions.{is_checkpoint_of}
use Rattle.vm_store.specs.declared.version.Version.{Version}
use Rattle.vm_store.proofs.versions.checkpoint_position.Given as goal

abbrev pub invariant-loop-i : goal.invariant-loop-i
invariant-loop-i l = (k : ℕ) (d : Version) → k < l.i → is_checkpoint_of l.alt l.name (get_or l.versions k d) ≡ false
