use Rattle.std.proofs.Common.{◌≡◌, take}
use Rattle.vm_store.specs.Versions.{checkpoints_among}
use Rattle.vm_store.proofs.versions.checkpoints.checkpoints_among.Given as goal

abbrev pub invariant-loop-version : goal.invariant-loop-version
invariant-loop-version l = l.list.items ≡ checkpoints_among (take l.version-index l.versions) l.alt
