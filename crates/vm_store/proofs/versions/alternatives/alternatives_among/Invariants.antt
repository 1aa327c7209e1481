use Rattle.std.proofs.Common.{◌≡◌, take}
use Rattle.vm_store.specs.Versions.{alternatives_among}
use Rattle.vm_store.proofs.versions.alternatives.alternatives_among.Given as goal

abbrev pub invariant-loop-version : goal.invariant-loop-version
invariant-loop-version l = l.list.items ≡ alternatives_among (take l.version-index l.versions)
