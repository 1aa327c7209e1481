use Rattle.std.proofs.Common.{◌≡◌, ◌≤◌, take, vec_capacity}
use Rattle.vm_store.specs.Versions.{slot_entries}
use Rattle.vm_store.proofs.versions.write_entries.Given as goal

abbrev pub invariant-loop-version : goal.invariant-loop-version
invariant-loop-version l = record {
  items : l.into.items ≡ slot_entries (take l.version-index l.versions);
  room : vec_capacity l.fn.into ≤ vec_capacity l.into;
}
