use Rattle.std.proofs.Common.{◌≡◌, ◌≤◌, ◌+◌, ◌++◌, length, take, vec_capacity}
use Rattle.vm_store.specs.Versions.{versions_of}
use Rattle.vm_store.proofs.versions.add_versions.Given as goal

abbrev pub invariant-loop-i : goal.invariant-loop-i
invariant-loop-i l = record {
  items : l.into.items ≡ l.fn.into.items ++ versions_of (take l.i l.entries) l.roots;
  count : length l.into.items ≡ length l.fn.into.items + l.i;
  room : vec_capacity l.fn.into ≤ vec_capacity l.into;
}
