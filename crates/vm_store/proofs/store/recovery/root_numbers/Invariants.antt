use Rattle.std.proofs.Common.{◌≡◌, take}
use Rattle.vm_store.specs.Versions.{numbers_of}
use Rattle.vm_store.proofs.store.recovery.root_numbers.Given as goal

abbrev pub invariant-loop-entry : goal.invariant-loop-entry
invariant-loop-entry l = l.numbers.items ≡ numbers_of (take l.entry-index l.entries)
