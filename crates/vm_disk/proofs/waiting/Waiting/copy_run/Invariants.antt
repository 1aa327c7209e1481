use Rattle.std.proofs.Common.{◌≡◌, ◌+◌, ◌<◌, ℕ, [], length, Some, slice_index_or}
use Rattle.vm_disk.specs.Waiting.{bytes_for}
use Rattle.vm_disk.proofs.waiting.Waiting.copy_run.Given as goal

abbrev pub invariant-loop-n : goal.invariant-loop-n
invariant-loop-n l =
    record {
      place : l.first + length l.run.items ≡ l.n;
      copied : (i : ℕ) → i < length l.run.items → bytes_for l.self (l.first + i) ≡ Some (slice_index_or l.run.items i []);
    }
