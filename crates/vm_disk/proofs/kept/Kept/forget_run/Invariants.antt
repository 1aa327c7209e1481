use Rattle.std.proofs.Common.{◌≡◌, ◌+◌, ◌<◌, ℕ, false}
use Rattle.vm_disk.specs.Kept.{Settings, entries_of, keeps, without_run}
use Rattle.vm_disk.proofs.kept.Kept.forget_run.Given as goal

abbrev pub invariant-loop-i : goal.invariant-loop-i
invariant-loop-i l =
    record {
      entries : entries_of l.self ≡ without_run l.first l.i (entries_of l.initial.self);
      gone : (j : ℕ) → j < l.i → keeps (l.first + j) (entries_of l.self) ≡ false;
      settings : Settings l.initial.self l.self;
    }
