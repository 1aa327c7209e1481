use Rattle.std.proofs.Common.{◌≡◌, ◌≤◌, true}
use Rattle.vm_disk.specs.Waiting.{waits}
use Rattle.vm_disk.proofs.waiting.Waiting.begin_run.Given as goal

abbrev pub invariant-loop-first : goal.invariant-loop-first
invariant-loop-first l =
    record {
      order : l.first ≤ l.n;
      waits : waits l.self l.n ≡ true → waits l.self l.first ≡ true;
    }

abbrev pub decreases-loop-first : goal.decreases-loop-first
decreases-loop-first l = l.first
