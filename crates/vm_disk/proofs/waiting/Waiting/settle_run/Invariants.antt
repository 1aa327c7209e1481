use Rattle.std.proofs.Common.{◌≡◌, ◌<◌, ◌≤◌, ◌&&◌, ℕ, true, nat_le, nat_lt, if◌then◌else◌, None}
use Rattle.vm_disk.specs.Waiting.{bytes_for, waits, count_of, limit_of, Settles}
use Rattle.vm_disk.proofs.waiting.Waiting.settle_run.Given as goal

abbrev pub invariant-loop-n : goal.invariant-loop-n
invariant-loop-n l =
    record {
      gone : (k : ℕ) → bytes_for l.self k ≡ (if nat_le l.first k && nat_lt k l.n then None else bytes_for l.initial.self k);
      most : count_of l.self ≤ count_of l.initial.self;
      fewer : l.first < l.n → waits l.initial.self l.first ≡ true → count_of l.self < count_of l.initial.self;
      limit : limit_of l.self ≡ limit_of l.initial.self;
      settles : Settles (λ k. nat_le l.first k && nat_lt k l.n) l.initial.self l.self;
    }
