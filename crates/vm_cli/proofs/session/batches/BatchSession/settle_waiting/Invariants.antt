use Rattle.std.proofs.Common.{◌<◌, ◌≤◌, ◌+◌, ◌-◌, ◌*◌, List, Ok, false, drop, length}
use Rattle.vm_types.specs.State.{State}
use Rattle.vm_cli.specs.session.Feeds.{FeedsOn}
use Rattle.vm_cli.specs.session.PlannerCalls.{AreWaiting}
use Rattle.vm_cli.specs.session.Waiting.{Waiting}
use Rattle.vm_cli.specs.session.WaitingCalls.{KeepsWaiting}
use Rattle.vm_cli.proofs.WaitingLemmas.{SettlesSoFar}
use Rattle.vm_cli.proofs.session.batches.BatchSession.settle_waiting.Given as goal

-- those before `from` were carried out, round by round
abbrev pub invariant-loop-from : goal.invariant-loop-from
invariant-loop-from g l = record {
  keeps : KeepsWaiting l.fn.waiting.items l.waiting.items l.fn.self l.self;
  first : l.from ≤ length l.fn.waiting.items;
  last : l.to ≤ length l.fn.waiting.items;
  order : l.from ≤ l.to;
  some : l.from < length l.fn.waiting.items → l.from < l.to;
  store : FeedsOn (Ok false) l.fn.store l.store;
  settled : (s : State) (waiting : List Waiting) → AreWaiting l.fn.waiting.items waiting
      → SettlesSoFar l.fn.store s l.fn.self.manner waiting l.store (drop l.from waiting) l.refused (g.W.Write.contents l.fn.writer) (g.W.Write.contents l.writer);
}

-- fewer wait on, or fewer are tried
abbrev pub decreases-loop-from : goal.decreases-loop-from
decreases-loop-from g l = (length l.fn.waiting.items - l.from) * (length l.fn.waiting.items + 1) + (l.to - l.from)
