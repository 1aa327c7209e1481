use Rattle.std.proofs.Common.{◌≡◌, List, Ok, false, length}
use Rattle.std.specs.Prelude.{slice_range}
use Rattle.vm_types.specs.State.{State}
use Rattle.vm_cli.specs.session.Feeds.{FeedsOn}
use Rattle.vm_cli.specs.session.PlannerCalls.{AreWaiting}
use Rattle.vm_cli.specs.session.Rounds.{Batch as Commanded}
use Rattle.vm_cli.specs.session.Waiting.{CarriesAll, Waiting}
use Rattle.vm_cli.specs.session.WaitingCalls.{StayWaiting, kept_answers}
use Rattle.vm_cli.proofs.session.batches.BatchSession.carry_out_all.Given as goal

-- those so far were carried out, and their answers kept
abbrev pub invariant-loop-at : goal.invariant-loop-at
invariant-loop-at g l = record {
  count : length l.waiting.items ≡ length l.fn.waiting.items;
  waits : StayWaiting l.fn.waiting.items l.waiting.items;
  store : FeedsOn (Ok false) l.fn.store l.store;
  carried : (s : State) (waiting : List Waiting) → AreWaiting l.fn.waiting.items waiting
      → (batch : Commanded) × CarriesAll l.fn.store l.store s l.fn.self.manner (slice_range waiting l.from l.at) (kept_answers (slice_range l.waiting.items l.from l.at)) batch;
}
