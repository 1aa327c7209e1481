use Rattle.std.proofs.Common.{◌≡◌, take}
use Rattle.vm_cli.specs.session.StreamCalls.{KeepsSession}
use Rattle.vm_cli.proofs.SeatLemmas.{HaveLeft}
use Rattle.vm_cli.proofs.session.planners.PlannersSession.end_seats.Given as goal

-- those so far have left
abbrev pub invariant-loop-place : goal.invariant-loop-place
invariant-loop-place g l = record {
  planners : l.self.planners ≡ l.fn.self.planners;
  same : KeepsSession l.fn.self.session l.self.session;
  left : HaveLeft (take l.place l.fn.self.planners.items) l.half l.refused (g.W.Write.contents l.fn.writer) (g.W.Write.contents l.writer);
}
