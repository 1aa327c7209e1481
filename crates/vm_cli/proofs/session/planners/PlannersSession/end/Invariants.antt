use Rattle.std.proofs.Common.{◌≡◌, take}
use Rattle.vm_cli.specs.session.StreamCalls.{KeepsSession}
use Rattle.vm_cli.proofs.QueueLemmas.{AreForgotten}
use Rattle.vm_cli.proofs.session.planners.PlannersSession.end.Given as goal

-- those so far are forgotten
abbrev pub invariant-loop-place : goal.invariant-loop-place
invariant-loop-place g l = record {
  planners : l.self.planners ≡ l.fn.self.planners;
  waiting : l.self.waiting ≡ l.fn.self.waiting;
  same : KeepsSession l.fn.self.session l.self.session;
  forgotten : AreForgotten (take l.place l.fn.self.waiting.items) (g.W.Write.contents l.fn.writer) (g.W.Write.contents l.writer);
}
