use Rattle.std.proofs.Common.{◌≡◌, [], None}
use Rattle.vm_cli.specs.session.Known.{streams_of}
use Rattle.vm_cli.specs.lines.Input.{HoldsLine}
use Rattle.vm_cli.specs.session.LineReading.{unread_of}
use Rattle.vm_cli.specs.session.PlannerCalls.{AreWithin, IsGathering}
use Rattle.vm_cli.specs.session.Planners.{planners}
use Rattle.vm_cli.specs.session.Streams.{IsStage}
use Rattle.vm_cli.proofs.StreamEndLemmas.{RunsSoFar}
use Rattle.vm_cli.proofs.session.planners.PlannersSession.run.Given as goal

-- the lines so far were read and taken
abbrev pub invariant-loop : goal.invariant-loop
invariant-loop g l = record {
  manner : l.self.session.manner ≡ l.fn.self.session.manner;
  closed : IsStage l.self.session.batch None;
  count : AreWithin l.counter l.self.planners.items;
  line : HoldsLine l.line [];
  runs : RunsSoFar planners (IsGathering l.self) l.fn.store l.store l.fn.self.session.manner
      (streams_of (g.R.Read.remaining l.fn.reader) (g.W.Write.contents l.fn.writer) (g.W.Write.contents l.writer)) (g.R.Read.remaining l.reader) (unread_of l.input) l.refused;
}
