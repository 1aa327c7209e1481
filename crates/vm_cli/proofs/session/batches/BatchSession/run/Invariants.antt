use Rattle.std.proofs.Common.{◌≡◌, ◌≤◌, []}
use Rattle.vm_cli.specs.session.Known.{streams_of}
use Rattle.vm_cli.specs.lines.Input.{HoldsLine}
use Rattle.vm_cli.specs.session.LineReading.{unread_of}
use Rattle.vm_cli.specs.session.Streams.{IsStage, batches}
use Rattle.vm_cli.proofs.StreamEndLemmas.{RunsSoFar}
use Rattle.vm_cli.proofs.session.batches.BatchSession.run.Given as goal

-- the lines so far were read and taken
abbrev pub invariant-loop : goal.invariant-loop
invariant-loop g l = record {
  manner : l.self.manner ≡ l.fn.self.manner;
  count : l.self.batch.count ≤ l.counter;
  line : HoldsLine l.line [];
  runs : RunsSoFar batches (IsStage l.self.batch) l.fn.store l.store l.fn.self.manner
      (streams_of (g.R.Read.remaining l.fn.reader) (g.W.Write.contents l.fn.writer) (g.W.Write.contents l.writer)) (g.R.Read.remaining l.reader) (unread_of l.input) l.refused;
}
