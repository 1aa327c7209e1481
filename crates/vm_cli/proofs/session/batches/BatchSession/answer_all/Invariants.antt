use Rattle.std.proofs.Common.{◌≡◌, drop}
use Rattle.std.specs.Io.KnownBytes.{Appends}
use Rattle.std.specs.Prelude.{slice_range}
use Rattle.vm_cli.specs.session.WaitingCalls.{KeepsWaiting, shared_texts}
use Rattle.vm_cli.proofs.session.batches.BatchSession.answer_all.Given as goal

-- those so far were answered
abbrev pub invariant-loop-at : goal.invariant-loop-at
invariant-loop-at g l = record {
  keeps : KeepsWaiting l.fn.waiting.items l.waiting.items l.fn.self l.self;
  behind : drop l.at l.waiting.items ≡ drop l.at l.fn.waiting.items;
  written : Appends (g.W.Write.contents l.fn.writer) (g.W.Write.contents l.writer) (shared_texts l.fn.committed (slice_range l.fn.waiting.items l.from l.at));
}
