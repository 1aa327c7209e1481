use Rattle.std.proofs.Common.{ℕ, List, [], Ok}
use Rattle.std.specs.Io.KnownBytes.{Consumes}
use Rattle.vm_types.specs.State.{State}
use Rattle.vm_cli.specs.session.Feeds.{FedUpTo, Stays, FeedsOn, written_in}
use Rattle.vm_cli.proofs.session.Session.run.Given as goal

-- the bytes so far were read and fed
abbrev pub invariant-loop : goal.invariant-loop
invariant-loop g l = record {
  same : Stays l.fn.self l.self;
  store : FeedsOn (Ok l.refused) l.fn.self.store.now l.self.store.now;
  bytes : List ℕ;
  read : Consumes (g.R.Read.remaining l.fn.reader) (g.R.Read.remaining l.reader) bytes;
  fed : (s : State) → FedUpTo l.line l.fn.self.store.now l.self.store.now s l.fn.self.manner l.refused [] bytes (written_in g.W.Write.contents l.fn.self l.self);
}
