use Rattle.std.proofs.Common.{◌≡◌, ◌++◌, ℕ, List, Ok, length}
use Rattle.vm_types.specs.State.{State}
use Rattle.vm_cli.specs.session.Feeds.{FedUpTo, Stays, FeedsOn, written_in}
use Rattle.vm_cli.specs.lines.Input.{HoldsLine}
use Rattle.vm_cli.proofs.session.Session.feed.Given as goal

-- the bytes so far were fed
abbrev pub invariant-loop-end : goal.invariant-loop-end
invariant-loop-end g l = record {
  done : List ℕ;
  split : l.fn.bytes ≡ done ++ l.rest;
  same : Stays l.fn.self l.self;
  store : FeedsOn (Ok l.refused) l.fn.self.store.now l.self.store.now;
  fed : (s : State) → (from : List ℕ) → HoldsLine l.fn.line from
      → FedUpTo l.line l.fn.self.store.now l.self.store.now s l.fn.self.manner l.refused from done (written_in g.W.Write.contents l.fn.self l.self);
}

abbrev pub decreases-loop-end : goal.decreases-loop-end
decreases-loop-end g l = length l.rest
