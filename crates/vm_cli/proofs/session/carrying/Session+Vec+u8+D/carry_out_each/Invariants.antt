use Rattle.std.proofs.Common.{◌≡◌, ℕ, List, [], Ok, false, take}
use Rattle.vm_types.specs.State.{State}
use Rattle.vm_cli.specs.session.Feeds.{Stays, FeedsOn}
use Rattle.vm_cli.specs.session.Streams.{HoldsLines, trying}
use Rattle.vm_cli.specs.session.Session.{HasAnswered}
use Rattle.vm_cli.specs.declared.session.Manner.{Manner}
use Rattle.vm_cli.proofs.session.carrying.Session+Vec+u8+D.carry_out_each.Given as goal

-- the lines so far were carried out, and none of them was refused
abbrev pub invariant-loop-place : goal.invariant-loop-place
invariant-loop-place g l = record {
  same : Stays l.fn.self l.self;
  store : FeedsOn (Ok false) l.fn.self.store.now l.self.store.now;
  answered : (s : State) (how : Manner) (parts : List (List ℕ)) → l.fn.self.manner ≡ trying how → l.fn.self.writer.now.items ≡ [] → HoldsLines l.lines parts
      → HasAnswered l.fn.self.store.now l.self.store.now s (trying how) (take l.place parts) l.self.writer.now.items;
}
