use Rattle.std.proofs.Common.{None, arith}
use Rattle.vm_types.specs.declared.change.Conflict.{Conflict}
use Rattle.vm_cli.proofs.OthersLemmas.{others_left, others_pushed}
use Rattle.vm_cli.proofs.lines.settlement.for_others.Goals as goal
use Rattle.vm_cli.proofs.lines.settlement.for_others.Goals.{then-not-is_settled+in_ok-push, else-not-is_settled}

pub loop-i-preserved : goal.loop-i-preserved
loop-i-preserved c =
    let d : Conflict = record { key = c.key-key.result; base = None; parent = None; mine = None } in
    elim c.if-not-is_settled.branch [
      | then-not-is_settled+in_ok-push w ↦
          others_pushed c.args.side c.args.settled.now c.args.conflicts.now c.loop-i.i d c.loop-i.others.items (omega arith) c.loop-i.invariant (c.key-key.ensures d) c.if-not-is_settled.others.items (cc) (rw w.others-is w.in_ok-push.ensures.items)
      | else-not-is_settled w ↦
          others_left c.args.side c.args.settled.now c.args.conflicts.now c.loop-i.i d c.loop-i.others.items (omega arith) c.loop-i.invariant (c.key-key.ensures d) _ (cc) (cc)
    ]
