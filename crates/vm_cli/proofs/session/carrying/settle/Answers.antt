use Rattle.std.proofs.Common.{[]}
use Rattle.vm_cli.specs.session.Streams.{carried_by, why_text}
use Rattle.vm_cli.proofs.BatchLemmas.{held_length}
use Rattle.vm_cli.proofs.SettleLemmas.{commit_feeds, settles_commit, settles_undone, undo_feeds}
use Rattle.vm_cli.proofs.session.carrying.settle.Goals as goal

pub returns-in-Ok-clause-settled : goal.returns-in-Ok-clause-settled
returns-in-Ok-clause-settled g c = λ s parts held.
    settles_commit c.args.store.now c.carry_out.new.store c.commit.new.store s c.args.manner parts _ (c.in-Ok.ensures.carried s parts held) c.commit.result _ c.commit.ensures (held_length c.args.lines.now parts held)

pub returns-in-Ok-clause-store : goal.returns-in-Ok-clause-store
returns-in-Ok-clause-store g c = commit_feeds c.args.store.now c.carry_out.new.store c.commit.new.store c.commit.result _ c.carry_out.new.answers.items c.commit.ensures c.in-Ok.ensures.store

pub returns-in-Err-clause-settled : goal.returns-in-Err-clause-settled
returns-in-Err-clause-settled g c = λ s parts held.
    let stops = c.in-Err.ensures.carried s parts held in
    let undone = c.undo.ensures (carried_by stops) in
    (undone.0, settles_undone c.args.store.now c.carry_out.new.store c.undo.new.store s c.args.manner parts c.in-Err.stop.place _ stops c.undo.result undone.0 undone.1)

pub returns-in-Err-clause-store : goal.returns-in-Err-clause-store
returns-in-Err-clause-store g c =
    let undone = c.undo.ensures (record { commands = []; answers = [] }) in
    undo_feeds c.args.store.now c.carry_out.new.store c.undo.new.store c.in-Err.ensures.store c.in-Err.stop.place (why_text c.in-Err.stop.why c.carry_out.new.answers.items) c.undo.result undone.0 _ undone.1
