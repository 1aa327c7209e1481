use Rattle.std.proofs.Common.{◌≡◌, ◌==◌, ◌∙◌, length, true, false, sym}
use Rattle.vm_cli.proofs.EndLemmas.{feeds_none}
use Rattle.vm_cli.proofs.SettleLemmas.{settles_none, settles_some}
use Rattle.vm_cli.proofs.session.batches.settle_lines.Goals as goal

pub returns-then-is_empty-clause-settled : goal.returns-then-is_empty-clause-settled
returns-then-is_empty-clause-settled g c = λ s parts held.
    let none : (length c.args.lines.now == 0) ≡ true = sym c.is_empty.ensures ∙ c.if-is_empty.true in
    settles_none c.args.store.now s c.args.manner c.args.lines.now none c.clear.new.self.items c.clear.ensures.items parts held

pub returns-then-is_empty-clause-store : goal.returns-then-is_empty-clause-store
returns-then-is_empty-clause-store g c = feeds_none c.args.store.now false

pub returns-clause-settled : goal.returns-clause-settled
returns-clause-settled g c = λ s parts held.
    let some : (length c.args.lines.now == 0) ≡ false = sym c.is_empty.ensures ∙ c.if-is_empty.false in
    settles_some c.args.store.now c.settle.new.store s c.args.manner c.args.lines.now some _ parts held (c.settle.ensures.settled s parts held)
