use Rattle.std.proofs.Common.{sym, ◌∙◌}
use Rattle.vm_types.proofs.SettledLemmas.{missing-refused, looked_up-refused}
use Rattle.vm_types.proofs.settlements.refusal_by_key.Goals as goal

pub returns-in-Some : goal.returns-in-Some
returns-in-Some c = sym (missing-refused c.args.settled.now _ c.requires.once c.in-Some.key (sym c.in-Some.ensures))

pub returns : goal.returns
returns c =
    c.unsettled_refusal.ensures
    ∙ sym (looked_up-refused c.args.settled.now _ c.requires.once _ _ c.requires.sides (sym c.in_default.ensures) c.unsettled_by_key.ensures)
