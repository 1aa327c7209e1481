use Rattle.std.proofs.Common.{refl, sym, ◌∙◌, arith}
use Rattle.vm_types.proofs.SettledLemmas.{missing-refused, none_repeated, left-count, settled-refused}
use Rattle.vm_types.proofs.settlements.rising_refusal.Goals as goal

pub returns-in-Some : goal.returns-in-Some
returns-in-Some c = sym (missing-refused c.args.settled.now _ (none_repeated _ c.requires.settled) c.in-Some.key (sym c.in-Some.ensures))

pub overflow_sub-conflicts : goal.overflow_sub-conflicts
overflow_sub-conflicts c =
    let count = left-count c.args.settled.now _ c.requires.settled c.requires.conflicts (sym c.in_default.ensures) in
    omega arith

pub returns : goal.returns
returns c =
    c.unsettled_refusal.ensures
    ∙ sym (settled-refused c.args.settled.now _ c.requires.settled c.requires.conflicts _ (sym c.in_default.ensures) refl)
