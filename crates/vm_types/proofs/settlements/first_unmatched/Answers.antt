use Rattle.std.proofs.Common.{get_or, map, rules, sym, ◌∙◌, arith}
use Rattle.std.proofs.lemmas.List.{drop_more, at_drop_all}
use Rattle.vm_types.specs.declared.key.Key.{Key}
use Rattle.vm_types.proofs.SettledLemmas.{unmatched, unmatched-find, unmatched-none, unmatched-end, unmatched-above}
use Rattle.vm_types.proofs.settlements.first_unmatched.Goals as goal

pub returns-in_default : goal.returns-in_default
returns-in_default c =
    sym (sym (unmatched-find _ _ c.requires.settled c.requires.conflicts) ∙ c.loop-conflict.invariant ∙ unmatched-none c.loop-conflict.ahead.now _ c.in_default.ensures.cases)

pub returns-in-Greater : goal.returns-in-Greater
returns-in-Greater c =
    let first : Key = record { table = 0; number = 0 } in
    let at = get_or c.args.conflicts.now c.loop-conflict.conflict-index first in
    sym (sym (unmatched-find _ _ c.requires.settled c.requires.conflicts)
    ∙ c.loop-conflict.invariant
    ∙ unmatched-above c.loop-conflict.ahead.now _ _ _ _ at c.in-Some.ensures.cases.0 (drop_more c.args.conflicts.now c.loop-conflict.conflict-index first c.loop-conflict-test.true)
    (sym c.in-Greater.ensures))

pub returns : goal.returns
returns c =
    sym (sym (unmatched-find _ _ c.requires.settled c.requires.conflicts)
    ∙ c.loop-conflict.invariant
    ∙ at_drop_all (λ rest. unmatched (map (λ e. e.0) c.loop-conflict.ahead.now) rest) c.args.conflicts.now c.loop-conflict.conflict-index (omega arith)
    ∙ unmatched-end c.loop-conflict.ahead.now
    ∙ search rules)
