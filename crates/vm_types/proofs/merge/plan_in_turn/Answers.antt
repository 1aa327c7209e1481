use Rattle.vm_types.proofs.SmallerLemmas.{plan_above, plan_below}
use Rattle.std.proofs.Common.{refl}
use Rattle.vm_types.proofs.merge.plan_in_turn.Goals as goal

pub returns-then-kept-edits-clause-plan : goal.returns-then-kept-edits-clause-plan
returns-then-kept-edits-clause-plan c = λ base parent own f g h theirs mine all.
    plan_above base parent own c.args.settled.now _ c.count_taken-kept.result g h all refl
    (c.in_ok-changes.ensures.list base own parent f h g mine theirs)
    (c.count_taken-edits.ensures base parent own f g h theirs mine)
    (c.count_taken-kept.ensures base own parent f h g mine theirs)
    c.if-kept-edits.true

pub returns-clause-plan : goal.returns-clause-plan
returns-clause-plan c = λ base parent own f g h theirs mine all.
    plan_below base parent own c.args.settled.now _ c.count_taken-kept.result g h all refl
    (c.in_ok-changes-2.ensures.list base parent own f g h theirs mine)
    (c.count_taken-edits.ensures base parent own f g h theirs mine)
    (c.count_taken-kept.ensures base own parent f h g mine theirs)
    c.if-kept-edits.false
