use Rattle.std.proofs.Common.{List, IfOk, sym, subst}
use Rattle.vm_types.specs.declared.command.Side.{Side}
use Rattle.vm_types.specs.declared.key.Key.{Key}
use Rattle.vm_types.specs.Map.{Map}
use Rattle.vm_types.specs.Merge.{IsPlan, SameSides}
use Rattle.vm_types.proofs.MergingLemmas.{merge-alike}
use Rattle.vm_types.proofs.SmallerLemmas.{settled-alike}
use Rattle.vm_types.proofs.merge.plan_merge.Goals as goal

pub returns-clause-plan : goal.returns-clause-plan
returns-clause-plan c = λ base parent own f g h theirs mine all.
    let same : SameSides c.deref.result.now c.args.settled.now = subst (λ (l : List (Key × Side)). SameSides l c.args.settled.now) (sym c.deref.ensures.value) c.in-Some.ensures in
    subst (λ (m : Map). IfOk c.plan_in_turn.result (λ plan. IsPlan plan own parent m))
    (merge-alike base parent own c.deref.result.now c.args.settled.now same)
    (c.plan_in_turn.ensures.plan base parent own f g h theirs mine (settled-alike base parent own c.deref.result.now c.args.settled.now same all))
