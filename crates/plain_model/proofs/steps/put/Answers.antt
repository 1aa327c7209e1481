use Rattle.std.proofs.Common.{get_or}
use Rattle.vm_types.specs.declared.answer.Answer.TheVariants.{Done}
use Rattle.vm_types.specs.Map.{with_value}
use Rattle.vm_types.specs.Tree.{Alternative}
use Rattle.vm_types.proofs.Steps.{put_accepted}
use Rattle.plain_model.proofs.Stepping.{changed_here}
use Rattle.plain_model.proofs.steps.put.Goals as goal

pub returns-clause-ok : goal.returns-clause-ok
returns-clause-ok c =
    let first = c.in-Some.ensures.found in
    let d = c.index-tree-i.result in
    changed_here first d _ Done (λ (x : Alternative). record x { current = with_value x.current c.args.key c.args.value.now }) _ c.in_ok-put.ensures.ok
    (put_accepted c.args.tree.now c.args.alt.now (get_or c.args.tree.now c.in-Some.i d) (first.found d) c.args.key c.args.value.now)
