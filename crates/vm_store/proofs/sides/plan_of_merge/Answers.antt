use Rattle.std.proofs.Common.{inr, Err, ap, sym, ◌∙◌}
use Rattle.std.proofs.lemmas.Result.{err_from_is_err_and}
use Rattle.vm_types.specs.Step.{settled_refusal}
use Rattle.vm_types.proofs.SmallerLemmas.{accepted_settles}
use Rattle.vm_store.proofs.SidesLemmas.{rooted_map, reads_pair, reads_fault}
use Rattle.vm_store.proofs.sides.plan_of_merge.Goals as goal

pub returns-in_err-sides-clause-plan : goal.returns-in_err-sides-clause-plan
returns-in_err-sides-clause-plan g c honest base parent own bs ps os first second third =
    let p = err_from_is_err_and c.from_residual.result c.from_residual.ensures.1 in
    reads_fault _ _ _ _ (p.1 ∙ ap Err p.2) (c.in_err-sides.ensures.sides honest base parent own bs ps os first second third)

pub returns-in-Some-clause-plan : goal.returns-in-Some-clause-plan
returns-in-Some-clause-plan g c honest base parent own bs ps os first second third =
    let read = c.in_ok-sides.ensures.sides honest base parent own bs ps os first second third in
    let found = c.in_ok-conflicts.ensures.list base parent own (rooted_map _ _ _ _ _ first) (rooted_map _ _ _ _ _ second) (rooted_map _ _ _ _ _ third) read.0 read.1 in
    inr (inr (ap (settled_refusal c.args.settled.now) (sym (c.deref.ensures.value ∙ found)) ∙ sym c.in-Some.ensures))

pub returns-clause-plan : goal.returns-clause-plan
returns-clause-plan g c honest base parent own bs ps os first second third =
    let read = c.in_ok-sides.ensures.sides honest base parent own bs ps os first second third in
    let found = c.in_ok-conflicts.ensures.list base parent own (rooted_map _ _ _ _ _ first) (rooted_map _ _ _ _ _ second) (rooted_map _ _ _ _ _ third) read.0 read.1 in
    let accepted = ap (settled_refusal c.args.settled.now) (sym (c.deref.ensures.value ∙ found)) ∙ sym c.in-None.ensures in
    reads_pair _ _ _ _ c.plan_merge.ensures.only accepted
    (c.plan_merge.ensures.plan base parent own (rooted_map _ _ _ _ _ first) (rooted_map _ _ _ _ _ second) (rooted_map _ _ _ _ _ third) read.0 read.1
    (accepted_settles base parent own (rooted_map _ _ _ _ _ second) (rooted_map _ _ _ _ _ third) c.args.settled.now accepted))
