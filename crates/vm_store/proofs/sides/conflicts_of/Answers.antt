use Rattle.std.proofs.Common.{Err, ap, ◌∙◌}
use Rattle.std.proofs.lemmas.Result.{err_from_is_err_and}
use Rattle.vm_store.proofs.SidesLemmas.{rooted_map, reads_list, reads_fault}
use Rattle.vm_store.proofs.sides.conflicts_of.Goals as goal

pub returns-in_err-sides-clause-conflicts : goal.returns-in_err-sides-clause-conflicts
returns-in_err-sides-clause-conflicts g c honest base parent own bs ps os first second third =
    let p = err_from_is_err_and c.from_residual.result c.from_residual.ensures.1 in
    reads_fault _ _ _ _ (p.1 ∙ ap Err p.2) (c.in_err-sides.ensures.sides honest base parent own bs ps os first second third)

pub returns-clause-conflicts : goal.returns-clause-conflicts
returns-clause-conflicts g c honest base parent own bs ps os first second third =
    let read = c.in_ok-sides.ensures.sides honest base parent own bs ps os first second third in
    reads_list _ _ _ c.conflicts_between.ensures.only
    (c.conflicts_between.ensures.list base parent own (rooted_map _ _ _ _ _ first) (rooted_map _ _ _ _ _ second) (rooted_map _ _ _ _ _ third) read.0 read.1)
