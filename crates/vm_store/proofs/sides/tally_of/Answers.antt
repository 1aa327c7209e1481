use Rattle.std.proofs.Common.{Err, ap, ◌∙◌}
use Rattle.std.proofs.lemmas.Result.{err_from_is_err_and}
use Rattle.vm_store.proofs.SidesLemmas.{rooted_map, reads_fault}
use Rattle.vm_store.proofs.TallyLemmas.{counted}
use Rattle.vm_store.proofs.sides.tally_of.Goals as goal

pub returns-in_err-sides-clause-tally : goal.returns-in_err-sides-clause-tally
returns-in_err-sides-clause-tally g c honest base parent own bs ps os first second third =
    let p = err_from_is_err_and c.from_residual.result c.from_residual.ensures.1 in
    reads_fault _ _ _ _ (p.1 ∙ ap Err p.2) (c.in_err-sides.ensures.sides honest base parent own bs ps os first second third)

pub returns-clause-tally : goal.returns-clause-tally
returns-clause-tally g c honest base parent own bs ps os first second third =
    let read = c.in_ok-sides.ensures.sides honest base parent own bs ps os first second third in
    let found = c.in_ok-conflicts.ensures.list base parent own (rooted_map _ _ _ _ _ first) (rooted_map _ _ _ _ _ second) (rooted_map _ _ _ _ _ third) read.0 read.1 in
    counted base parent own (rooted_map _ _ _ _ _ first) (rooted_map _ _ _ _ _ second) _ _ _ read.0 read.1 found _
    c.len.ensures c.len-2.ensures (c.len-3.ensures ∙ c.in_ok-conflicts.conflicts.ok.0) c.is_empty.ensures
