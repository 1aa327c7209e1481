use Rattle.std.proofs.Common.{◌≡◌, arith, length, sym}
use Rattle.vm_cli.proofs.CarriedLemmas.{passed_on}
use Rattle.vm_cli.proofs.CountingLemmas.{added, counted_all, has_list, wanted}
use Rattle.vm_cli.proofs.program.store_counts.count_checkpoints.Goals as goal

pub loop-alternative-preserved : goal.loop-alternative-preserved
loop-alternative-preserved g c sound s holds is =
    let long : c.len.result ≡ length c.in_ok-names.names.items = omega (arith, c.len.ensures, c.in_ok-names.names.ok.0) in
    added c.args.store.now s holds c.args.listed.now is c.loop-alternative.alternative-index c.loop-alternative-test.true _ (sym c.alternative-item.is)
    _ (c.in_ok-names.ensures.value sound s holds) _ (c.loop-alternative.invariant sound s holds is) _ long _ c.saturating_add-count.ensures

pub returns-in_err-names-clause-refused : goal.returns-in_err-names-clause-refused
returns-in_err-names-clause-refused g c sound s holds is =
    rw (passed_on _ c.from_residual.ensures.1)
    (has_list c.args.store.now s holds c.args.listed.now is c.loop-alternative.alternative-index c.loop-alternative-test.true _ (sym c.alternative-item.is)
    _ (wanted _ _ (c.in_err-names.ensures.none sound s holds)))

pub returns-clause-counted : goal.returns-clause-counted
returns-clause-counted g c sound s holds is =
    counted_all c.args.store.now s holds c.args.listed.now is c.loop-alternative.alternative-index c.loop-alternative-test.false _ (c.loop-alternative.invariant sound s holds is)
