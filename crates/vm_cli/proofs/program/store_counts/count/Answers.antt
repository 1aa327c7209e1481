use Rattle.std.proofs.Common.{◌≡◌, ◌∙◌, length, arith}
use Rattle.vm_cli.proofs.CarriedLemmas.{passed_on}
use Rattle.vm_cli.proofs.CountingLemmas.{listed_all}
use Rattle.vm_cli.proofs.program.store_counts.count.Goals as goal

pub returns-in_err-checkpoints-clause-refused : goal.returns-in_err-checkpoints-clause-refused
returns-in_err-checkpoints-clause-refused g c sound s holds =
    rw (passed_on _ c.from_residual-in_err-checkpoints.ensures.1)
    (c.in_err-checkpoints.ensures.refused sound s holds (c.deref.ensures.value ∙ c.in_ok-alternatives.ensures.value sound s holds))

pub returns-clause-counted : goal.returns-clause-counted
returns-clause-counted g c sound s holds =
    let is = c.in_ok-alternatives.ensures.value sound s holds in
    let long : c.len.result ≡ length c.in_ok-alternatives.alternatives.items = omega (arith, c.len.ensures, c.in_ok-alternatives.alternatives.ok.0) in (
      long ∙ listed_all c.args.store.now s holds c.in_ok-alternatives.alternatives.items is,
      c.in_ok-checkpoints.ensures.counted sound s holds (c.deref.ensures.value ∙ is),
      (let counted = c.in_ok-free.ensures.counted sound in cc),
    )
