use Rattle.vm_cli.proofs.CarriedLemmas.{passed_on}
use Rattle.vm_cli.proofs.program.tree_view.draw_store.Goals as goal

pub returns-in_err-branches-clause-refused : goal.returns-in_err-branches-clause-refused
returns-in_err-branches-clause-refused g c honest sound s holds =
    rw (passed_on _ c.from_residual.ensures.1) (c.in_err-branches.ensures.refused honest sound s holds)
