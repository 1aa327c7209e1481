use Rattle.std.proofs.Common.{sym}
use Rattle.vm_store.proofs.PairLemmas.{is_pair}
use Rattle.vm_store.proofs.versions.Versions.pair_of.Goals as goal

pub returns-clause-found : goal.returns-clause-found
returns-clause-found c = is_pair _ _ _ _ _ (sym c.in-Some.ensures) c.in-Some-owner.is (sym c.in-Some-alternative.ensures)
