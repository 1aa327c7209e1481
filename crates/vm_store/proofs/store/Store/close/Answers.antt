use Rattle.vm_store.proofs.RestingLemmas.{shows_now}
use Rattle.vm_store.proofs.RunLemmas.{rests_show}
use Rattle.vm_store.proofs.store.Store.close.Goals as goal

pub returns-clause-shown : goal.returns-clause-shown
returns-clause-shown g c honest well s holds = shows_now _ _ _ _ _ _ s holds.rests

pub returns-clause-crash : goal.returns-clause-crash
returns-clause-crash g c honest well s holds = rests_show _ _ _ _ _ _ s holds.rests
