use Rattle.std.proofs.Common.{◌≡◌, ◌∙◌, ap}
use Rattle.vm_types.specs.Shape.{shape}
use Rattle.vm_store.specs.Versions.{alternatives_among}
use Rattle.vm_store.proofs.TurnLemmas.{alternatives_listed, if_ok_so}
use Rattle.vm_store.proofs.VersionLemmas.{standing}
use Rattle.vm_store.proofs.store.Store.alternatives.Goals as goal

pub returns-clause-value : goal.returns-clause-value
returns-clause-value g c well s holds =
    let same = ap alternatives_among c.as_slice.ensures.items ∙ alternatives_listed (standing holds.rests) in
    if_ok_so c.alternatives_among.result (λ list. list.items ≡ alternatives_among c.as_slice.result.now) (λ list. list.items ≡ shape s.working) (λ list is. is ∙ same) c.alternatives_among.ensures.list
