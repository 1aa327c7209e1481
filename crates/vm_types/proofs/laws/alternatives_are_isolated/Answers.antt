use Rattle.vm_types.proofs.IsolationLemmas.{isolated}
use Rattle.vm_types.proofs.laws.alternatives_are_isolated.Goals as goal

pub returns : goal.returns
returns c = λ s commands answers name. isolated name s commands answers
