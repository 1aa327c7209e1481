use Rattle.vm_types.proofs.Growing.{only_grows}
use Rattle.vm_types.proofs.laws.stores_only_grow.Goals as goal

pub returns : goal.returns
returns c = only_grows
