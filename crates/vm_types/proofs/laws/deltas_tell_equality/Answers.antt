use Rattle.vm_types.proofs.Maps.{delta-nil, delta-same}
use Rattle.vm_types.proofs.laws.deltas_tell_equality.Goals as goal

pub returns : goal.returns
returns c = λ m n g h. (delta-nil m n g h, delta-same m n)
