use Rattle.std.proofs.Common.{arith}
use Rattle.vm_types.proofs.packed.PackedList.row.Goals as goal

pub shared_whole_as_slice-result : goal.shared_whole_as_slice-result
shared_whole_as_slice-result g c = omega (arith, g.met.T.Packed.few)
