use Rattle.std.proofs.Common.{arith}
use Rattle.vm_types.proofs.packed.PackedListDebug.fmt.Goals as goal

pub derived_fields2-requires-room-A-Debug : goal.derived_fields2-requires-room-A-Debug
derived_fields2-requires-room-A-Debug g c κs within = omega (arith, g.met.T.Packed.few)
