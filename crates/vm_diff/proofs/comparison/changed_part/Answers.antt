use Rattle.std.proofs.Common.{arith}
use Rattle.vm_types.specs.Places.{place}
use Rattle.vm_tree.proofs.PartReads.{few_aside}
use Rattle.vm_diff.proofs.comparison.changed_part.Goals as goal

pub returns-clause-bound : goal.returns-clause-bound
returns-clause-bound g c honest sizes m n bs cs one other =
    let x = (g.D.Disk.state c.args.disk.now).now.contents in
    omega (
      arith,
      c.changed_in.ensures.bound honest sizes m n bs cs one other,
      few_aside sizes x c.args.blocks c.args.first m bs (place c.args.low) one,
      few_aside sizes x c.args.blocks c.args.second n cs (place c.args.low) other,
    )
