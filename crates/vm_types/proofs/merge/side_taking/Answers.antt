use Rattle.std.proofs.Common.{None, Some, ap, ◌∙◌}
use Rattle.vm_types.proofs.SmallerLemmas.{side_of-mine}
use Rattle.vm_types.proofs.merge.side_taking.Goals as goal

pub returns-in-Some : goal.returns-in-Some
returns-in-Some c = ap Some c.other.ensures ∙ side_of-mine c.args.side c.args.settled.now c.args.key (Some c.in-Some.found) c.in-Mine.is c.in-Some.ensures

pub returns-in-None : goal.returns-in-None
returns-in-None c = side_of-mine c.args.side c.args.settled.now c.args.key None c.in-Mine.is c.in-None.ensures
