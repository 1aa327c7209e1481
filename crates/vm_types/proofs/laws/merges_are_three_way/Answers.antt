use Rattle.vm_types.proofs.Maps.{get-merge, IsMap-merge}
use Rattle.vm_types.proofs.laws.merges_are_three_way.Goals as goal

pub returns : goal.returns
returns c = λ base parent mine settled. (get-merge base parent mine settled, IsMap-merge base parent mine settled)
