use Rattle.vm_types.proofs.WellFormed.{IsWellFormed-fresh, step_stays}
use Rattle.vm_types.proofs.laws.steps_keep_trees_well_formed.Goals as goal

pub returns : goal.returns
returns c = (IsWellFormed-fresh, λ tree command well. (step_stays tree well command).well)
