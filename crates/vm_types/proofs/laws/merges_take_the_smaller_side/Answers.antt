use Rattle.vm_types.proofs.SmallerLemmas.{smaller}
use Rattle.vm_types.proofs.laws.merges_take_the_smaller_side.Goals as goal

pub returns : goal.returns
returns c = smaller
