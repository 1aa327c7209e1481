use Rattle.vm_types.proofs.PartLemmas.{changes_part-delta}
use Rattle.vm_types.proofs.laws.diffs_are_partwise.Goals as goal

pub returns : goal.returns
returns c = changes_part-delta
