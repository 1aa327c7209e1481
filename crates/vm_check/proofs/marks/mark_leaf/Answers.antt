use Rattle.std.proofs.Common.{[], ◌∷◌}
use Rattle.vm_check.proofs.MarkLemmas.{is_first, set_fewer}
use Rattle.vm_check.proofs.OnlyLemmas.{only_set}
use Rattle.vm_check.proofs.marks.mark_leaf.Goals as goal

pub returns-clause-fewer : goal.returns-clause-fewer
returns-clause-fewer c = set_fewer _ _ _ _ c.set.ensures c.requires.bits (c.is_data.ensures.0 c.if-not-is_data.false)

pub returns-clause-only : goal.returns-clause-only
returns-clause-only c = only_set c.args.block (c.args.block ∷ []) c.args.marks.now c.set.new.self c.set.ensures (is_first c.args.block [])
