use Rattle.vm_types.proofs.AtLemmas.{changes_current, top_base}
use Rattle.vm_types.proofs.laws.changes_begin_at_bases.Goals as goal

pub returns : goal.returns
returns c = (changes_current, top_base)
