use Rattle.vm_alloc.proofs.CountLemmas.{counted_none}
use Rattle.vm_alloc.proofs.marks.Marks.new.Goals as goal

pub invariant_of-result : goal.invariant_of-result
invariant_of-result c = counted_none c.args.blocks _ c.requires.enough c.requires.few c.in_ok-new.ensures
