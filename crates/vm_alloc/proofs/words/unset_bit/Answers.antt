use Rattle.vm_alloc.proofs.WordLemmas.{unset_here, unset_others}
use Rattle.vm_alloc.proofs.words.unset_bit.Goals as goal

pub returns-clause-same : goal.returns-clause-same
returns-clause-same c = unset_here c.args.words.now c.args.n c.requires

pub returns-clause-others : goal.returns-clause-others
returns-clause-others c = unset_others c.args.words.now c.args.n c.requires
