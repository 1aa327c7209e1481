use Rattle.vm_alloc.proofs.WordLemmas.{set_here, set_others}
use Rattle.vm_alloc.proofs.words.set_bit.Goals as goal

pub returns-clause-same : goal.returns-clause-same
returns-clause-same c = set_here c.args.words.now c.args.n c.requires

pub returns-clause-others : goal.returns-clause-others
returns-clause-others c = set_others c.args.words.now c.args.n c.requires
