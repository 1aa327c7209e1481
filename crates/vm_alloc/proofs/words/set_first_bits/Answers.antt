use Rattle.vm_alloc.proofs.WordLemmas.{first_here, first_others}
use Rattle.vm_alloc.proofs.words.set_first_bits.Goals as goal

pub returns-clause-first : goal.returns-clause-first
returns-clause-first c = first_here c.args.words.now c.args.count c.requires.some c.requires.one_word

pub returns-clause-others : goal.returns-clause-others
returns-clause-others c = first_others c.args.words.now c.args.count c.requires.some c.requires.one_word
