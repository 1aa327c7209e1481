use Rattle.vm_alloc.proofs.WordLemmas.{cut_before, cut_behind, none_behind}
use Rattle.vm_alloc.proofs.words.clear_bits_from.Goals as goal

pub returns-then-last-words-clause-before : goal.returns-then-last-words-clause-before
returns-then-last-words-clause-before c = cut_before c.args.words.now c.args.count c.if-last-words.true

pub returns-then-last-words-clause-behind : goal.returns-then-last-words-clause-behind
returns-then-last-words-clause-behind c = cut_behind c.args.words.now c.args.count c.if-last-words.true c.requires

pub returns-else-last-words-clause-behind : goal.returns-else-last-words-clause-behind
returns-else-last-words-clause-behind c = none_behind c.args.words.now c.args.count c.if-last-words.false
