use Rattle.std.proofs.Math.Facts.{Fits-lt-pow}
use Rattle.vm_alloc.proofs.WordLemmas.{lowest_clear, full_more}
use Rattle.vm_alloc.proofs.words.first_clear_bit.Goals as goal

pub returns-then-word-clause-before : goal.returns-then-word-clause-before
returns-then-word-clause-before c = rw c.trailing_ones.ensures
    (lowest_clear c.args.words.now c.loop-i.i c.loop-i-test.true (Fits-lt-pow (c.type_inv.words c.loop-i.i)) c.if-word.true c.loop-i.invariant).before

pub returns-then-word-clause-found : goal.returns-then-word-clause-found
returns-then-word-clause-found c = λ _. rw c.trailing_ones.ensures
    (lowest_clear c.args.words.now c.loop-i.i c.loop-i-test.true (Fits-lt-pow (c.type_inv.words c.loop-i.i)) c.if-word.true c.loop-i.invariant).clear

pub loop-i-preserved : goal.loop-i-preserved
loop-i-preserved c = full_more c.args.words.now c.loop-i.i c.if-word.false c.loop-i.invariant
