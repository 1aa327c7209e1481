use Rattle.std.proofs.Common.{arith}
use Rattle.vm_alloc.proofs.WordLemmas.{both_so_far, behind_kept}
use Rattle.vm_alloc.proofs.words.clear_bits_but.Goals as goal

pub loop-i-preserved : goal.loop-i-preserved
loop-i-preserved c = (
  both_so_far c.args.words.now c.loop-i.words c.args.others.now c.loop-i.i (omega (arith, c.loop-i-test.true, c.loop-i.auto.words)) c.loop-i.invariant.0 c.loop-i.invariant.1,
  behind_kept c.args.words.now c.loop-i.words c.loop-i.i _ c.loop-i.invariant.1,
)
