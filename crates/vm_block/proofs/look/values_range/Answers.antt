use Rattle.std.proofs.Common.{arith}
use Rattle.vm_block.proofs.LookLemmas.{end_most, ends_order}
use Rattle.vm_block.proofs.look.values_range.Goals as goal

pub returns-clause-low : goal.returns-clause-low
returns-clause-low c rs leaf le =
    omega (arith, c.records_len.ensures.only rs leaf, c.end_before.ensures.only rs leaf le, c.end_before-2.ensures.only rs leaf (omega (arith, le, c.requires.order)), c.min-high.ensures, c.min-low.ensures, ends_order rs c.args.from c.args.to c.requires.order, end_most rs c.args.to leaf.room)

pub returns-clause-high : goal.returns-clause-high
returns-clause-high c rs leaf le =
    omega (arith, c.records_len.ensures.only rs leaf, c.end_before.ensures.only rs leaf le, c.min-high.ensures, end_most rs c.args.to leaf.room)
