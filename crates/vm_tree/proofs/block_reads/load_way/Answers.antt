use Rattle.std.proofs.Common.{sym}
use Rattle.vm_tree.proofs.HandLemmas.{hand_block}
use Rattle.vm_tree.proofs.Leading.{steps_to}
use Rattle.vm_tree.proofs.block_reads.load_way.Goals as goal

pub returns-in-Some-clause-step : goal.returns-in-Some-clause-step
returns-in-Some-clause-step g c honest =
    let way = c.in-Some.way in
    steps_to _ c.args.blocks c.args.level c.args.top.block c.args.top.low _ way.level way.count way.index way.child c.if-way-level.true (hand_block (sym c.at_hand.ensures) (c.in_ok-load_block.ensures.found honest)) c.in-Some.ensures.head c.in-Some.ensures.range.2 c.in-Some.ensures.spelled c.in-Some.ensures.chosen
