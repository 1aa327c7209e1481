use Rattle.std.proofs.Common.{refl, option_copied, arith, rules}
use Rattle.std.proofs.lemmas.List.{length-replicate, take_all}
use Rattle.vm_types.proofs.PackedLemmas.{extends_none, extends_twice, next_added}
use Rattle.vm_types.proofs.values.Values.add_all.Goals as goal

pub loop-i-init : goal.loop-i-init
loop-i-init g c = record { more = extends_none _; so_far = record { lie = tt; are = refl }; whole = length-replicate g.row.N _ }

pub returns-in_err-pieces-clause-more : goal.returns-in_err-pieces-clause-more
returns-in_err-pieces-clause-more g c = extends_twice _ _ _ c.loop-i.invariant.more c.add.ensures.more

pub loop-i-preserved : goal.loop-i-preserved
loop-i-preserved g c = record {
  more = extends_twice _ _ _ c.loop-i.invariant.more c.add.ensures.more;
  so_far = next_added option_copied _ _ c.args.values.now _ c.loop-i.i _ _ (omega arith) (omega arith) c.add.ensures.more c.loop-i.invariant.so_far c.in_ok-pieces.ensures.ok;
  whole = search rules;
}

pub returns-clause-more : goal.returns-clause-more
returns-clause-more g c = c.loop-i.invariant.more

pub returns-clause-ok : goal.returns-clause-ok
returns-clause-ok g c =
    rw (take_all c.loop-i.i c.args.values.now (omega arith), take_all c.loop-i.i c.loop-i.pieces (omega arith)) at c.loop-i.invariant.so_far
