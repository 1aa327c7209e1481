use Rattle.vm_cli.proofs.Known.{Appends-then, first_sent, first_stuck, split_more}
use Rattle.vm_cli.proofs.answers.output.put_all.Goals as goal

pub returns-in_default-clause-err : goal.returns-in_default-clause-err
returns-in_default-clause-err g c =
    first_sent _ _ _ c.args.bytes.now c.loop-rest.invariant.sent c.loop-rest.rest.now c.loop-rest.invariant.split c.loop-rest.invariant.appended c.in_default.ensures.bytes

pub returns-then-count-eq0-clause-err : goal.returns-then-count-eq0-clause-err
returns-then-count-eq0-clause-err g c =
    first_stuck _ _ _ c.args.bytes.now c.loop-rest.invariant.sent c.loop-rest.rest.now c.in-Ok.count c.loop-rest.invariant.split c.loop-rest.invariant.appended c.if-count-eq0.true c.in-Ok.ensures.bytes

pub loop-rest-preserved : goal.loop-rest-preserved
loop-rest-preserved g c = record {
  sent = _;
  split = split_more c.args.bytes.now c.loop-rest.invariant.sent c.loop-rest.rest.now c.in-Ok.count c.loop-rest.invariant.split;
  appended = Appends-then _ _ _ c.loop-rest.invariant.sent _ c.loop-rest.invariant.appended c.in-Ok.ensures.bytes;
}
