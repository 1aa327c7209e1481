use Rattle.std.proofs.Common.{◌≡◌, ◌∙◌, ◌<◌, List, [], length, sym, ap, arith}
use Rattle.vm_block.specs.Leaf.{HasRecords, Record, RecordFits}
use Rattle.vm_block.proofs.EachLemmas.{each_at}
use Rattle.vm_tree.specs.Windows.{gives}
use Rattle.vm_tree.proofs.RecordsLeft.{pushed_all, pushed_more, pushed_none, pushed_passed}
use Rattle.vm_tree.proofs.ranges.push_records.Goals.{then-gives+in_ok-push, else-gives}
use Rattle.vm_tree.proofs.ranges.push_records.Goals as goal

pub loop-i-init : goal.loop-i-init
loop-i-init c = pushed_none c.args.bytes.now c.args.count c.args.window c.args.into.now

pub returns-clause-added : goal.returns-clause-added
returns-clause-added c rs leaf many =
    pushed_all c.args.bytes.now c.args.count c.args.window c.loop-i.i c.args.into.now c.loop-i.into c.loop-i.invariant c.loop-i-test.false rs leaf many

pub push-requires : goal.push-requires
push-requires c =
    let there = c.requires.leaf in
    let d : Record = (c.record_key-key.result, []) in
    let lt : c.loop-i.i < length there.0 = omega (arith, c.loop-i-test.true, there.2) in
    omega (arith, ap length (c.record_value.ensures.value there.0 there.1 d lt), (each_at RecordFits there.0 c.loop-i.i d there.1.fit lt).1)

pub loop-i-preserved : goal.loop-i-preserved
loop-i-preserved c =
    let d : Record = (c.record_key-key.result, []) in
    let key_is = λ (rs : List Record) (leaf : HasRecords c.args.bytes.now rs) (lt : c.loop-i.i < length rs). c.record_key-key.ensures.key rs leaf d lt in
    let given_is : gives c.args.window c.record_key-key.result (length c.loop-i.into) ≡ c.gives.result = ap (gives c.args.window c.record_key-key.result) (sym c.len.ensures) ∙ sym c.gives.ensures in
    elim c.if-gives.branch [
      | then-gives+in_ok-push w ↦ rw w.into-is (pushed_more c.args.bytes.now c.args.count c.args.window c.loop-i.i c.args.into.now c.loop-i.into d c.loop-i.invariant c.record_key-key.result key_is
          w.push.new.self w.record_value.result.now c.loop-i-test.true (given_is ∙ w.if-gives.true) (λ rs leaf lt. sym (w.record_value.ensures.value rs leaf d lt)) w.in_ok-push.ensures.ok)
      | else-gives w ↦ rw w.into-is (pushed_passed c.args.bytes.now c.args.count c.args.window c.loop-i.i c.args.into.now c.loop-i.into d c.loop-i.invariant c.record_key-key.result key_is
          c.loop-i-test.true (given_is ∙ w.if-gives.false))
    ]
