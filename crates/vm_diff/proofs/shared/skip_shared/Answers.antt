use Rattle.vm_diff.proofs.SkipLemmas.{records_skipped, skips_on, tops_fall}
use Rattle.vm_diff.proofs.shared.skip_shared.Goals as goal

pub returns-then-not-pass_records-clause-differ : goal.returns-then-not-pass_records-clause-differ
returns-then-not-pass_records-clause-differ c =
    (records_skipped c.args.one.now c.args.other.now c.pass_records.new.one c.pass_records.new.other c.pass_records.ensures.passed c.pass_records.ensures.tops.0 c.pass_records.ensures.tops.1).differ

pub shared-init : goal.shared-init
shared-init c =
    let none = c.pass_records.ensures.none c.if-not-pass_records.false in
    record {
      skips = records_skipped c.args.one.now c.args.other.now c.pass_records.new.one c.pass_records.new.other c.pass_records.ensures.passed c.pass_records.ensures.tops.0 c.pass_records.ensures.tops.1;
      one_none = none.0;
      other_none = none.1;
    }

pub returns-then-not-pass_tops-clause-most : goal.returns-then-not-pass_tops-clause-most
returns-then-not-pass_tops-clause-most c =
    (skips_on c.args.one.now c.args.other.now c.shared.one c.shared.other c.pass_tops.new.one c.pass_tops.new.other c.shared.invariant c.pass_tops.ensures.passed c.pass_tops.ensures.pending.0 c.pass_tops.ensures.pending.1).skips.most

pub returns-then-not-pass_tops-clause-differ : goal.returns-then-not-pass_tops-clause-differ
returns-then-not-pass_tops-clause-differ c =
    (skips_on c.args.one.now c.args.other.now c.shared.one c.shared.other c.pass_tops.new.one c.pass_tops.new.other c.shared.invariant c.pass_tops.ensures.passed c.pass_tops.ensures.pending.0 c.pass_tops.ensures.pending.1).skips.differ

pub shared-smaller : goal.shared-smaller
shared-smaller c =
    tops_fall c.shared.one c.shared.other c.pass_tops.new.one c.pass_tops.new.other c.pass_tops.ensures.passed c.pass_tops.ensures.pending.0 c.pass_tops.ensures.pending.1 (c.pass_tops.ensures.some c.if-not-pass_tops.false)

pub shared-preserved : goal.shared-preserved
shared-preserved c =
    skips_on c.args.one.now c.args.other.now c.shared.one c.shared.other c.pass_tops.new.one c.pass_tops.new.other c.shared.invariant c.pass_tops.ensures.passed c.pass_tops.ensures.pending.0 c.pass_tops.ensures.pending.1

pub returns-then-not-pass_records-clause-most : goal.returns-then-not-pass_records-clause-most
returns-then-not-pass_records-clause-most c =
    (records_skipped c.args.one.now c.args.other.now c.pass_records.new.one c.pass_records.new.other c.pass_records.ensures.passed c.pass_records.ensures.tops.0 c.pass_records.ensures.tops.1).most
