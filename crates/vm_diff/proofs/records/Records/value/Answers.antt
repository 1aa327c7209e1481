use Rattle.std.proofs.Common.{◌+◌, ◌-◌, [], take, drop, get_or, length, sym, ap, ◌∙◌, arith}
use Rattle.vm_block.specs.Leaf.{Record, RecordFits}
use Rattle.vm_block.proofs.EachLemmas.{each_at}
use Rattle.vm_diff.specs.Rows.{records_of}
use Rattle.vm_diff.proofs.RowLemmas.{first_pair, none_first, part_none, part_some, records_part}
use Rattle.vm_diff.proofs.records.Records.value.Goals as goal

pub returns-then-self-clause-value : goal.returns-then-self-clause-value
returns-then-self-clause-value c key value first =
    let s = c.self.inside in
    let leaf = c.self.invariant.2.1 (omega (arith, c.if-self.true)) in
    let within = c.self.invariant.2.0 in
    let d : Record = (key, []) in
    let n = s.count - s.at in
    let view = sym (records_part s.len s.bytes s.at n leaf ∙ part_some leaf.records s.at n d (omega (arith, c.if-self.true)) (omega (arith, within, leaf.many, c.if-self.true))) ∙ c.self.view_is in
    c.record_value.ensures.value leaf.records leaf.leaf d (omega (arith, within, leaf.many, c.if-self.true)) ∙ first_pair (get_or leaf.records s.at d) (take (n - 1) (drop (s.at + 1) leaf.records)) _ key value view first

pub returns-then-self-clause-short : goal.returns-then-self-clause-short
returns-then-self-clause-short c =
    let s = c.self.inside in
    let leaf = c.self.invariant.2.1 (omega (arith, c.if-self.true)) in
    let within = c.self.invariant.2.0 in
    let d : Record = (record { table = 0; number = 0 }, []) in
    let fits = each_at RecordFits leaf.records s.at d leaf.leaf.fit (omega (arith, within, leaf.many, c.if-self.true)) in
    omega (arith, fits.1, ap length (c.record_value.ensures.value leaf.records leaf.leaf d (omega (arith, within, leaf.many, c.if-self.true))))

pub returns-else-self-clause-value : goal.returns-else-self-clause-value
returns-else-self-clause-value c key value first =
    let s = c.self.inside in
    none_first _ key value (sym (part_none (records_of s.len s.bytes) s.at (s.count - s.at) (omega (arith, c.if-self.false))) ∙ c.self.view_is) first
