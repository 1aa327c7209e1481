use Rattle.std.proofs.Common.{◌-◌, [], Some, sym, ap, ◌∙◌, arith}
use Rattle.vm_types.specs.declared.key.Key.{Key}
use Rattle.vm_block.specs.Leaf.{Record}
use Rattle.vm_diff.specs.Ahead.{first_key}
use Rattle.vm_diff.proofs.RowLemmas.{part_some, records_part}
use Rattle.vm_diff.proofs.records.Records.key.Goals as goal

pub returns-then-self : goal.returns-then-self
returns-then-self c =
    let s = c.self.inside in
    let leaf = c.self.invariant.2.1 (omega (arith, c.if-self.true)) in
    let within = c.self.invariant.2.0 in
    let d : Record = (c.record_key.result, []) in
    let view = sym (records_part s.len s.bytes s.at (s.count - s.at) leaf ∙ part_some leaf.records s.at (s.count - s.at) d (omega (arith, c.if-self.true)) (omega (arith, within, leaf.many, c.if-self.true))) ∙ c.self.view_is in
    ap (λ (k : Key). Some k) (sym (c.record_key.ensures.key leaf.records leaf.leaf d (omega (arith, within, leaf.many, c.if-self.true)))) ∙ ap first_key view
