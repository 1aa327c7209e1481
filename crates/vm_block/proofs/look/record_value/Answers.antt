use Rattle.std.proofs.Common.{◌+◌, ◌-◌, take, drop, ap₂, ◌∙◌, arith}
use Rattle.vm_block.specs.Look.{end_in}
use Rattle.vm_block.proofs.LookLemmas.{one_value, values_part}
use Rattle.vm_block.proofs.look.record_value.Goals as goal

pub returns-clause-value : goal.returns-clause-value
returns-clause-value c rs leaf d lt =
    let bytes = c.args.bytes.now in
    let i = c.args.index in
    let low = c.values_range-low.ensures.low rs leaf (omega arith) in
    let high = c.values_range-low.ensures.high rs leaf (omega arith) in
    ap₂ (λ a b. take (b - a) (drop a bytes)) low high
    ∙ values_part bytes rs i (i + 1) (end_in rs (i + 1) - end_in rs i) leaf (omega arith) (omega arith)
    ∙ one_value rs i d lt
