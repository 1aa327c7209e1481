use Rattle.std.proofs.Common.{◌-◌, take, drop, sym, ap, ap₂, ◌∙◌, arith, length-drop, length-take-le}
use Rattle.vm_block.specs.Look.{end_in}
use Rattle.vm_block.specs.Leaf.{bounds_from}
use Rattle.vm_block.proofs.LookLemmas.{values_part}
use Rattle.vm_block.proofs.PartLemmas.{bounds_part}
use Rattle.vm_block.proofs.parts.part_of.Goals as goal

pub returns-clause-only : goal.returns-clause-only
returns-clause-only c rs leaf le =
    let bytes = c.args.bytes.now in
    let a = c.args.from in
    let b = c.args.to in
    let low = c.values_range-low.ensures.low rs leaf le in
    let high = c.values_range-low.ensures.high rs leaf le in
    record {
      many = length-take-le (b - a) (drop a rs) (omega (arith, length-drop a rs, le));
      bounds = bounds_part bytes rs a b _ leaf c.requires.order le (omega (arith, c.requires.order)) ∙ ap (λ m. bounds_from m (take (b - a) (drop a rs))) (sym (c.end_before.ensures.only rs leaf (omega (arith, c.requires.order, le))));
      values = ap₂ (λ x y. take (y - x) (drop x bytes)) low high ∙ values_part bytes rs a b (end_in rs b - end_in rs a) leaf c.requires.order (omega arith);
    }
