use Rattle.std.proofs.Common.{[], drop, refl, sym, ◌∙◌, arith, length-drop}
use Rattle.std.proofs.lemmas.List.{get_or-drop}
use Rattle.vm_block.proofs.Pieces.{zeros_are}
use Rattle.vm_catalog.specs.Written.{cells}
use Rattle.vm_catalog.proofs.WrittenLemmas.{length-cells, row_more, row_ends}
use Rattle.vm_catalog.proofs.writer.write_cells.Goals as goal

pub loop-i-preserved : goal.loop-i-preserved
loop-i-preserved c =
    let all = cells c.args.blocks c.args.entries.now in
    row_more (drop c.args.first all) c.loop-i.i _ _ c.loop-i.out _ _ c.loop-i.invariant
    (omega (arith, length-cells c.args.blocks c.args.entries.now, length-drop c.args.first all))
    (sym (get_or-drop c.args.first all c.loop-i.i [])) (omega arith) refl c.write_cell.auto.out c.write_cell.ensures

pub returns : goal.returns
returns c =
    row_ends _ c.loop-i.i c.args.count _ _ _ _ c.loop-i.invariant (omega arith) c.requires.room refl (c.fill.ensures.after (λ y e. e) ∙ zeros_are _)
