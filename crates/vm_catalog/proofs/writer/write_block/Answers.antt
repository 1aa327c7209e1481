use Rattle.std.proofs.Common.{◌∙◌, ℕ, ap, take, drop, ◌*◌}
use Rattle.vm_block.specs.Padding.{padded}
use Rattle.vm_catalog.specs.Written.{cells, joined}
use Rattle.vm_catalog.proofs.WrittenLemmas.{slot_block_at}
use Rattle.vm_catalog.proofs.writer.write_block.Goals as goal

pub returns : goal.returns
returns c =
    slot_block_at c.args.blocks c.args.entries.now c.args.index c.min-count.result _ c.requires.used c.min-count.ensures (c.write_cells.ensures ∙ ap (λ (n : ℕ). padded n (joined (take c.min-count.result (drop (32 * c.args.index) (cells c.args.blocks c.args.entries.now))))) c.told-out)
