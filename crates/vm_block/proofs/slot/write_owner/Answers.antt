use Rattle.std.proofs.Common.{◌++◌, drop, ap, sym, ◌∙◌}
use Rattle.vm_block.specs.Slot.{owner_bytes}
use Rattle.vm_block.proofs.SlotLemmas.{none_written}
use Rattle.vm_block.proofs.slot.write_owner.Goals as goal

pub returns-in-None : goal.returns-in-None
returns-in-None c =
    let rest = drop 33 c.args.out.now in
    c.put.ensures ∙ ap (λ x. x ++ rest) none_written ∙ ap (λ o. owner_bytes o ++ rest) (sym c.in-None.is)
