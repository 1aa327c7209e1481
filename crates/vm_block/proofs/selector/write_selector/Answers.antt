use Rattle.std.proofs.Common.{◌∷◌, ap, ◌∙◌, set}
use Rattle.vm_block.specs.Padding.{zeros}
use Rattle.vm_block.specs.Selector.{selector_bytes}
use Rattle.vm_block.proofs.Pieces.{set-zeros}
use Rattle.vm_block.proofs.selector.write_selector.Goals as goal

pub returns : goal.returns
unfolding selector_bytes
returns c =
    ap (λ z. set z 0 c.byte.result) (c.put_zeros.ensures ∙ ap zeros c.told-out) ∙ set-zeros 4095 c.byte.result ∙ ap (λ b. b ∷ zeros 4095) c.byte.ensures
