use Rattle.std.proofs.Common.{◌∷◌, [], ap, ◌∙◌, arith}
use Rattle.vm_block.specs.Bounds.{bound_of}
use Rattle.vm_block.specs.declared.bounds.Bound.{Bound}
use Rattle.vm_block.proofs.BoundLemmas.{bound_read}
use Rattle.vm_block.proofs.parts.bound_alone.Goals as goal

pub returns-clause-alone : goal.returns-clause-alone
returns-clause-alone c =
    let b : Bound = record { key = c.args.key; end = c.args.len } in
    ap (λ z. bound_of z ∷ []) c.write_bound.ensures ∙ ap (λ x. x ∷ []) (bound_read b [] ((omega arith, omega arith), omega arith))
