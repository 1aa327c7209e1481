use Rattle.std.proofs.Common.{sym, ◌∙◌, refl, arith}
use Rattle.vm_types.specs.Pieces.{values_in}
use Rattle.vm_types.proofs.PackedLemmas.{next_left}
use Rattle.vm_types.proofs.packed.PackedIter.next_row.Goals as goal

pub shared_whole_as_slice-result : goal.shared_whole_as_slice-result
shared_whole_as_slice-result g c = omega (arith, g.met.T.Packed.few)

pub returns-clause-item : goal.returns-clause-item
returns-clause-item g c =
    sym c.self.view_is
    ∙ next_left (λ row. g.T.Packed.item row.0 (values_in c.list.inside.values row.1)) _ _ c.self.inside.at c.index.result.now _ c.list.view_is
    (omega (arith, c.if-self-len.false, c.len.ensures)) c.index.ensures refl
