use Rattle.std.proofs.Common.{◌∷◌, ◌++◌, [], ap, ◌∙◌}
use Rattle.vm_types.specs.Packed.{items_in}
use Rattle.vm_types.proofs.PackedLemmas.{on_err, tells_more, tells_pushed}
use Rattle.vm_types.proofs.packed.PackedList.push_row.Goals as goal

pub returns-in_err-pieces-clause-err : goal.returns-in_err-pieces-clause-err
returns-in_err-pieces-clause-err g c =
    let stay = tells_more g.T.Packed.item _ c.add_all.new.self _ _ c.add_all.ensures.more record { lie = c.self.invariant; are = c.self.view_is } in
    on_err _ _ (ap (items_in g.T.Packed.item c.add_all.new.self) c.reserve.ensures.items ∙ stay.are)

pub invariant_of-self-2 : goal.invariant_of-self-2
invariant_of-self-2 g c =
    let pushed = c.push_reserved.ensures.items ∙ ap (λ rows. rows ++ (c.args.key, c.in_ok-pieces.pieces) ∷ []) c.reserve.ensures.items in
    (tells_pushed g.T.Packed.item _ _ _ _ _ _ _ _ record { lie = c.self.invariant; are = c.self.view_is } c.add_all.ensures.more c.in_ok-pieces.ensures.ok pushed).lie

pub returns-clause-ok : goal.returns-clause-ok
returns-clause-ok g c =
    let pushed = c.push_reserved.ensures.items ∙ ap (λ rows. rows ++ (c.args.key, c.in_ok-pieces.pieces) ∷ []) c.reserve.ensures.items in
    (tells_pushed g.T.Packed.item _ _ _ _ _ _ _ _ record { lie = c.self.invariant; are = c.self.view_is } c.add_all.ensures.more c.in_ok-pieces.ensures.ok pushed).are
