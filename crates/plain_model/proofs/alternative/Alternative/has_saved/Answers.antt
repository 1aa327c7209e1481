use Rattle.std.proofs.Common.{find, is_some, ap, ◌∙◌}
use Rattle.std.specs.Prelude.{bytes_eq, Bool}
use Rattle.vm_types.specs.Tree.{Alternative, Saved}
use Rattle.plain_model.proofs.Finding.{is_some-place}
use Rattle.plain_model.proofs.alternative.Alternative.has_saved.Goals as goal

pub returns : goal.returns
returns c =
    let test : Saved → Bool = λ (s : Saved). bytes_eq s.name c.args.name.now in
    c.is_some.ensures
    ∙ is_some-place test c.self.inside.saved.items c.position_of.result
    (rw c.deref.ensures.value at c.position_of.ensures.found) (rw c.deref.ensures.value at c.position_of.ensures.none)
    ∙ ap (λ (a : Alternative). is_some (find test a.saved)) c.self.view_is
