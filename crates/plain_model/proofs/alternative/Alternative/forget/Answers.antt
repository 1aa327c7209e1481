use Rattle.std.proofs.Common.{◌≡◌, List, find, None, sym, ap, ◌∙◌}
use Rattle.std.specs.Prelude.{bytes_eq, Bool}
use Rattle.vm_types.specs.Tree.{Alternative, Saved}
use Rattle.vm_types.proofs.FirstsLemmas.{without_first-none}
use Rattle.plain_model.proofs.alternative.Alternative.forget.Goals as goal

pub returns-in_default : goal.returns-in_default
returns-in_default c =
    let test : Saved → Bool = λ (s : Saved). bytes_eq s.name c.args.name.now in
    let none : find test c.args.self.now.saved ≡ None = ap (λ (a : Alternative). find test a.saved) (sym c.self.view_is) ∙ sym (ap (find test) c.deref.ensures.value) ∙ c.in_default.ensures.none in
    ap (λ (saved : List Saved). record c.args.self.now { saved = saved }) (sym (without_first-none test c.args.self.now.saved none))
