use Rattle.std.proofs.Common.{◌∷◌, ◌∙◌, ap, inr, refl, sym}
use Rattle.vm_cli.specs.program.Exits.SaysNoCopy.{name_denied}
use Rattle.vm_cli.proofs.CopyingLemmas.{names}
use Rattle.vm_cli.proofs.program.store_copy.name_copy.Goals as goal

pub returns-else-is_named-clause-ends : goal.returns-else-is_named-clause-ends
returns-else-is_named-clause-ends g c = inr (refl, (_, name_denied, c.no_file.ensures))

pub returns-else-is_named-clause-named : goal.returns-else-is_named-clause-named
returns-else-is_named-clause-named g c apart honest =
    let linked = c.remove.ensures.asked.earlier honest in
    let back = c.link-is_named.ensures.asked.earlier linked in
    let denied = c.remove.ensures.asked.some refl ∙ c.link-is_named.ensures.asked.none c.if-is_named.false ∙ ap (λ ns. c.args.to.now ∷ ns) (c.give_back.ensures.asked.some refl) in
    names g.P.Place.state g.P.Place.denied g.P.Place.to_write c.args.part.now c.args.to.now c.args.size _ _ _ _ _ _ _ (λ is. apart (sym is))
    (c.give_back.ensures.honest back) (c.link-is_named.ensures.honest linked) (c.remove.ensures.honest honest) (inr (c.if-is_named.false, denied, c.no_file.ensures))
