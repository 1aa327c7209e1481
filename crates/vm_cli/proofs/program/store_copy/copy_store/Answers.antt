use Rattle.std.proofs.Common.{◌≡◌, ◌+◌, ◌∷◌, ◌∙◌, true, false, ap, arith, inr, refl, rules, subst, sym}
use Rattle.std.specs.Prelude.{codes}
use Rattle.vm_types.specs.declared.refusal.Refusal.TheVariants.{Memory}
use Rattle.vm_cli.specs.program.Copies.{blocks_for}
use Rattle.vm_cli.specs.program.Exits.{SaysNoCopy, file_text}
use Rattle.vm_cli.specs.program.Exits.SaysNoCopy.{copy_refused, name_denied, part_denied}
use Rattle.vm_cli.specs.program.Places.{Lacks}
use Rattle.vm_cli.specs.declared.program.opening.NoStore.TheVariants.{Refused}
use Rattle.vm_cli.proofs.CopyingLemmas.{as_asked, makes_laid, makes_taken, makes_unmade, part_apart}
use Rattle.vm_cli.proofs.program.store_copy.copy_store.Goals as goal

pub returns-in_default-clause-ends : goal.returns-in_default-clause-ends
returns-in_default-clause-ends g c = inr (refl, (_, copy_refused (Refused Memory), search rules))

pub returns-in-Err-clause-ends : goal.returns-in-Err-clause-ends
returns-in-Err-clause-ends g c = inr (refl, (_, copy_refused (Refused c.in-Err.refusal), c.refused.ensures))

pub returns-then-not-lacks-clause-ends : goal.returns-then-not-lacks-clause-ends
returns-then-not-lacks-clause-ends g c = inr (refl, (_, name_denied, c.no_file.ensures))

pub returns-in_default-create-clause-ends : goal.returns-in_default-create-clause-ends
returns-in_default-create-clause-ends g c =
    let named = c.as_str-part.ensures.value ∙ c.in-Ok-part_name.ensures in
    let said : SaysNoCopy c.args.to.now (file_text (codes "altctl: cannot create ") c.as_str-part.result.now) = subst (λ name. SaysNoCopy c.args.to.now (file_text (codes "altctl: cannot create ") name)) (sym named) part_denied in
    inr (refl, (_, said, c.no_file-in_default-create.ensures))

pub returns-then-not-lacks-clause-files : goal.returns-then-not-lacks-clause-files
returns-then-not-lacks-clause-files g c honest there well s holds =
    let size = c.in-Ok.ensures well in
    let taken : c.lacks.result ≡ false = search rules in
    as_asked c.args.to.now s _ _ _ _ _ _ _ (size.0.blocks_are ∙ ap (blocks_for c.args.blocks) holds.rests.blocks) size.0.used_are
    (makes_taken g.P.Place.state g.P.Place.denied g.P.Place.to_write _ _ _ _ c.lacks.ensures.asked.writes (omega (arith, size.0.used_are, size.0.enough))
    (c.lacks.ensures.honest honest).same (c.lacks.ensures.asked.none taken) (search rules))

pub returns-in_default-create-clause-files : goal.returns-in_default-create-clause-files
returns-in_default-create-clause-files g c honest there well s holds =
    let size = c.in-Ok.ensures well in
    let looked = c.create.ensures.asked.earlier honest in
    let free : c.lacks.result ≡ true = search rules in
    let lacks = subst (λ b. Lacks c.args.to.now b (g.P.Place.state c.args.place.now) (g.P.Place.state c.lacks.new.self)) free (c.lacks.ensures.honest looked) in
    let named = c.as_str-part.ensures.value ∙ c.in-Ok-part_name.ensures in
    as_asked c.args.to.now s _ _ _ _ _ _ _ (size.0.blocks_are ∙ ap (blocks_for c.args.blocks) holds.rests.blocks) size.0.used_are
    (makes_unmade g.P.Place.state g.P.Place.denied g.P.Place.to_write _ _ _ _ _ named _ lacks
    (c.create.ensures.asked.writes ∙ ap (λ n. n + 1) c.lacks.ensures.asked.writes) (omega (arith, size.0.used_are, size.0.enough))
    (search rules) (search rules) (search rules))

pub returns-clause-files : goal.returns-clause-files
returns-clause-files g c honest there well s holds =
    let size = c.in-Ok.ensures well in
    let made = c.copy_onto.ensures.earlier honest in
    let looked = c.in-Some.ensures.asked.earlier made in
    let free : c.lacks.result ≡ true = search rules in
    let lacks = subst (λ b. Lacks c.args.to.now b (g.P.Place.state c.args.place.now) (g.P.Place.state c.lacks.new.self)) free (c.lacks.ensures.honest looked) in
    let named = c.as_str-part.ensures.value ∙ c.in-Ok-part_name.ensures in
    as_asked c.args.to.now s _ _ _ _ _ _ _ (size.0.blocks_are ∙ ap (blocks_for c.args.blocks) holds.rests.blocks) size.0.used_are
    (makes_laid g.P.Place.state g.P.Place.denied g.P.Place.to_write _ _ _ _ _ named _ lacks _ _
    (λ denied. denied ∙ ap (λ ns. c.args.to.now ∷ ns) (c.in-Some.ensures.asked.some refl ∙ c.lacks.ensures.asked.some free))
    (c.copy_onto.ensures.writes ∙ c.in-Some.ensures.asked.writes ∙ ap (λ n. n + 1) c.lacks.ensures.asked.writes) (omega (arith, size.0.used_are, size.0.enough)) (c.in-Some.ensures.honest made)
    (c.copy_onto.ensures.told size.0.enough (λ is. part_apart c.args.to.now (sym is ∙ named)) honest there well s holds))
