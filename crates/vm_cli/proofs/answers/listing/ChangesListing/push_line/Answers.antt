use Rattle.std.proofs.Common.{◌≡◌, ℕ, List, Option, [], ◌++◌, get_or, option_copied, ap, ap₂, sym, ◌∙◌, arith}
use Rattle.std.proofs.lemmas.List.{get_or-map, length-map}
use Rattle.vm_types.specs.declared.change.Change.{Change}
use Rattle.vm_cli.specs.answers.Listings.{change_text}
use Rattle.vm_cli.proofs.answers.listing.ChangesListing.push_line.Goals as goal

pub returns : goal.returns
returns c =
    let changes : List Change = c.args.self.now in
    let given : Change = record { key = c.key.result; before = option_copied c.before-2.result; after = option_copied c.after.result } in
    let at = get_or changes c.args.i given in
    let values : (given.before, given.after) ≡ (at.before, at.after) = ap₂ (λ b a. (b, a)) (c.before-2.ensures.value given) (c.after.ensures.value given) in
    let same : given ≡ at = ap₂ (λ key (vs : Option (List ℕ) × Option (List ℕ)). record { key = key; before = vs.0; after = vs.1 }) (c.key.ensures given) values in
    c.push_change.ensures
    ∙ ap (λ (text : List ℕ). c.args.text.now ++ text)
    (ap change_text same ∙ sym (get_or-map change_text changes c.args.i given [] (omega (arith, c.requires.within, length-map changes change_text))))
