use Rattle.std.proofs.Common.{◌≡◌, ℕ, List, Option, [], ◌++◌, get_or, option_copied, ap, ap₂, sym, ◌∙◌, arith}
use Rattle.std.proofs.lemmas.List.{get_or-map, length-map}
use Rattle.vm_types.specs.declared.change.Conflict.{Conflict}
use Rattle.vm_types.specs.declared.key.Key.{Key}
use Rattle.vm_cli.specs.answers.Listings.{conflict_text}
use Rattle.vm_cli.proofs.answers.listing.ConflictsListing.push_line.Goals as goal

pub returns : goal.returns
returns c =
    let conflicts : List Conflict = c.args.self.now in
    let given : Conflict = record { key = c.key.result; base = option_copied c.base.result; parent = option_copied c.parent.result; mine = option_copied c.mine.result } in
    let at = get_or conflicts c.args.i given in
    let first : (given.key, given.base) ≡ (at.key, at.base) = ap₂ (λ k v. (k, v)) (c.key.ensures given) (c.base.ensures.value given) in
    let rest : (given.parent, given.mine) ≡ (at.parent, at.mine) = ap₂ (λ p m. (p, m)) (c.parent.ensures.value given) (c.mine.ensures.value given) in
    let same : given ≡ at = ap₂ (λ (f : Key × Option (List ℕ)) (r : Option (List ℕ) × Option (List ℕ)). record { key = f.0; base = f.1; parent = r.0; mine = r.1 }) first rest in
    c.push_conflict.ensures
    ∙ ap (λ (text : List ℕ). c.args.text.now ++ text)
    (ap conflict_text same ∙ sym (get_or-map conflict_text conflicts c.args.i given [] (omega (arith, c.requires.within, length-map conflicts conflict_text))))
