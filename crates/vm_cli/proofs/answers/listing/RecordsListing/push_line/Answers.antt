use Rattle.std.proofs.Common.{ℕ, List, [], ◌++◌, ap, ap₂, sym, ◌∙◌, arith}
use Rattle.std.proofs.lemmas.List.{get_or-map, length-map}
use Rattle.vm_types.specs.declared.key.Key.{Key}
use Rattle.vm_cli.specs.answers.Listings.{record_text}
use Rattle.vm_cli.proofs.answers.listing.RecordsListing.push_line.Goals as goal

pub returns : goal.returns
returns c =
    let records : List (Key × List ℕ) = c.args.self.now in
    let given : Key × List ℕ = (c.key.result, c.value.result.now) in
    let line : Key × List ℕ → List ℕ = λ r. record_text r.0 r.1 in
    c.push_record.ensures
    ∙ ap (λ (text : List ℕ). c.args.text.now ++ text)
    (ap₂ record_text (c.key.ensures given) (c.value.ensures.value given) ∙ sym (get_or-map line records c.args.i given [] (omega (arith, c.requires.within, length-map records line))))
