use Rattle.std.proofs.Common.{◌≡◌, ℕ, suc, ◌+◌, ◌<◌, length, List, ◌++◌, ◌∷◌, take, drop, ap, sym, ◌∙◌, arith}
use Rattle.vm_types.specs.declared.key.Key.{Key}
use Rattle.std.proofs.lemmas.List.{set_split}
use Rattle.vm_types.specs.Map.{with_value}
use Rattle.plain_model.proofs.map.put.Goals as goal

pub returns-in-Ok : goal.returns-in-Ok
returns-in-Ok c =
    let records = c.args.map.now.items in
    let held : List ℕ = c.in_ok-held.held in
    let row : Key × List ℕ = (c.args.key, held) in
    let same = ap (λ (value : List ℕ). with_value records c.args.key value) c.in_ok-held.ensures in
    let i = c.in-Ok.i in
    let there : with_value records c.args.key held ≡ take i records ++ row ∷ drop (i + 1) records = rw c.deref.ensures.value at c.in-Ok.ensures.there held in
    let within : i < length records = rw c.deref.ensures.value at c.in-Ok.ensures.within in
    let next : suc i ≡ i + 1 = omega arith in
    set_split records i row within ∙ ap (λ k. take i records ++ row ∷ drop k records) next ∙ sym there ∙ same
