use Rattle.std.proofs.Common.{◌≡◌, ℕ, ◌+◌, ◌∷◌, [], length, refl, sym, ap, ◌∙◌, arith}
use Rattle.std.proofs.lemmas.List.{append-nil}
use Rattle.vm_block.specs.Leaf.{Record}
use Rattle.vm_block.specs.declared.bounds.Bound.{Bound}
use Rattle.vm_block.proofs.HalvesLemmas.{one_leaf}
use Rattle.vm_block.proofs.changes.first_record.Goals as goal

pub returns : goal.returns
returns c =
    let r : Record = (c.args.key, c.args.value.now) in
    let bound : ℕ → Bound = λ n. record { key = c.args.key; end = n } in
    let far : length c.args.value.now ≡ 0 + length c.args.value.now = omega arith in
    one_leaf c.write_parts.new.out r (c.bound_alone-bound.ensures.fits, c.requires)
    (c.write_parts.ensures (r ∷ []) [] [] (record { many = refl; bounds = c.bound_alone-bound.ensures.alone ∙ ap (λ n. bound n ∷ []) far; values = sym (append-nil c.args.value.now) }) c.no_part-none.ensures.none c.no_part-none.ensures.none)
