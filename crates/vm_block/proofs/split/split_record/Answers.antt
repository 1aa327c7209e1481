use Rattle.std.proofs.Common.{◌≡◌, ℕ, ◌+◌, ◌∷◌, [], length, refl, sym, ap, ◌∙◌, arith}
use Rattle.std.proofs.lemmas.List.{append-nil}
use Rattle.vm_block.specs.Leaf.{Record}
use Rattle.vm_block.specs.declared.bounds.Bound.{Bound}
use Rattle.vm_block.proofs.EditLemmas.{span_within}
use Rattle.vm_block.proofs.HalvesLemmas.{split_three, split_two}
use Rattle.vm_block.proofs.split.split_record.Goals as goal

pub returns-then-write_cut-clause-only : goal.returns-then-write_cut-clause-only
returns-then-write_cut-clause-only c rs leaf big =
    let r : Record = (c.args.key, c.args.value.now) in
    let look = c.find_record.result in
    let there = c.find_record.ensures.only rs leaf in
    let i = c.span-index.result.0 in
    let j = c.span-index.result.1 in
    let i_is = ap (λ x. x.0) c.span-index.ensures.span in
    let j_is = ap (λ x. x.1) c.span-index.ensures.span in
    let within = span_within _ look rs there in
    let count : c.max.result ≡ length rs = omega (arith, c.max.ensures, c.records_len.ensures.only rs leaf, within, j_is) in
    let bound : ℕ → Bound = λ n. record { key = c.args.key; end = n } in
    let far : length c.args.value.now ≡ 0 + length c.args.value.now = omega arith in
    split_two c.args.bytes.now c.write_cut.new.left c.write_cut.new.right rs r look i j c.chosen_cut-cut.result leaf (c.find_record.ensures.fits, c.requires) there i_is j_is big
    (c.chosen_cut-cut.ensures.above (omega (arith, count, leaf.some)))
    (λ at. c.chosen_cut-cut.ensures.behind (at ∙ sym count))
    (λ lt. c.chosen_cut-cut.ensures.only (omega (arith, lt, count)) rs r leaf count refl)
    (c.if-write_cut.ensures rs r leaf count (record { many = refl; bounds = c.bound_alone-bound.ensures.alone ∙ ap (λ n. bound n ∷ []) far; values = sym (append-nil c.args.value.now) }))

pub returns-clause-only : goal.returns-clause-only
returns-clause-only c rs leaf big =
    let r : Record = (c.args.key, c.args.value.now) in
    let look = c.find_record.result in
    let there = c.find_record.ensures.only rs leaf in
    let i = c.span-index.result.0 in
    let j = c.span-index.result.1 in
    let i_is = ap (λ x. x.0) c.span-index.ensures.span in
    let j_is = ap (λ x. x.1) c.span-index.ensures.span in
    let within = span_within _ look rs there in
    let count : c.max.result ≡ length rs = omega (arith, c.max.ensures, c.records_len.ensures.only rs leaf, within, j_is) in
    let bound : ℕ → Bound = λ n. record { key = c.args.key; end = n } in
    let far : length c.args.value.now ≡ 0 + length c.args.value.now = omega arith in
    let bounds = c.bound_alone-bound.ensures.alone ∙ ap (λ n. bound n ∷ []) far in
    let wrote = c.write_three.ensures rs r leaf count (record { many = refl; bounds = bounds; values = sym (append-nil c.args.value.now) }) c.requires in
    split_three c.args.bytes.now c.write_three.new.left c.write_three.new.middle c.write_three.new.right rs r look i j c.chosen_cut-cut.result leaf (c.find_record.ensures.fits, c.requires) there i_is j_is big
    (omega (arith, within, j_is, c.span-index.ensures.order))
    c.span-index.ensures.order
    (λ at. c.chosen_cut-cut.ensures.behind (at ∙ sym count))
    (λ lt. c.chosen_cut-cut.ensures.only (omega (arith, lt, count)) rs r leaf count refl)
    (c.if-write_cut.ensures rs r leaf count (record { many = refl; bounds = bounds; values = sym (append-nil c.args.value.now) }))
    wrote.0 wrote.1 wrote.2
