use Rattle.std.proofs.Common.{◌≡◌, ℕ, ◌+◌, ◌∷◌, [], length, refl, sym, ap, ◌∙◌, arith}
use Rattle.std.proofs.lemmas.List.{append-nil}
use Rattle.vm_block.specs.Leaf.{Record}
use Rattle.vm_block.specs.declared.bounds.Bound.{Bound}
use Rattle.vm_block.proofs.EditLemmas.{put_refused, put_written, span_within}
use Rattle.vm_block.proofs.changes.put_where.Goals as goal

pub returns-then-write_changed-clause-only : goal.returns-then-write_changed-clause-only
returns-then-write_changed-clause-only c rs leaf there =
    let r : Record = (c.args.key, c.args.value.now) in
    let look = c.args.look in
    let i_is = ap (λ x. x.0) c.span-index.ensures.span in
    let j_is = ap (λ x. x.1) c.span-index.ensures.span in
    let bound : ℕ → Bound = λ n. record { key = c.args.key; end = n } in
    let far : length c.args.value.now ≡ 0 + length c.args.value.now = omega arith in
    put_written c.args.old.now c.write_changed.new.out rs r look c.span-index.result.0 c.span-index.result.1 leaf (c.bound_alone-bound.ensures.fits, c.requires.short) there i_is j_is
    (c.if-write_changed.ensures.only rs leaf (r ∷ []) (record { many = refl; bounds = c.bound_alone-bound.ensures.alone ∙ ap (λ n. bound n ∷ []) far; values = sym (append-nil c.args.value.now) }) (omega (arith, span_within _ look rs there, j_is)))

pub returns-else-write_changed-clause-only : goal.returns-else-write_changed-clause-only
returns-else-write_changed-clause-only c rs leaf there =
    let r : Record = (c.args.key, c.args.value.now) in
    let look = c.args.look in
    let i_is = ap (λ x. x.0) c.span-index.ensures.span in
    let j_is = ap (λ x. x.1) c.span-index.ensures.span in
    let bound : ℕ → Bound = λ n. record { key = c.args.key; end = n } in
    let far : length c.args.value.now ≡ 0 + length c.args.value.now = omega arith in
    put_refused rs r look c.span-index.result.0 c.span-index.result.1 there i_is j_is
    (c.if-write_changed.ensures.only rs leaf (r ∷ []) (record { many = refl; bounds = c.bound_alone-bound.ensures.alone ∙ ap (λ n. bound n ∷ []) far; values = sym (append-nil c.args.value.now) }) (omega (arith, span_within _ look rs there, j_is)))
