use Rattle.std.proofs.Common.{◌≡◌, ◌+◌, ◌-◌, ◌*◌, ◌++◌, map, take, drop, min, get_or, refl, sym, ap, ap₂, ◌∙◌, arith, length-take-le}
use Rattle.std.proofs.Math.Facts.{Fits-lt-pow}
use Rattle.std.specs.List.{flat_map}
use Rattle.std.proofs.lemmas.List.{get_or-map, length-map, take_all}
use Rattle.vm_block.specs.Bounds.{bounds_of, moved}
use Rattle.vm_block.specs.Leaf.{bound_bytes}
use Rattle.vm_block.specs.declared.bounds.Bound.{Bound}
use Rattle.vm_block.proofs.BoundLemmas.{bound_part, bounds_kept, get_or-bounds_of, length-bounds_of}
use Rattle.vm_block.proofs.Rows.{rows_written}
use Rattle.vm_block.proofs.bounds.move_bounds.Goals as goal

pub loop-i-preserved : goal.loop-i-preserved
loop-i-preserved c =
    let bytes = c.args.bytes.now in
    let i = c.loop-i.i in
    let n = c.args.count in
    let bound = c.read_bound-bound.result in
    let f = moved c.args.from c.args.to in
    let x : Bound = record { key = bound.key; end = c.min.result } in
    let end : c.min.result ≡ min (bound.end - c.args.from + c.args.to) 65535 = c.min.ensures ∙ ap (λ e. min (e + c.args.to) 65535) (c.saturating_sub.ensures ∙ ap (λ e. e - c.args.from) c.from.ensures) in
    let here : get_or (bounds_of n bytes) i bound ≡ bound = get_or-bounds_of n i bytes bound c.loop-i-test.true ∙ bound_part i _ bytes bound refl c.read_bound-bound.ensures.spelled in
    let many = length-bounds_of n bytes in
    let is : x ≡ get_or (map f (bounds_of n bytes)) i x = ap (λ e. record { key = bound.key; end = e }) end ∙ ap f (sym here) ∙ sym (get_or-map f (bounds_of n bytes) i bound x (omega (arith, many, c.loop-i-test.true))) in
    rows_written bound_bytes 12 (map f (bounds_of n bytes)) i x c.args.out.now c.loop-i.out _ _ (omega (arith, c.loop-i-test.true, length-map (bounds_of n bytes) f, many)) is c.loop-i.invariant (omega (arith, length-map (bounds_of n bytes) f, many, c.requires.room)) c.loop-i.auto.out refl c.write_bound.ensures

pub returns : goal.returns
returns c =
    let xs = map (moved c.args.from c.args.to) (bounds_of c.args.count c.args.bytes.now) in
    let end : c.loop-i.i ≡ c.args.count = omega (arith, c.loop-i-test.false, c.loop-i.auto.i-end) in
    c.loop-i.invariant
    ∙ ap (λ n. flat_map bound_bytes (take n xs) ++ drop (12 * n) c.args.out.now) end
    ∙ ap (λ ys. flat_map bound_bytes ys ++ drop (12 * c.args.count) c.args.out.now) (take_all c.args.count xs (omega (arith, length-map (bounds_of c.args.count c.args.bytes.now) (moved c.args.from c.args.to), length-bounds_of c.args.count c.args.bytes.now)))

pub returns-then-to-eq0 : goal.returns-then-to-eq0
returns-then-to-eq0 c =
    let bytes = c.args.bytes.now in
    let n = c.args.count in
    let out = c.args.out.now in
    c.put.ensures
    ∙ ap₂ (λ z m. z ++ drop m out) (bounds_kept n bytes (λ k. Fits-lt-pow (c.type_inv.bytes k)) c.requires.there) (length-take-le (12 * n) bytes c.requires.there)
    ∙ ap₂ (λ f t. flat_map bound_bytes (map (moved f t) (bounds_of n bytes)) ++ drop (12 * n) out) (sym c.if-from-eq0.true) (sym c.if-to-eq0.true)
