use Rattle.std.proofs.Common.{◌≡◌, ℕ, ◌+◌, ◌*◌, ◌++◌, length, map, drop, refl, ap, ◌∙◌, arith, length-append}
use Rattle.std.specs.List.{flat_map}
use Rattle.vm_block.specs.Bounds.{bounds_of, moved}
use Rattle.vm_block.specs.Leaf.{bound_bytes}
use Rattle.vm_block.specs.declared.parts.Part.{Part}
use Rattle.vm_block.proofs.PartLemmas.{entries_joined, length-moved}
use Rattle.vm_block.proofs.Pieces.{then_writes}
use Rattle.vm_block.proofs.parts.write_bounds.Goals as goal

pub returns : goal.returns
returns c xs ys zs fx fy fz =
    let front = c.args.front.now in
    let middle = c.args.middle.now in
    let back = c.args.back.now in
    let old = c.args.out.now in
    let next = length front.values.now in
    let last = next + length middle.values.now in
    let e = λ (part : Part) (to : ℕ). flat_map bound_bytes (map (moved part.before to) (bounds_of part.count part.bounds.now)) in
    let l1 = length-moved front 0 in
    let l2 = length-moved middle next in
    let both = then_writes (e front 0) (e middle next) old _ _ (12 * front.count) _ (12 * middle.count) (12 * (front.count + middle.count)) c.move_bounds.ensures l1 refl c.move_bounds-2.ensures (omega arith) in
    let ends : length (e front 0 ++ e middle next) ≡ 12 * (front.count + middle.count) = omega (arith, length-append (e front 0) (e middle next), l1, l2) in
    then_writes (e front 0 ++ e middle next) (e back last) old _ _ (12 * (front.count + middle.count)) _ (12 * back.count) (12 * (front.count + middle.count + back.count)) both ends refl c.move_bounds-3.ensures (omega arith)
    ∙ ap (λ z. z ++ drop (12 * (front.count + middle.count + back.count)) old) (entries_joined front middle back xs ys zs next last fx fy fz refl refl (omega (arith, c.requires.small)))
