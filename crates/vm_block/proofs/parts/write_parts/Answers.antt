use Rattle.std.proofs.Common.{◌≡◌, ◌+◌, ◌*◌, ◌++◌, length, ◌∙◌, arith, length-append}
use Rattle.std.specs.List.{flat_map}
use Rattle.vm_block.specs.Leaf.{bound_bytes, bounds_from, leaf_head}
use Rattle.vm_block.proofs.LeafLemmas.{length-entries_from, length-leaf_head}
use Rattle.vm_block.proofs.PartLemmas.{count_joined, leaf_joined, three_written, values_joined}
use Rattle.vm_block.proofs.parts.write_parts.Goals as goal

pub returns : goal.returns
returns c xs ys zs fx fy fz =
    let front = c.args.front.now in
    let middle = c.args.middle.now in
    let back = c.args.back.now in
    let rs = xs ++ (ys ++ zs) in
    let n = front.count + middle.count + back.count in
    let len = length front.values.now + length middle.values.now + length back.values.now in
    let vs = (front.values.now ++ middle.values.now) ++ back.values.now in
    let many = count_joined front middle back xs ys zs fx fy fz in
    let ends : length vs ≡ len = omega (arith, length-append (front.values.now ++ middle.values.now) back.values.now, length-append front.values.now middle.values.now) in
    let entries : length (flat_map bound_bytes (bounds_from 0 rs)) ≡ 12 * n = omega (arith, length-entries_from 0 rs, many) in
    three_written (leaf_head n) (flat_map bound_bytes (bounds_from 0 rs)) vs c.args.out.now _ _ _ _ 16 (12 * n) len c.told-out (length-leaf_head n) entries ends (omega (arith, c.requires.room)) c.write_leaf_head.ensures (c.write_bounds.ensures xs ys zs fx fy fz) c.write_values.ensures c.put_zeros.ensures
    ∙ leaf_joined n rs vs many (values_joined front middle back xs ys zs fx fy fz)
