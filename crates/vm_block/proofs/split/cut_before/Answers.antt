use Rattle.std.proofs.Common.{◌-◌, ◌++◌, ◌∷◌, [], take, drop, sym, subst, arith}
use Rattle.vm_block.specs.Split.{IsCutInto, with_coming}
use Rattle.vm_block.proofs.SplitLemmas.{back_with, cut_into, cut_out, front_alone}
use Rattle.vm_block.proofs.split.cut_before.Goals as goal

pub returns-then-write_fitting : goal.returns-then-write_fitting
returns-then-write_fitting c rs r leaf many one =
    let coming = c.args.coming.now in
    let h = c.args.cut in
    let xs = take (h - 0) (drop 0 rs) in
    let ys = take (coming.index - h) (drop h rs) in
    let zs = take (coming.count - coming.next) (drop coming.next rs) in
    cut_into c.write_fitting-then-write_fitting.result h (with_coming coming r rs) (xs ++ ([] ++ [])) (ys ++ (r ∷ [] ++ zs)) c.write_fitting.new.out c.write_fitting-then-write_fitting.new.out
    (front_alone rs (r ∷ []) h coming.index coming.next c.requires.before (omega (arith, many, c.requires.coming)))
    (back_with rs (r ∷ []) h coming.index coming.next coming.count c.requires.before (omega (arith, many, c.requires.coming)) many)
    (c.if-write_fitting.ensures.only xs [] [] (c.part_of-front.ensures.only rs leaf (omega (arith, many, c.requires.coming, c.requires.before))) c.no_part.ensures.none c.no_part-2.ensures.none)
    (c.write_fitting-then-write_fitting.ensures.only ys (r ∷ []) zs (c.part_of-middle.ensures.only rs leaf (omega (arith, many, c.requires.coming))) one (c.part_of-back.ensures.only rs leaf (omega (arith, many))))

pub returns-else-write_fitting : goal.returns-else-write_fitting
returns-else-write_fitting c rs r leaf many one =
    let coming = c.args.coming.now in
    let h = c.args.cut in
    let xs = take (h - 0) (drop 0 rs) in
    subst (λ b. IsCutInto b h (with_coming coming r rs) c.write_fitting.new.out c.args.right.now) (sym c.if-write_fitting.false)
    (cut_out h (with_coming coming r rs) (xs ++ ([] ++ [])) (front_alone rs (r ∷ []) h coming.index coming.next c.requires.before (omega (arith, many, c.requires.coming)))
    (c.if-write_fitting.ensures.only xs [] [] (c.part_of-front.ensures.only rs leaf (omega (arith, many, c.requires.coming, c.requires.before))) c.no_part.ensures.none c.no_part-2.ensures.none))
