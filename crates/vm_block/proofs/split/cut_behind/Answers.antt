use Rattle.std.proofs.Common.{◌+◌, ◌-◌, ◌++◌, ◌∷◌, [], take, drop, sym, subst, arith}
use Rattle.vm_block.specs.Split.{IsCutInto, with_coming}
use Rattle.vm_block.proofs.SplitLemmas.{back_alone, cut_into, cut_out, front_with}
use Rattle.vm_block.proofs.split.cut_behind.Goals as goal

pub returns-then-write_fitting : goal.returns-then-write_fitting
returns-then-write_fitting c rs r leaf many one =
    let coming = c.args.coming.now in
    let i = coming.index in
    let j = coming.next in
    let k = c.args.more in
    let xs = take (i - 0) (drop 0 rs) in
    let ys = take (j + k - j) (drop j rs) in
    let zs = take (coming.count - (j + k)) (drop (j + k) rs) in
    cut_into c.write_fitting-then-write_fitting.result (i + 1 + k) (with_coming coming r rs) (xs ++ (r ∷ [] ++ ys)) (zs ++ ([] ++ [])) c.write_fitting.new.out c.write_fitting-then-write_fitting.new.out
    (front_with rs r i j k (omega (arith, many, c.requires.coming)))
    (back_alone rs r i j k coming.count (omega (arith, many, c.requires.coming)) many)
    (c.if-write_fitting.ensures.only xs (r ∷ []) ys (c.part_of-front.ensures.only rs leaf (omega (arith, many, c.requires.coming))) one (c.part_of-middle.ensures.only rs leaf (omega (arith, many, c.requires.behind))))
    (c.write_fitting-then-write_fitting.ensures.only zs [] [] (c.part_of-back.ensures.only rs leaf (omega (arith, many))) c.no_part.ensures.none c.no_part-then-write_fitting.ensures.none)

pub returns-else-write_fitting : goal.returns-else-write_fitting
returns-else-write_fitting c rs r leaf many one =
    let coming = c.args.coming.now in
    let i = coming.index in
    let j = coming.next in
    let k = c.args.more in
    let xs = take (i - 0) (drop 0 rs) in
    let ys = take (j + k - j) (drop j rs) in
    subst (λ b. IsCutInto b (i + 1 + k) (with_coming coming r rs) c.write_fitting.new.out c.args.right.now) (sym c.if-write_fitting.false)
    (cut_out (i + 1 + k) (with_coming coming r rs) (xs ++ (r ∷ [] ++ ys)) (front_with rs r i j k (omega (arith, many, c.requires.coming)))
    (c.if-write_fitting.ensures.only xs (r ∷ []) ys (c.part_of-front.ensures.only rs leaf (omega (arith, many, c.requires.coming))) one (c.part_of-middle.ensures.only rs leaf (omega (arith, many, c.requires.behind)))))
