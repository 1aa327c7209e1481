use Rattle.std.proofs.Common.{◌≡◌, ◌-◌, ◌++◌, ◌∷◌, [], take, drop, ap, ◌∙◌, subst, arith, length-append}
use Rattle.std.proofs.lemmas.List.{append-nil, take_rest}
use Rattle.vm_block.specs.Parts.{IsWritten}
use Rattle.vm_block.proofs.HalvesLemmas.{written_fits}
use Rattle.vm_block.proofs.SplitLemmas.{size_cut}
use Rattle.vm_block.proofs.split.write_three.Goals as goal

pub returns : goal.returns
returns c rs r leaf many one short =
    let coming = c.args.coming.now in
    let none = c.no_part-none.ensures.none in
    let i = coming.index in
    let j = coming.next in
    let front : take (i - 0) (drop 0 rs) ++ ([] ++ []) ≡ take i rs = append-nil (take (i - 0) rs) ∙ ap (λ n. take n rs) (omega arith) in
    let back : take (coming.count - j) (drop j rs) ++ ([] ++ []) ≡ drop j rs = append-nil (take (coming.count - j) (drop j rs)) ∙ ap (λ n. take (n - j) (drop j rs)) many ∙ take_rest rs j in (
      written_fits c.write_fitting-first.result (take i rs) c.write_fitting-first.new.out (omega (arith, size_cut rs i, leaf.room))
          (subst (λ ws. IsWritten c.write_fitting-first.result ws c.write_fitting-first.new.out) front (c.write_fitting-first.ensures.only (take (i - 0) (drop 0 rs)) [] [] (c.part_of-front.ensures.only rs leaf (omega (arith, many, c.requires.coming))) none none)),
      written_fits c.write_fitting-second.result (r ∷ []) c.write_fitting-second.new.out (omega (arith, short, length-append r.1 [])) (c.write_fitting-second.ensures.only (r ∷ []) [] [] one none none),
      written_fits c.write_fitting-third.result (drop j rs) c.write_fitting-third.new.out (omega (arith, size_cut rs j, leaf.room))
          (subst (λ ws. IsWritten c.write_fitting-third.result ws c.write_fitting-third.new.out) back (c.write_fitting-third.ensures.only (take (coming.count - j) (drop j rs)) [] [] (c.part_of-back.ensures.only rs leaf (omega (arith, many))) none none)),
    )
