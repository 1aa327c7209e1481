-- Counting the blocks that only one of two trees has.
use Rattle.std.proofs.Common.{◌≡◌, ℕ, ◌+◌, ◌≤◌, ◌||◌, cond, false, List, [], ◌∷◌, ◌++◌, refl, sym, ap, ap₂, ◌∙◌, arith}
use Rattle.std.proofs.lemmas.Bool.{ne_eqb}
use Rattle.vm_tree.specs.Replacement.{Lacks, Apart}
use Rattle.vm_diff.specs.Shared.{is_among, outside, unshared}

lacks_none : (b : ℕ) (cs : List ℕ) → Lacks b cs → is_among cs b ≡ false
lacks_none b [] all = refl
lacks_none b (c ∷ cs) all = ap (λ t. t || is_among cs b) (ne_eqb c b all.0) ∙ lacks_none b cs all.1

-- a block more that is none of them
outside_more : (b : ℕ) (bs cs : List ℕ) → Lacks b cs → outside (b ∷ bs) cs ≡ outside bs cs
outside_more b bs [] all = refl
outside_more b bs (c ∷ cs) all =
    ap (λ t. cond ((t || is_among bs c) || is_among cs c) 0 1 + outside (b ∷ bs) cs) (ne_eqb b c (λ e. all.0 (sym e)))
    ∙ ap (λ n. cond (is_among bs c || is_among cs c) 0 1 + n) (outside_more b bs cs all.1)

-- blocks more that are none of them
outside_past : (own bs cs : List ℕ) → Apart own bs → outside (own ++ cs) bs ≡ outside cs bs
outside_past [] bs cs apart = refl
outside_past (b ∷ own) bs cs apart = outside_more b (own ++ cs) bs apart.0 ∙ outside_past own bs cs apart.1

outside_back : (others own bs : List ℕ) → outside others bs ≤ outside others (own ++ bs)
outside_back others [] bs = omega arith
outside_back others (b ∷ own) bs = omega (arith, outside_back others own bs)

-- a block that the other tree lacks, and that does not come again, is one of those that are counted
pub open_pays : (b : ℕ) (bs cs : List ℕ) → Lacks b bs → Lacks b cs → unshared (b ∷ bs) cs ≡ 1 + unshared bs cs
open_pays b bs cs again all =
    let first : outside cs (b ∷ bs) ≡ 1 + outside cs bs = ap₂ (λ s t. cond (s || t) 0 1 + outside cs bs) (lacks_none b cs all) (lacks_none b bs again) in
    omega (arith, first, outside_more b bs cs all)

-- without blocks that both have, no more are counted
pub skip_free : (own bs cs : List ℕ) → Apart own bs → Apart own cs → unshared bs cs ≤ unshared (own ++ bs) (own ++ cs)
skip_free own bs cs a b =
    omega (arith, outside_back (own ++ cs) own bs, outside_past own bs cs a, outside_back (own ++ bs) own cs, outside_past own cs bs b)
