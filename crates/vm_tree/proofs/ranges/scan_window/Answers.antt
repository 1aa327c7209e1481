use Rattle.std.proofs.Common.{◌∙◌, ◌≡◌, ◌++◌, false, inl, inr, refl, sym, ap, subst, arith, length}
use Rattle.vm_types.specs.Map.{Map}
use Rattle.vm_tree.specs.Spent.{AllPass}
use Rattle.vm_tree.specs.Windows.{given_of, is_full}
use Rattle.vm_tree.proofs.Descent.{subtree_top}
use Rattle.vm_tree.proofs.Looking.{passed_on}
use Rattle.vm_tree.proofs.ScanLemmas.{fault_lists}
use Rattle.vm_tree.proofs.WindowLemmas.{given_behind, given_full, given_nil}
use Rattle.vm_tree.proofs.ranges.scan_window.Goals as goal

pub returns-then-root-eq0-clause-records : goal.returns-then-root-eq0-clause-records
returns-then-root-eq0-clause-records g c sizes honest m bs (inl bare) = c.new-records.ensures ∙ sym (given_nil c.args.window 0 m bare.empty)
returns-then-root-eq0-clause-records g c sizes honest m bs (inr top) =
    let inside = subtree_top sizes _ _ _ _ m bs top.subtree in absurd (omega (arith, c.if-root-eq0.true, inside.0))

pub returns-then-root-eq0-clause-bound : goal.returns-then-root-eq0-clause-bound
returns-then-root-eq0-clause-bound g c honest sizes m bs tree test pass = omega arith

pub returns-then-not-meets-clause-records : goal.returns-then-not-meets-clause-records
returns-then-not-meets-clause-records g c sizes honest m bs (inl bare) = c.new-records.ensures ∙ sym (given_nil c.args.window 0 m bare.empty)
returns-then-not-meets-clause-records g c sizes honest m bs (inr top) =
    elim (c.if-not-meets.ensures.passed refl) [
      | inl full ↦ c.new-records.ensures ∙ sym (given_full c.args.window 0 m full)
      | inr lt ↦ c.new-records.ensures ∙ sym (given_behind c.args.window 0 c.args.root.low m top.lowest top.rising lt)
    ]

pub returns-then-not-meets-clause-bound : goal.returns-then-not-meets-clause-bound
returns-then-not-meets-clause-bound g c honest sizes m bs tree test pass = omega arith

pub returns-in_err-scan_below-clause-records : goal.returns-in_err-scan_below-clause-records
returns-in_err-scan_below-clause-records g c sizes honest m bs (inl bare) = absurd (omega (arith, bare.none, c.if-root-eq0.false))
returns-in_err-scan_below-clause-records g c sizes honest m bs (inr top) =
    rw (passed_on _ c.from_residual.ensures.1) (fault_lists _ _ _ (c.in_err-scan_below.ensures.added honest sizes _ refl m bs top.subtree top.lowest top.rising))

pub returns-in_err-scan_below-clause-bound : goal.returns-in_err-scan_below-clause-bound
returns-in_err-scan_below-clause-bound g c honest sizes m bs (inl bare) test pass = absurd (omega (arith, bare.none, c.if-root-eq0.false))
returns-in_err-scan_below-clause-bound g c honest sizes m bs (inr top) test pass =
    let met = c.if-not-meets.ensures.met refl in
    let empty : length c.new-records.result ≡ 0 = ap (λ (qs : Map). length qs) c.new-records.ensures in
    let more = subst (λ n. is_full c.args.window.most n ≡ false) (sym empty) met.0 in
    c.scan_below.ensures.bound honest sizes _ refl m bs top.subtree top.lowest top.rising more met.1 test (subst (λ (qs : Map). AllPass test (given_of c.args.window (length qs) m)) (sym c.new-records.ensures) pass)

pub returns-clause-records : goal.returns-clause-records
returns-clause-records g c sizes honest m bs (inl bare) = absurd (omega (arith, bare.none, c.if-root-eq0.false))
returns-clause-records g c sizes honest m bs (inr top) =
    c.in_ok-scan_below.ensures.added honest sizes _ refl m bs top.subtree top.lowest top.rising ∙ ap (λ (qs : Map). qs ++ given_of c.args.window (length qs) m) c.new-records.ensures

pub returns-clause-bound : goal.returns-clause-bound
returns-clause-bound g c honest sizes m bs (inl bare) test pass = absurd (omega (arith, bare.none, c.if-root-eq0.false))
returns-clause-bound g c honest sizes m bs (inr top) test pass =
    let met = c.if-not-meets.ensures.met refl in
    let empty : length c.new-records.result ≡ 0 = ap (λ (qs : Map). length qs) c.new-records.ensures in
    let more = subst (λ n. is_full c.args.window.most n ≡ false) (sym empty) met.0 in
    c.scan_below.ensures.bound honest sizes _ refl m bs top.subtree top.lowest top.rising more met.1 test (subst (λ (qs : Map). AllPass test (given_of c.args.window (length qs) m)) (sym c.new-records.ensures) pass)
