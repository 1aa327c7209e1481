use Rattle.std.proofs.Common.{Option, sym, refl, ◌∙◌, subst, arith}
use Rattle.std.specs.Prelude.{IsSome}
use Rattle.std.proofs.lemmas.Bool.{false≢true}
use Rattle.vm_alloc.proofs.HeldLemmas.{holds_same}
use Rattle.vm_tree.proofs.Descent.{subtree_top}
use Rattle.vm_tree.proofs.Looking.{looks_none}
use Rattle.vm_tree.proofs.TreeLemmas.{tree_opens}
use Rattle.vm_check.proofs.FoundLemmas.{bare_visited, top_visited}
use Rattle.vm_check.proofs.SurveyLemmas.{none_found, number_exit, number_noted, over_not_on, root_bare, root_exit, too_high, top_reached}
use Rattle.vm_check.proofs.verification.visit_root.Goals as goal

pub returns-then-not-is_data-clause-walks : goal.returns-then-not-is_data-clause-walks
returns-then-not-is_data-clause-walks g c = record { looks = looks_none _ (λ is. cc); once = refl; growing = holds_same _; keeps = number_noted c.note_number.ensures }

pub returns-then-is_over-clause-found : goal.returns-then-is_over-clause-found
returns-then-is_over-clause-found g c honest known none = absurd (false≢true (subst (λ (z : Option _). IsSome z) none (c.is_over.ensures.0 c.if-is_over.true).1))

pub returns-then-is_over-clause-surveyed : goal.returns-then-is_over-clause-surveyed
returns-then-is_over-clause-surveyed g c honest on ns among s = absurd (over_not_on c.args.notes.now (c.is_over.ensures.0 c.if-is_over.true) on)

pub returns-then-number-eq0-clause-found : goal.returns-then-number-eq0-clause-found
returns-then-number-eq0-clause-found g c honest known none =
    bare_visited _ _ _ c.default.result c.args.number _ _ (c.default.ensures.0 ∙ sym c.if-number-eq0.true) c.if-number-eq0.true known

pub returns-then-number-eq0-clause-surveyed : goal.returns-then-number-eq0-clause-surveyed
returns-then-number-eq0-clause-surveyed g c honest on ns among s = root_bare _ _ _ _ _ _ _ _ c.if-number-eq0.true s

pub returns-then-not-is_data-clause-only : goal.returns-then-not-is_data-clause-only
returns-then-not-is_data-clause-only g c honest known m bs tree none =
    let at = tree_opens _ _ _ c.args.number m bs (omega (arith, c.if-number-eq0.false)) tree in
    absurd (false≢true (sym c.if-not-is_data.true ∙ c.is_data.ensures.1 (subtree_top _ _ _ at.level _ m bs at.subtree)))

pub returns-then-not-is_data-clause-surveyed : goal.returns-then-not-is_data-clause-surveyed
returns-then-not-is_data-clause-surveyed g c honest on ns among s =
    number_exit _ _ _ _ _ _ _ _ _ c.note_number.ensures among (λ is. false≢true (sym c.if-not-is_data.true ∙ c.is_data.ensures.1 is)) s

pub returns-in_err-span-clause-only : goal.returns-in_err-span-clause-only
returns-in_err-span-clause-only g c honest known m bs tree none =
    let at = tree_opens _ _ _ c.args.number m bs (omega (arith, c.if-number-eq0.false)) tree in
    c.visit.ensures.only honest g.row.LEVELS at.level m bs known (omega arith) (omega (arith, at.low)) at.subtree at.rising none

pub returns-in-Some-clause-only : goal.returns-in-Some-clause-only
returns-in-Some-clause-only g c honest known m bs tree none =
    let at = tree_opens _ _ _ c.args.number m bs (omega (arith, c.if-number-eq0.false)) tree in
    c.visit.ensures.only honest g.row.LEVELS at.level m bs known (omega arith) (omega (arith, at.low)) at.subtree at.rising none

pub returns-in-None-clause-only : goal.returns-in-None-clause-only
returns-in-None-clause-only g c honest known m bs tree none =
    let at = tree_opens _ _ _ c.args.number m bs (omega (arith, c.if-number-eq0.false)) tree in
    c.visit.ensures.only honest g.row.LEVELS at.level m bs known (omega arith) (omega (arith, at.low)) at.subtree at.rising none

pub returns-in-None-clause-found : goal.returns-in-None-clause-found
returns-in-None-clause-found g c honest known none = absurd (none_found _ _ c.in-None.is (c.in_ok-span.ensures.found honest g.row.LEVELS known none))

pub returns-in-Some-clause-found : goal.returns-in-Some-clause-found
returns-in-Some-clause-found g c honest known none =
    top_visited _ _ _ c.args.number c.in-Some.span _ _ _ _ c.requires.sizes.levels_least (rw c.in-Some.is at (c.in_ok-span.ensures.found honest g.row.LEVELS known none))

pub returns-in-Some-clause-surveyed : goal.returns-in-Some-clause-surveyed
returns-in-Some-clause-surveyed g c honest on ns among s =
    root_exit _ _ _ _ _ _ _ _ _ _ _ c.requires.sizes.levels_least (c.in_ok-span.ensures.surveyed honest on g.row.LEVELS ns s (top_reached _ _ _ among) (too_high _ _ _ _ among))

pub returns-in-None-clause-surveyed : goal.returns-in-None-clause-surveyed
returns-in-None-clause-surveyed g c honest on ns among s =
    root_exit _ _ _ _ _ _ _ _ _ _ _ c.requires.sizes.levels_least (c.in_ok-span.ensures.surveyed honest on g.row.LEVELS ns s (top_reached _ _ _ among) (too_high _ _ _ _ among))
