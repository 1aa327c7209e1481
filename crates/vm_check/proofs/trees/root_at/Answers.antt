use Rattle.std.proofs.Common.{sym, ◌∙◌, arith}
use Rattle.std.proofs.lemmas.Bool.{false≢true}
use Rattle.vm_tree.proofs.TreeLemmas.{tree_opens}
use Rattle.vm_tree.proofs.Descent.{subtree_top}
use Rattle.vm_tree.proofs.Looking.{passed_on}
use Rattle.vm_check.proofs.ChildLemmas.{top_form}
use Rattle.vm_check.proofs.TopLemmas.{none_found, top_found, top_read}
use Rattle.vm_check.proofs.trees.root_at.Goals as goal

pub returns-then-number-eq0-clause-found : goal.returns-then-number-eq0-clause-found
returns-then-number-eq0-clause-found g c honest = none_found _ _ c.default.result c.default.ensures.0

pub returns-then-not-is_data-clause-only : goal.returns-then-not-is_data-clause-only
returns-then-not-is_data-clause-only g c honest sizes m bs tree =
    let at = tree_opens _ _ _ c.args.number m bs (omega (arith, c.if-number-eq0.false)) tree in
    absurd (false≢true (sym c.if-not-is_data.true ∙ c.is_data.ensures.1 (subtree_top _ _ _ at.level _ m bs at.subtree)))

pub returns-in_err-form-clause-only : goal.returns-in_err-form-clause-only
returns-in_err-form-clause-only g c honest sizes m bs tree =
    let at = tree_opens _ _ _ c.args.number m bs (omega (arith, c.if-number-eq0.false)) tree in
    rw (passed_on _ c.from_residual.ensures.1) (top_form _ _ _ at.level _ m bs _ at.subtree (λ qs leaf. c.in_err-form.ensures.leaf honest qs leaf) (λ level cs node. c.in_err-form.ensures.node honest level cs node))

pub returns-clause-found : goal.returns-clause-found
returns-clause-found g c honest =
    let top = top_read (sym c.at_hand.ensures) (c.is_data.ensures.0 c.if-not-is_data.false) (c.in_ok-form.ensures.found honest) c.in_ok-form.ensures.form c.lowest_key.ensures.spelled
    (λ level cs node. c.lowest_key.ensures.node level cs node) (λ rs leaf. c.lowest_key.ensures.leaf rs leaf) in
    rw c.level_of.ensures (top_found _ c.args.blocks c.args.number c.in_ok-form.form c.lowest_key.result _ top (omega (arith, c.if-number-eq0.false)))
