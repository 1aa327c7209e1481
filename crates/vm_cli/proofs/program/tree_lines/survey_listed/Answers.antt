use Rattle.std.proofs.Common.{◌∙◌, inl, inr, refl, sym}
use Rattle.vm_cli.proofs.CarriedLemmas.{passed_on}
use Rattle.vm_cli.proofs.CountingLemmas.{has_list}
use Rattle.vm_cli.proofs.SurveyLemmas.{drawn_all, drawn_more, passes_both, still_holds}
use Rattle.vm_cli.proofs.program.tree_lines.survey_listed.Goals as goal

pub loop-alternative-preserved : goal.loop-alternative-preserved
loop-alternative-preserved g c =
    let old = c.args.store.now in
    let mid = c.loop-alternative.store in
    let new = c.branch_of.new.store in
    let said = c.in_ok-branch.ensures in
    let before = c.loop-alternative.invariant in (
      passes_both old mid new before.0 said.passes,
      λ honest sound s holds is.
          let earlier = said.passes.goes.earlier honest in
          let unchanged = before.0.unchanged refl in
          let drawn = said.drawn honest (unchanged.failed ∙ sound) s (still_holds old mid before.0 earlier s holds) in
          c.in-Ok.ensures.items ∙ drawn_more old s holds c.args.listed.now is c.loop-alternative.alternative-index c.loop-alternative-test.true _ (sym c.alternative-item.is)
          c.in_ok-branch.branch drawn c.loop-alternative.branches.items (before.1 earlier sound s holds is),
    )

pub returns-in_err-branch-clause-passes : goal.returns-in_err-branch-clause-passes
returns-in_err-branch-clause-passes g c = passes_both c.args.store.now c.loop-alternative.store c.branch_of.new.store c.loop-alternative.invariant.0 c.in_err-branch.ensures.passes

pub returns-in_default-clause-passes : goal.returns-in_default-clause-passes
returns-in_default-clause-passes g c = passes_both c.args.store.now c.loop-alternative.store c.branch_of.new.store c.loop-alternative.invariant.0 c.in_ok-branch.ensures.passes

pub returns-in_err-branch-clause-refused : goal.returns-in_err-branch-clause-refused
returns-in_err-branch-clause-refused g c honest sound s holds is =
    let old = c.args.store.now in
    let mid = c.loop-alternative.store in
    let said = c.in_err-branch.ensures in
    let before = c.loop-alternative.invariant in
    let earlier = said.passes.goes.earlier honest in
    let unchanged = before.0.unchanged refl in
    rw (passed_on _ c.from_residual.ensures.1) (elim (said.refused honest (unchanged.failed ∙ sound) s (still_holds old mid before.0 earlier s holds)) [
      | inl device ↦ inl device
      | inr refused ↦ inr (has_list old s holds c.args.listed.now is c.loop-alternative.alternative-index c.loop-alternative-test.true _ (sym c.alternative-item.is) _ refused)
    ])

pub returns-clause-drawn : goal.returns-clause-drawn
returns-clause-drawn g c honest sound s holds is =
    drawn_all c.args.store.now s holds c.args.listed.now is c.loop-alternative.alternative-index c.loop-alternative-test.false _ (c.loop-alternative.invariant.1 honest sound s holds is)
