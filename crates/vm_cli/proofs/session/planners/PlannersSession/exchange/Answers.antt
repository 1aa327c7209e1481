use Rattle.std.proofs.Common.{◌≡◌, ◌∙◌, ◌++◌, ◌∷◌, ap, refl, slice_index_or, slice_set}
use Rattle.std.proofs.Math.Seq.{get_or-append_seam, set-append_seam}
use Rattle.vm_cli.specs.session.PlannerCalls.{holding}
use Rattle.vm_cli.specs.declared.session.batch.Batch.{Batch}
use Rattle.vm_cli.specs.declared.session.planners.Planner.{Planner}
use Rattle.vm_cli.proofs.session.planners.PlannersSession.exchange.Goals as goal

pub returns : goal.returns
returns c = record {
  manner = refl;
  waiting = refl;
  exchanged = λ before planner behind cut at.
      let it = c.index_mut.result.now in
      let found : it ≡ planner =
      c.index_mut.ensures.value ∙ ap (λ xs. slice_index_or xs c.args.place it) cut ∙ ap (λ i. slice_index_or (before ++ planner ∷ behind) i it) at ∙ get_or-append_seam before planner behind it in
      let held : Planner = record { number = it.number; batch = c.swap.new.y } in
      let holds : held ≡ holding planner c.args.self.now.session.batch =
      ap (λ (b : Batch). holding it b) c.swap.ensures.y_after ∙ ap (λ p. holding p c.args.self.now.session.batch) found in (
        ap (λ xs. slice_set xs c.args.place held) cut ∙ ap (λ i. slice_set (before ++ planner ∷ behind) i held) at ∙ set-append_seam before planner behind held ∙ ap (λ p. before ++ p ∷ behind) holds,
        c.swap.ensures.x_after ∙ ap (λ (p : Planner). p.batch) found,
      );
}
