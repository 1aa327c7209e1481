use Rattle.std.proofs.Common.{◌∙◌, ◌<◌, Vec, ap, refl, arith, get_or, length}
use Rattle.vm_cli.specs.declared.session.planners.Planner.{Planner}
use Rattle.vm_cli.proofs.CarriedLemmas.{passed_on}
use Rattle.vm_cli.proofs.SeatLemmas.{keeps_then, left_more, left_none, left_short, left_whole, left_within, rests_same}
use Rattle.vm_cli.proofs.session.planners.PlannersSession.end_seats.Goals as goal
use Rattle.vm_cli.proofs.session.planners.PlannersSession.end_seats.Goals.{then-planner-gt0, else-planner-gt0}

pub loop-place-init : goal.loop-place-init
loop-place-init g c = record { planners = refl; same = record { batch = refl; answers = refl; manner = refl }; left = left_none c.args.half (g.W.Write.contents c.args.writer.now) }

pub loop-place-preserved : goal.loop-place-preserved
loop-place-preserved g c =
    let so_far = c.loop-place.invariant in
    let planners = c.args.self.now.planners.items in
    let planner = c.index-planner.result.now in
    let is = c.index-planner.ensures ∙ ap (λ (them : Vec Planner _). get_or them.items c.loop-place.place planner) so_far.planners in
    let within : c.loop-place.place < length planners = omega (arith, c.args.self.now.planners.ok.0) in
    let put = c.in_ok-put_parting.ensures in
    record {
      planners = so_far.planners;
      same = keeps_then _ _ _ so_far.same put.same;
      left =
          left_more planners c.loop-place.place c.args.half c.loop-place.refused _ _ _ so_far.left planner is within c.if-planner-gt0.refused
          (λ none. elim c.if-planner-gt0.branch [ then-planner-gt0 w ↦ absurd (omega arith) | else-planner-gt0 w ↦ w.refused-is ])
          (λ some. elim c.if-planner-gt0.branch [ then-planner-gt0 w ↦ w.refused-is | else-planner-gt0 w ↦ absurd (omega arith) ])
          put.put;
    }

pub returns-in_err-put_parting : goal.returns-in_err-put_parting
returns-in_err-put_parting g c =
    let so_far = c.loop-place.invariant in
    let planners = c.args.self.now.planners.items in
    let planner = c.index-planner.result.now in
    let is = c.index-planner.ensures ∙ ap (λ (them : Vec Planner _). get_or them.items c.loop-place.place planner) so_far.planners in
    let within : c.loop-place.place < length planners = omega (arith, c.args.self.now.planners.ok.0) in
    let put = c.in_err-put_parting.ensures in
    rw (passed_on _ c.from_residual.ensures.1)
    (record {
      said = λ seats are. left_short planners c.loop-place.place c.args.half c.loop-place.refused _ _ _ so_far.left planner is within _ put.put seats are _;
      stays = rests_same _ _ (keeps_then _ _ _ so_far.same put.same) (ap (λ (them : Vec Planner _). them.items) so_far.planners);
    })

pub returns-then-half-gt0 : goal.returns-then-half-gt0
returns-then-half-gt0 g c =
    let so_far = c.loop-place.invariant in
    let planners = c.args.self.now.planners in
    let told = c.tell.ensures in
    record {
      said = λ seats are. left_within planners.items c.loop-place.place c.args.half _ _ _ _ so_far.left (omega (arith, planners.ok.0)) _ _ so_far.same.manner c.tell.result seats are c.if-half-gt0.true told.said;
      stays = rests_same _ _ (keeps_then _ _ _ so_far.same told.same) (ap (λ (them : Vec Planner _). them.items) so_far.planners);
    }

pub returns : goal.returns
returns g c =
    let so_far = c.loop-place.invariant in
    let planners = c.args.self.now.planners in
    record {
      said = λ seats are. left_whole planners.items c.loop-place.place c.args.half _ _ _ _ so_far.left (omega (arith, planners.ok.0)) _ _ so_far.same.manner c.go_on.result seats are (omega arith) refl c.go_on.ensures;
      stays = rests_same _ _ so_far.same (ap (λ (them : Vec Planner _). them.items) so_far.planners);
    }
