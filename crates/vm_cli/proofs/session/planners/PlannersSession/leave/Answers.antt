use Rattle.std.proofs.Common.{◌∙◌, ap, refl, subst}
use Rattle.vm_cli.specs.answers.Replies.{reply_text}
use Rattle.vm_cli.specs.session.PlannerCalls.{IsPlaceOf}
use Rattle.vm_cli.specs.session.Planners.{IsTold, Leaves}
use Rattle.vm_cli.specs.session.Planners.Leaves.{unknown_planner}
use Rattle.vm_cli.specs.session.SessionKinds.{counted_result}
use Rattle.vm_cli.specs.session.SessionKinds.AnswersThen.{answered_so}
use Rattle.vm_cli.specs.declared.answers.reply.Reply.TheVariants.{NoSuchPlanner}
use Rattle.vm_cli.proofs.CarriedLemmas.{passed_on}
use Rattle.vm_cli.proofs.PlannerLemmas.{says_put}
use Rattle.vm_cli.proofs.SeatLemmas.{seats_as, seats_less}
use Rattle.vm_cli.proofs.session.planners.PlannersSession.leave.Goals as goal

pub returns-in_default : goal.returns-in_default
returns-in_default g c =
    let absent = subst (IsPlaceOf c.args.number c.args.self.now.planners.items) c.in_default.is c.place_of.ensures in
    seats_as _ _ _ _ _ (IsTold c.args.number (reply_text NoSuchPlanner)) (Leaves c.args.number)
    (λ seats are text count seats' told. unknown_planner (record { absent = absent seats are; told = told })) c.tell.ensures

pub returns-in_err-put_parting : goal.returns-in_err-put_parting
returns-in_err-put_parting g c =
    let put = c.in_err-put_parting.ensures in
    rw (passed_on _ c.from_residual.ensures.1)
    (seats_less _ _ _ _ _ c.args.number c.in-Some.place c.in-Some.ensures c.remove-planner.result c.remove-planner.ensures.value put.same c.remove-planner.ensures.by_index.2 refl
    (λ it named is. says_put _ _ _ _ _ (put.put it named is)))

pub returns : goal.returns
returns g c =
    let put = c.in_ok-put_parting.ensures in
    let goes_on = c.go_on.ensures ∙ ap (λ manner. counted_result manner.on_refusal c.remove-planner.result.batch.count) put.same.manner in
    seats_less _ _ _ _ _ c.args.number c.in-Some.place c.in-Some.ensures c.remove-planner.result c.remove-planner.ensures.value put.same c.remove-planner.ensures.by_index.2 refl
    (λ it named is. answered_so goes_on (put.put it named is))
