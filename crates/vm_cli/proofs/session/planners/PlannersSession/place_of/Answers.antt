use Rattle.std.proofs.Common.{◌∙◌, ◌+◌, ◌<◌, ap, sym, subst, arith, length, take, drop, get_or}
use Rattle.std.proofs.lemmas.List.{length-take-le, take_all, take_more}
use Rattle.vm_cli.specs.session.Planners.{AreSeats}
use Rattle.vm_cli.proofs.SeatLemmas.{absent_more, absent_none, parted_at}
use Rattle.vm_cli.proofs.session.planners.PlannersSession.place_of.Goals as goal

pub loop-place-init : goal.loop-place-init
loop-place-init c = absent_none c.args.number

pub loop-place-preserved : goal.loop-place-preserved
loop-place-preserved c =
    let planners = c.args.self.now.planners in
    let place = c.loop-place.place in
    let within : place < length planners.items = omega (arith, planners.ok.0) in
    λ seats are.
    absent_more c.args.number (take place planners.items) (get_or planners.items place c.index.result.now) c.loop-place.invariant
    (λ same. c.if-index-number.false (ap (λ planner. planner.number) c.index.ensures ∙ same)) seats
    (subst (λ them. AreSeats them seats) (take_more planners.items place c.index.result.now within) are)

pub returns : goal.returns
returns c =
    let planners = c.args.self.now.planners in
    λ seats are.
    c.loop-place.invariant seats (subst (λ them. AreSeats them seats) (sym (take_all c.loop-place.place planners.items (omega (arith, planners.ok.0)))) are)

pub returns-then-index-number : goal.returns-then-index-number
returns-then-index-number c =
    let planners = c.args.self.now.planners in
    let place = c.loop-place.place in
    let within : place < length planners.items = omega (arith, planners.ok.0) in
    record {
      before = take place planners.items;
      planner = get_or planners.items place c.index.result.now;
      behind = drop (place + 1) planners.items;
      cut = parted_at planners.items place c.index.result.now within;
      at = sym (length-take-le place planners.items (omega arith));
      named = sym (ap (λ planner. planner.number) c.index.ensures) ∙ c.if-index-number.true;
      only = c.loop-place.invariant;
    }
