use Rattle.std.proofs.Common.{◌∙◌, ◌+◌, ◌-◌, ◌++◌, ◌∷◌, List, [], None, ap, sym, subst, arith}
use Rattle.std.below.core.specs.declared.int.usize.TheConstants.{MAX}
use Rattle.vm_cli.specs.session.PlannerCalls.{AreWaiting, AreWithin, IsGathering, IsPlaceOf, holding}
use Rattle.vm_cli.specs.session.PlannerLines.Saying.{says}
use Rattle.vm_cli.specs.session.Planners.{AreSeats, IsTold, TakesAlone, seat}
use Rattle.vm_cli.specs.session.Planners.IsSpoken.{not_joined}
use Rattle.vm_cli.specs.answers.Replies.{reply_text}
use Rattle.vm_cli.specs.session.Streams.{IsStage}
use Rattle.vm_cli.specs.session.Waiting.{Waiting}
use Rattle.vm_cli.specs.declared.answers.reply.Reply.TheVariants.{NoSuchPlanner}
use Rattle.vm_cli.proofs.HallLemmas.{answered_hall, said_told, within_around}
use Rattle.vm_cli.proofs.SeatLemmas.{seats_around, seats_cut, within_last}
use Rattle.vm_cli.proofs.session.planners.PlannersSession.say.Goals as goal

pub returns : goal.returns
returns g c =
    let session = c.args.self.now in
    let own = session.session.batch in
    let found = subst (IsPlaceOf c.args.number session.planners.items) c.in-Some.is c.place_of.ensures in
    let before = found.before in
    let planner = found.planner in
    let behind = found.behind in
    let first = c.exchange.ensures.exchanged before planner behind found.cut found.at in
    let taken = c.take_of-taken.ensures in
    let batch = c.take_of-taken.new.self.batch in
    let second = c.exchange-2.ensures.exchanged before (holding planner own) behind first.0 found.at in
    let after = c.exchange-2.new.self.planners.items in
    record {
      stays = record {
        manner = c.exchange-2.ensures.manner ∙ taken.manner ∙ c.exchange.ensures.manner;
        closed = λ is. subst (λ b. IsStage b None) (sym second.1) is;
        count = λ n within.
            subst (AreWithin (n + 1)) (sym second.0) (within_around n before planner behind (holding (holding planner own) batch) (subst (AreWithin n) found.cut within) (λ m le. omega (arith, taken.count, le, ap (λ b. b.count) first.1)));
      };
      store = λ at held. taken.store;
      taken = λ s at closed held.
          let seat_of = seats_cut before planner behind at.seats (subst (λ ps. AreSeats ps at.seats) found.cut held.seats) in
          said_told c.args.store.now c.take_of-taken.new.store s session.session.manner c.exchange.new.self.session.manner c.exchange.ensures.manner c.args.when c.args.number c.args.said.now at seat_of.earlier seat_of.later seat_of.stage
          (record { only = found.only seat_of.earlier seat_of.first; cut = seat_of.cut ∙ ap (λ n. seat_of.earlier ++ seat n seat_of.stage ∷ seat_of.later) found.named })
          (IsStage batch) (λ more. (waiting : List Waiting) → AreWaiting c.exchange.new.self.waiting.items waiting → AreWaiting c.take_of-taken.new.waiting.items (waiting ++ more)) (IsGathering c.exchange-2.new.self)
          (λ stage' more is waits. record {
            seats = subst (λ ps. AreSeats ps (seat_of.earlier ++ seat c.args.number stage' ∷ seat_of.later)) (sym second.0)
                (seats_around before (holding (holding planner own) batch) behind seat_of.earlier c.args.number stage' seat_of.later seat_of.first found.named is seat_of.last);
            waiting = subst (λ queue. AreWaiting queue (at.waiting ++ more)) (sym c.exchange-2.ensures.waiting) (waits at.waiting (subst (λ queue. AreWaiting queue at.waiting) (sym c.exchange.ensures.waiting) held.waiting));
          })
          c.take_of-taken.result _ _
          (taken.taken s seat_of.stage c.args.said.now (subst (λ b. IsStage b seat_of.stage) (sym first.1) seat_of.held) (c.extend.ensures [] c.new-line.ensures));
    }

pub returns-in_default : goal.returns-in_default
returns-in_default g c =
    let absent = subst (IsPlaceOf c.args.number c.args.self.now.planners.items) c.in_default.is c.place_of.ensures in
    answered_hall g.W.Write.contents (IsTold c.args.number (reply_text NoSuchPlanner)) c.args.store.now
    (λ s at text course at' rounds. TakesAlone c.args.store.now c.args.store.now s c.args.self.now.session.manner (says c.args.when c.args.number c.args.said.now) text course at at' rounds)
    c.tell.result c.args.self.now c.tell.new.self
    (λ s at held text course at' rounds it. not_joined (record { count = it.count; answer = record { absent = absent at.seats held.seats; told = it.answer }; waiting = it.waiting; same = it.same; goes = it.goes; came_so = it.came_so }))
    c.args.writer.now c.tell.new.writer c.tell.ensures

pub take_of-taken-requires : goal.take_of-taken-requires
take_of-taken-requires g c =
    let session = c.args.self.now in
    let found = subst (IsPlaceOf c.args.number session.planners.items) c.in-Some.is c.place_of.ensures in
    let first = c.exchange.ensures.exchanged found.before found.planner found.behind found.cut found.at in
    let room = within_last (MAX - 1) found.before (found.planner ∷ found.behind) (subst (AreWithin (MAX - 1)) found.cut c.requires.room) in
    omega (arith, room.0, ap (λ b. b.count) first.1)
