use Rattle.std.proofs.Common.{◌∙◌, refl, sym}
use Rattle.vm_types.specs.declared.refusal.Refusal.TheVariants.{Memory}
use Rattle.vm_cli.specs.session.Planners.{IsTold, Joins}
use Rattle.vm_cli.specs.session.Planners.Joins.{no_memory_for_seat, seated_before}
use Rattle.vm_cli.specs.answers.Replies.{reply_text}
use Rattle.vm_cli.specs.session.Session.{error_text}
use Rattle.vm_cli.specs.declared.answers.reply.Reply.TheVariants as reply
use Rattle.vm_cli.proofs.SeatLemmas.{absent_at, present_at, seats_as, seats_from, seats_more}
use Rattle.vm_cli.proofs.session.planners.PlannersSession.join.Goals as goal

pub returns-then-is_some : goal.returns-then-is_some
returns-then-is_some g c =
    let found = present_at c.args.number c.args.self.now.planners.items c.place_of.result (sym c.is_some.ensures ∙ c.if-is_some.true) c.place_of.ensures in
    seats_as _ _ _ _ _ (IsTold c.args.number (reply_text reply.PlannerExists)) (Joins c.args.number) (λ seats are text count seats' told. seated_before (found seats are) told) c.tell.ensures

pub returns-in_default : goal.returns-in_default
returns-in_default g c =
    let why = IsTold c.args.number (error_text Memory) in
    seats_as _ _ _ _ _ why (Joins c.args.number) (λ seats are text count seats' told. no_memory_for_seat told) (seats_from _ _ _ _ _ _ why c.in_default.ensures.items refl refl c.tell-in_default.ensures)

pub returns : goal.returns
returns g c =
    let none = absent_at c.args.number c.args.self.now.planners.items c.place_of.result (sym c.is_some.ensures ∙ c.if-is_some.false) c.place_of.ensures in
    seats_more _ _ _ _ _ c.args.number _ none refl c.new.ensures.stage c.new.ensures.none c.tell-2.ensures.same c.in-Ok.ensures.items refl c.tell-2.ensures.said
