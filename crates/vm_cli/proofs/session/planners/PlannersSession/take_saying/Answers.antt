use Rattle.std.proofs.Common.{◌∙◌, Err, Ok, ap, sym, subst}
use Rattle.vm_cli.specs.session.PlannerCalls.{TakesInHall, hall}
use Rattle.vm_cli.specs.session.PlannerLines.{saying, saying_of}
use Rattle.vm_cli.specs.session.Planners.{TakesAlone, TakesBehind, TakesSaying, settles_first}
use Rattle.vm_cli.proofs.CarriedLemmas.{passed_on}
use Rattle.vm_cli.proofs.HallLemmas.{hall_as, hall_ends, hall_then}
use Rattle.vm_cli.proofs.session.planners.PlannersSession.take_saying.Goals as goal

pub returns-then-not-settles_first : goal.returns-then-not-settles_first
returns-then-not-settles_first g c =
    let how = c.args.self.now.session.manner in
    let old = c.args.store.now in
    let new = c.take_alone.new.store in
    let said = saying c.planner_line-said.result in
    hall_as g.W.Write.contents (λ s at text course at' rounds. TakesAlone old new s how said text course at at' rounds)
    (λ s at text course at' rounds. TakesSaying old new s how (saying_of c.args.line.now) text course at at' rounds) c.take_alone.result _ _
    (λ s at held text course at' rounds it.
    subst (λ w. TakesSaying old new s how w text course at at' rounds) c.planner_line-said.ensures.said
    (subst (λ b. TakesBehind b old new s how said text course at at' rounds) (sym c.if-not-settles_first.true ∙ c.settles_first.ensures at held) it)) c.take_alone.ensures

pub returns-in_err-refused : goal.returns-in_err-refused
returns-in_err-refused g c =
    let settled = c.in_err-refused.ensures in
    rw (passed_on _ c.from_residual.ensures.1)
    (hall_ends g.W.Write.contents (saying_of c.args.line.now) c.args.self.now c.settle.new.self c.requires.telling c.args.store.now c.settle.new.store c.args.writer.now c.settle.new.writer
    (λ at held. ap (λ w. settles_first w at.waiting) (sym c.planner_line-said.ensures.said) ∙ sym (c.settles_first.ensures at held) ∙ c.if-not-settles_first.false) settled.planners settled.none _ settled.settled)

pub returns-in_err-last : goal.returns-in_err-last
returns-in_err-last g c =
    let settled = c.in_ok-refused.ensures in
    let mid = c.settle.new.self in
    let between = c.settle.new.store in
    let last = c.take_alone-2.new in
    rw (passed_on _ c.from_residual-in_err-last.ensures.1)
    (hall_then g.W.Write.contents (saying_of c.args.line.now) c.args.self.now mid c.requires.telling c.args.store.now between c.args.writer.now c.settle.new.writer
    (λ at held. ap (λ w. settles_first w at.waiting) (sym c.planner_line-said.ensures.said) ∙ sym (c.settles_first.ensures at held) ∙ c.if-not-settles_first.false) settled.planners settled.none
    last.self last.store last.writer c.in_ok-refused.refused settled.settled (Err c.in_err-last.field-0.0)
    (subst (λ w. TakesInHall g.W.Write.contents (λ s at text course at' rounds. TakesAlone between last.store s mid.session.manner w text course at at' rounds) (Err c.in_err-last.field-0.0) (hall mid between c.settle.new.writer) (hall last.self last.store last.writer))
    c.planner_line-said.ensures.said c.in_err-last.ensures))

pub returns : goal.returns
returns g c =
    let settled = c.in_ok-refused.ensures in
    let mid = c.settle.new.self in
    let between = c.settle.new.store in
    let last = c.take_alone-2.new in
    hall_then g.W.Write.contents (saying_of c.args.line.now) c.args.self.now mid c.requires.telling c.args.store.now between c.args.writer.now c.settle.new.writer
    (λ at held. ap (λ w. settles_first w at.waiting) (sym c.planner_line-said.ensures.said) ∙ sym (c.settles_first.ensures at held) ∙ c.if-not-settles_first.false) settled.planners settled.none
    last.self last.store last.writer c.in_ok-refused.refused settled.settled (Ok c.in_ok-last.last)
    (subst (λ w. TakesInHall g.W.Write.contents (λ s at text course at' rounds. TakesAlone between last.store s mid.session.manner w text course at at' rounds) (Ok c.in_ok-last.last) (hall mid between c.settle.new.writer) (hall last.self last.store last.writer))
    c.planner_line-said.ensures.said c.in_ok-last.ensures)
