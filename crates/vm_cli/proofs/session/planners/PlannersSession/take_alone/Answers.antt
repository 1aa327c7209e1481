use Rattle.std.proofs.Common.{refl}
use Rattle.vm_cli.specs.session.PlannerLines.Saying.{joins, leaves, nothing, releases, strange}
use Rattle.vm_cli.specs.session.Planners.{IsDone, IsPassedBy, IsTold, Joins, Leaves, TakesAlone}
use Rattle.vm_cli.specs.answers.Replies.{reply_text}
use Rattle.vm_cli.specs.declared.answers.reply.Reply.TheVariants.{BadLine}
use Rattle.vm_cli.specs.declared.lines.mistake.Mistake.TheVariants.{NoSuchLine}
use Rattle.vm_cli.proofs.HallLemmas.{answered_hall, passed_by}
use Rattle.vm_cli.proofs.SeatLemmas.{seats_done}
use Rattle.vm_cli.proofs.session.planners.PlannersSession.take_alone.Goals as goal

pub returns-in-Nothing : goal.returns-in-Nothing
returns-in-Nothing g c =
    rw c.in-Nothing.is
    (answered_hall g.W.Write.contents IsPassedBy c.args.store.now
    (λ s at text course at' rounds. TakesAlone c.args.store.now c.args.store.now s c.args.self.now.session.manner nothing text course at at' rounds)
    _ c.args.self.now c.args.self.now (λ s at held text course at' rounds it. it) c.args.writer.now c.args.writer.now (passed_by c.args.self.now (g.W.Write.contents c.args.writer.now)))

pub returns-in-Strange : goal.returns-in-Strange
returns-in-Strange g c =
    rw c.in-Strange.is
    (answered_hall g.W.Write.contents (IsTold 0 (reply_text (BadLine NoSuchLine))) c.args.store.now
    (λ s at text course at' rounds. TakesAlone c.args.store.now c.args.store.now s c.args.self.now.session.manner strange text course at at' rounds)
    c.tell.result c.args.self.now c.tell.new.self (λ s at held text course at' rounds it. it) c.args.writer.now c.tell.new.writer c.tell.ensures)

pub returns-in-Join : goal.returns-in-Join
returns-in-Join g c =
    rw c.in-Join.is
    (answered_hall g.W.Write.contents (Joins c.in-Join.number) c.args.store.now
    (λ s at text course at' rounds. TakesAlone c.args.store.now c.args.store.now s c.args.self.now.session.manner (joins c.in-Join.number) text course at at' rounds)
    c.join.result c.args.self.now c.join.new.self (λ s at held text course at' rounds it. it) c.args.writer.now c.join.new.writer c.join.ensures)

pub returns-in-Leave : goal.returns-in-Leave
returns-in-Leave g c =
    rw c.in-Leave.is
    (answered_hall g.W.Write.contents (Leaves c.in-Leave.number) c.args.store.now
    (λ s at text course at' rounds. TakesAlone c.args.store.now c.args.store.now s c.args.self.now.session.manner (leaves c.in-Leave.number) text course at at' rounds)
    c.leave.result c.args.self.now c.leave.new.self (λ s at held text course at' rounds it. it) c.args.writer.now c.leave.new.writer c.leave.ensures)

pub returns-in-Says : goal.returns-in-Says
returns-in-Says g c = rw c.in-Says.is c.say.ensures

pub returns-in-Go : goal.returns-in-Go
returns-in-Go g c =
    rw c.in-Go.is
    (answered_hall g.W.Write.contents IsDone c.args.store.now
    (λ s at text course at' rounds. TakesAlone c.args.store.now c.args.store.now s c.args.self.now.session.manner releases text course at at' rounds)
    c.tell-in-Go.result c.args.self.now _ (λ s at held text course at' rounds it. it) c.args.writer.now c.tell-in-Go.new.writer (seats_done _ _ _ _ _ c.tell-in-Go.ensures.same refl refl c.tell-in-Go.ensures.said))
