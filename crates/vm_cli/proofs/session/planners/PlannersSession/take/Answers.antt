use Rattle.std.proofs.Common.{◌≡◌, ◌∙◌, sym, subst}
use Rattle.vm_cli.specs.lines.Input.{KindHolds, without_return}
use Rattle.vm_cli.specs.lines.Lines.{IsPart}
use Rattle.vm_cli.specs.session.PlannerLines.{saying_of}
use Rattle.vm_cli.specs.session.Planners.{IsTold, TakesOne, TakesSaying}
use Rattle.vm_cli.specs.session.Planners.TakesOne.{line_taken, line_too_long, no_memory_for_line}
use Rattle.vm_cli.specs.answers.Replies.{reply_text}
use Rattle.vm_cli.specs.session.Session.{error_text}
use Rattle.vm_types.specs.declared.refusal.Refusal.TheVariants.{Memory}
use Rattle.vm_cli.specs.declared.answers.reply.Reply.TheVariants.{LongLine}
use Rattle.vm_cli.proofs.HallLemmas.{answered_hall, hall_as, part_kept, part_text}
use Rattle.vm_cli.proofs.session.planners.PlannersSession.take.Goals as goal

pub returns-in-Long : goal.returns-in-Long
returns-in-Long g c = λ part holds.
    let long = subst (λ k. KindHolds k c.args.line.now.bytes.items part) c.in-Long.is holds.kind in
    answered_hall g.W.Write.contents (IsTold 0 (reply_text LongLine)) c.args.store.now
    (λ s at text course at' rounds. TakesOne c.args.store.now c.args.store.now s c.args.self.now.session.manner at part text course at' rounds)
    c.tell.result c.args.self.now c.tell.new.self (λ s at held text course at' rounds it. line_too_long long it) c.args.writer.now c.tell.new.writer c.tell.ensures

pub returns-in-NoMemory : goal.returns-in-NoMemory
returns-in-NoMemory g c = λ part holds.
    answered_hall g.W.Write.contents (IsTold 0 (error_text Memory)) c.args.store.now
    (λ s at text course at' rounds. TakesOne c.args.store.now c.args.store.now s c.args.self.now.session.manner at part text course at' rounds)
    c.tell-in-NoMemory.result c.args.self.now c.tell-in-NoMemory.new.self (λ s at held text course at' rounds it. no_memory_for_line it) c.args.writer.now c.tell-in-NoMemory.new.writer c.tell-in-NoMemory.ensures

pub returns-in-Kept : goal.returns-in-Kept
returns-in-Kept g c = λ part holds.
    let kept = part_kept c.args.line.now.kind c.in-Kept.is c.args.line.now.bytes.items part holds.kind in
    let text : c.text.result.now ≡ without_return part = c.text.ensures ∙ kept.0 in
    let how = c.args.self.now.session.manner in
    let new = c.take_saying.new.store in
    hall_as g.W.Write.contents (λ s at said course at' rounds. TakesSaying c.args.store.now new s how (saying_of c.text.result.now) said course at at' rounds)
    (λ s at said course at' rounds. TakesOne c.args.store.now new s how at part said course at' rounds) c.take_saying.result _ _
    (λ s at held said course at' rounds it. line_taken kept.1 (subst (λ bytes. TakesSaying c.args.store.now new s how (saying_of bytes) said course at at' rounds) text it))
    c.take_saying.ensures

pub take_saying-requires-clause-part : goal.take_saying-requires-clause-part
take_saying-requires-clause-part g c =
    let part = c.requires.held.0 in
    let kept = part_kept c.args.line.now.kind c.in-Kept.is c.args.line.now.bytes.items part c.requires.held.1.kind in
    subst IsPart (sym (c.text.ensures ∙ kept.0)) (part_text part c.requires.held.1.unbroken)
