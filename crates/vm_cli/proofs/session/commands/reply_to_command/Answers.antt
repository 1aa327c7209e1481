use Rattle.std.proofs.Common.{ap}
use Rattle.vm_cli.specs.lines.Asking.{Request}
use Rattle.vm_cli.specs.lines.Requests.{asked_in}
use Rattle.vm_cli.proofs.RequestLemmas.{asked_as, carried_by, forbidden_by}
use Rattle.vm_cli.proofs.session.commands.reply_to_command.Goals as goal

pub returns-in-Refuse : goal.returns-in-Refuse
returns-in-Refuse g c =
    let store = c.args.store.now in
    asked_as store store _ Request.Forbidden (ap (λ on. asked_in on (Request.Command c.args.command.now)) c.in-Refuse.is) _ (forbidden_by store)

pub returns-in-CarryOut : goal.returns-in-CarryOut
returns-in-CarryOut g c =
    let said = c.apply.ensures in
    let answered = c.answered.ensures in
    asked_as c.args.store.now c.apply.new.self _ (Request.Command c.args.command.now) (ap (λ on. asked_in on (Request.Command c.args.command.now)) c.in-CarryOut.is) _
    (carried_by c.args.store.now c.apply.new.self c.args.command.now c.apply.result (record { refused = said.refused; done = said.done }) c.answered.result answered.text answered.last answered.device answered.failed)

pub returns-in-GrowIfFull : goal.returns-in-GrowIfFull
returns-in-GrowIfFull g c =
    asked_as c.args.store.now c.reply_growing.new.store _ (Request.Growing c.in-GrowIfFull.most c.args.command.now) (ap (λ on. asked_in on (Request.Command c.args.command.now)) c.in-GrowIfFull.is) _ c.reply_growing.ensures
