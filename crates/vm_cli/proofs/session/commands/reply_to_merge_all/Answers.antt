use Rattle.std.proofs.Common.{List, Err, ap, ◌∙◌, rules, subst}
use Rattle.vm_types.specs.declared.command.Command.TheVariants.{Merge}
use Rattle.vm_types.specs.declared.command.Side.{Side}
use Rattle.vm_types.specs.declared.key.Key.{Key}
use Rattle.vm_cli.specs.lines.Asking.{Request}
use Rattle.vm_cli.specs.session.Feeds.{AsksBy}
use Rattle.vm_cli.specs.lines.Requests.{asked_in}
use Rattle.vm_cli.proofs.MergeLemmas.{all_merged, memory_refused, query_refused, unlisted_merged}
use Rattle.vm_cli.proofs.session.commands.reply_to_merge_all.Goals as goal

pub returns-in-Err : goal.returns-in-Err
returns-in-Err g c =
    query_refused c.args.on_command c.in_default.not-Refuse c.args.alt.now c.args.side c.args.settled c.args.store.now c.conflicts.new.self c.conflicts.result c.conflicts.ensures.query
    c.in-Err.refusal c.in-Err.is (search rules) c.from_refusal.result c.from_refusal.ensures.text c.from_refusal.ensures.last c.from_refusal.ensures.failed

pub returns-in-Err-Device : goal.returns-in-Err-Device
returns-in-Err-Device g c =
    unlisted_merged c.args.on_command c.in_default.not-Refuse c.args.alt.now c.args.side c.args.settled c.args.store.now c.conflicts.new.self c.conflicts.result c.conflicts.ensures.query
    (c.in-Err-Device.is ∙ ap Err c.in-Err-Device.field-0-is) c.reply_to_command.new.store c.reply_to_command.result c.reply_to_command.ensures

pub returns-in_default-for_all : goal.returns-in_default-for_all
returns-in_default-for_all g c =
    memory_refused c.args.on_command c.in_default.not-Refuse c.args.alt.now c.args.side c.args.settled c.args.store.now c.conflicts.new.self c.conflicts.result c.conflicts.ensures.query
    c.in-Ok.conflicts c.in-Ok.is

pub returns : goal.returns
returns g c =
    all_merged c.args.on_command c.in_default.not-Refuse c.args.alt.now c.args.side c.args.settled c.args.store.now c.conflicts.new.self c.conflicts.result c.conflicts.ensures.query
    c.in-Ok.conflicts c.in-Ok.is c.reply_to_command-2.new.store c.reply_to_command-2.result
    (subst (λ (all : List (Key × Side)). AsksBy (asked_in c.args.on_command (Request.Command (Merge c.args.alt.now all))) c.reply_to_command-2.result c.conflicts.new.self c.reply_to_command-2.new.store)
    c.in-Ok-for_all.ensures c.reply_to_command-2.ensures)
