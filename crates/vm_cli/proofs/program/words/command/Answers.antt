use Rattle.vm_cli.proofs.Commands.{with_made_ok}
use Rattle.vm_cli.proofs.program.words.command.Goals as goal

pub returns : goal.returns
returns c =
    let first = with_made_ok _ _ c.with_task-program.result _ _ c.top.ensures c.create.ensures.app c.create.ensures.local c.with_task-program.ensures in
    let second = with_made_ok _ _ c.with_task-program-2.result _ _ first c.run.ensures.app c.run.ensures.local c.with_task-program-2.ensures in
    let third = with_made_ok _ _ c.with_task-program-3.result _ _ second c.serve_lines.ensures.app c.serve_lines.ensures.local c.with_task-program-3.ensures in
    let fourth = with_made_ok _ _ c.with_task-program-4.result _ _ third c.do_lines.ensures.app c.do_lines.ensures.local c.with_task-program-4.ensures in
    let fifth = with_made_ok _ _ c.with_task-program-5.result _ _ fourth c.check.ensures.app c.check.ensures.local c.with_task-program-5.ensures in
    let sixth = with_made_ok _ _ c.with_task-program-6.result _ _ fifth c.tree.ensures.app c.tree.ensures.local c.with_task-program-6.ensures in
    with_made_ok _ _ c.with_task.result _ _ sixth c.copy.ensures.app c.copy.ensures.local c.with_task.ensures
