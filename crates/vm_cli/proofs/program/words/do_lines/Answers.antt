use Rattle.std.proofs.Common.{◌∙◌, ap}
use Rattle.std.proofs.lemmas.Result.{IfOk-weaker}
use Rattle.vm_cli.specs.program.Words.{with_options}
use Rattle.vm_cli.proofs.Commands.{local_arg, with_arg}
use Rattle.vm_cli.proofs.program.words.do_lines.Goals as goal

pub returns-clause-app : goal.returns-clause-app
returns-clause-app c =
    let first = with_arg _ _ _ _ _ c.in_ok-arg.ensures c.described.ensures.app c.file.ensures.rule c.file.ensures.local in
    let second = with_arg _ _ _ _ _ c.in_ok-command.ensures first c.line.ensures.rule c.line.ensures.local in
    IfOk-weaker c.with_options.result _ _ (λ whole is. is ∙ ap with_options second) c.with_options.ensures.app

pub returns-clause-local : goal.returns-clause-local
returns-clause-local c =
    let first = local_arg _ _ _ c.in_ok-arg.ensures c.described.ensures.local c.file.ensures.local in
    c.with_options.ensures.local (local_arg _ _ _ c.in_ok-command.ensures first c.line.ensures.local)
