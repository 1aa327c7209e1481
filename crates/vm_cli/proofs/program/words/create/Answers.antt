use Rattle.std.proofs.lemmas.Result.{IfOk-weaker}
use Rattle.vm_cli.proofs.Commands.{local_arg, with_arg}
use Rattle.vm_cli.proofs.program.words.create.Goals as goal

pub returns-clause-app : goal.returns-clause-app
returns-clause-app c =
    let first = with_arg _ _ _ _ _ c.in_ok-arg.ensures c.described.ensures.app c.file.ensures.rule c.file.ensures.local in
    IfOk-weaker c.arg-2.result _ _ (λ whole adds. with_arg _ _ whole _ _ adds first c.blocks-2.ensures.rule c.blocks-2.ensures.local) c.arg-2.ensures

pub returns-clause-local : goal.returns-clause-local
returns-clause-local c =
    let first = local_arg _ _ _ c.in_ok-arg.ensures c.described.ensures.local c.file.ensures.local in
    IfOk-weaker c.arg-2.result _ _ (λ whole adds. local_arg _ _ whole adds first c.blocks-2.ensures.local) c.arg-2.ensures
