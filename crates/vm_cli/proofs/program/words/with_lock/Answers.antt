use Rattle.std.proofs.Common.{refl}
use Rattle.std.proofs.lemmas.Result.{IfOk-weaker}
use Rattle.vm_cli.proofs.Commands.{local_arg, with_arg}
use Rattle.vm_cli.proofs.program.words.with_lock.Goals as goal

pub returns-clause-app : goal.returns-clause-app
returns-clause-app c =
    let first = with_arg _ _ _ _ _ c.in_ok-arg.ensures refl c.flag.ensures.rule c.flag.ensures.local in
    IfOk-weaker c.arg-2.result _ _ (λ whole adds. with_arg _ _ whole _ _ adds first c.flag-2.ensures.rule c.flag-2.ensures.local) c.arg-2.ensures

pub returns-clause-local : goal.returns-clause-local
returns-clause-local c was =
    let first = local_arg _ _ _ c.in_ok-arg.ensures was c.flag.ensures.local in
    IfOk-weaker c.arg-2.result _ _ (λ whole adds. local_arg _ _ whole adds first c.flag-2.ensures.local) c.arg-2.ensures
