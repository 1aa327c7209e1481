use Rattle.std.proofs.lemmas.Result.{IfOk-weaker}
use Rattle.std.proofs.Common.{◌∙◌, ◌∷◌, [], ap, codes}
use Rattle.clap.specs.Words.{Rule, rule_of}
use Rattle.clap.specs.declared.builder.arg.Arg.{Arg}
use Rattle.vm_cli.proofs.Commands.{local_arg, with_arg}
use Rattle.vm_cli.proofs.program.words.with_options.Goals as goal

pub returns-clause-app : goal.returns-clause-app
returns-clause-app c =
    let first = with_arg _ _ _ _ _ c.in_ok-arg.ensures c.in_ok-with_lock.ensures.app c.flag.ensures.rule c.flag.ensures.local in
    let second = with_arg _ _ _ _ _ c.in_ok-arg-2.ensures first c.flag-2.ensures.rule c.flag-2.ensures.local in
    let third = with_arg _ _ _ _ _ c.in_ok-arg-3.ensures second c.flag-3.ensures.rule c.flag-3.ensures.local in
    let fourth = with_arg _ _ _ _ _ c.in_ok-arg-4.ensures third c.grow_to.ensures.rule c.grow_to.ensures.local in
    let cache = ap (λ (a : Arg). rule_of a) c.default_value.ensures ∙ ap (λ (r : Rule). record r { defaults = codes "256" ∷ [] }) c.amount.ensures.rule in
    let local = ap (λ (a : Arg). a.global) c.default_value.ensures ∙ c.amount.ensures.local in
    let fifth = with_arg _ _ _ _ _ c.in_ok-arg-5.ensures fourth cache local in
    IfOk-weaker c.arg-6.result _ _ (λ whole adds. with_arg _ _ whole _ _ adds fifth c.amount-2.ensures.rule c.amount-2.ensures.local) c.arg-6.ensures

pub returns-clause-local : goal.returns-clause-local
returns-clause-local c was =
    let first = local_arg _ _ _ c.in_ok-arg.ensures (c.in_ok-with_lock.ensures.local was) c.flag.ensures.local in
    let second = local_arg _ _ _ c.in_ok-arg-2.ensures first c.flag-2.ensures.local in
    let third = local_arg _ _ _ c.in_ok-arg-3.ensures second c.flag-3.ensures.local in
    let fourth = local_arg _ _ _ c.in_ok-arg-4.ensures third c.grow_to.ensures.local in
    let fifth = local_arg _ _ _ c.in_ok-arg-5.ensures fourth (ap (λ (a : Arg). a.global) c.default_value.ensures ∙ c.amount.ensures.local) in
    IfOk-weaker c.arg-6.result _ _ (λ whole adds. local_arg _ _ whole adds fifth c.amount-2.ensures.local) c.arg-6.ensures
