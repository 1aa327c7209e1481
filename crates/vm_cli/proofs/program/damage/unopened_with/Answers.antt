use Rattle.std.proofs.Common.{◌++◌, subst}
use Rattle.vm_cli.specs.program.Exits.{Tells, no_store_text, others_text}
use Rattle.vm_cli.specs.session.Known.{written_to}
use Rattle.vm_cli.specs.declared.program.Exit.TheVariants.{Refused}
use Rattle.vm_cli.proofs.ExitLemmas.{tells_less, tells_more}
use Rattle.vm_cli.proofs.program.damage.unopened_with.Goals as goal

pub returns-in-Refused : goal.returns-in-Refused
returns-in-Refused g c =
    subst (λ t. Tells Refused c.unless_fault.result (written_to g.F.Write.contents c.args.errors.now c.name_others.new.errors) (no_store_text c.args.why.now ++ others_text t c.args.damaged.now)) c.told_in.ensures
    (tells_more _ _ _ c.name_others.result _ _ _ (rw c.in-Refused.is at c.unopened-exit.ensures) c.unless_fault.ensures.ok c.unless_fault.ensures.err c.name_others.ensures.ok c.name_others.ensures.err)

pub returns-in_default : goal.returns-in_default
returns-in_default g c = tells_less _ _ _ _ _ (λ is. c.in_default.not-Refused is) c.unopened-exit.ensures
