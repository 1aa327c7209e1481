use Rattle.std.proofs.Common.{not, sym, ap, ◌∙◌}
use Rattle.vm_types.specs.declared.command.Command.TheVariants.{Uncheck}
use Rattle.vm_store.proofs.TurnLemmas.{accepted, refused, uncheck_absent, uncheck_none, uncheck_rests, some_told, none_told}
use Rattle.vm_store.proofs.versions.Versions.uncheck.Goals as goal

pub returns-then-is_none : goal.returns-then-is_none
returns-then-is_none c =
    refused _ (Uncheck c.args.alt.now c.args.name.now) _ tt (λ bits x limit tree here. uncheck_absent here c.args.alt.now c.args.name.now (sym c.alternative.ensures ∙ none_told _ (c.is_none.ensures ∙ ap not c.if-is_none.true)))

pub returns-then-is_none-2 : goal.returns-then-is_none-2
returns-then-is_none-2 c =
    let own = some_told _ (c.is_none.ensures ∙ ap not c.if-is_none.false) in
    refused _ (Uncheck c.args.alt.now c.args.name.now) _ tt (λ bits x limit tree here. uncheck_none here c.args.alt.now c.args.name.now own.0 (sym c.alternative.ensures ∙ own.1) (sym c.checkpoint.ensures ∙ none_told _ (c.is_none-2.ensures ∙ ap not c.if-is_none-2.true)))

pub returns : goal.returns
returns c =
    let own = some_told _ (c.is_none.ensures ∙ ap not c.if-is_none.false) in
    let saved = some_told _ (c.is_none-2.ensures ∙ ap not c.if-is_none-2.false) in
    rw c.take_checkpoint_out.ensures (accepted _ (Uncheck c.args.alt.now c.args.name.now) _ (λ bits x limit tree here. uncheck_rests here c.args.alt.now c.args.name.now own.0 (sym c.alternative.ensures ∙ own.1) saved.0 (sym c.checkpoint.ensures ∙ saved.1)))
