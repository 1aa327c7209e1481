use Rattle.std.proofs.Common.{not, sym, ap, ◌∙◌}
use Rattle.vm_types.specs.declared.command.Command.TheVariants.{Back}
use Rattle.vm_store.proofs.TurnLemmas.{accepted, refused, back_absent, back_none, back_rests, some_told, none_told}
use Rattle.vm_store.proofs.versions.Versions.go_back.Goals as goal

pub returns-then-is_none : goal.returns-then-is_none
returns-then-is_none c =
    refused _ (Back c.args.alt.now c.args.name.now) _ tt (λ bits x limit tree here. back_absent here c.args.alt.now c.args.name.now (sym c.alternative.ensures ∙ none_told _ (c.is_none.ensures ∙ ap not c.if-is_none.true)))

pub returns-in_default : goal.returns-in_default
returns-in_default c =
    let own = some_told _ (c.is_none.ensures ∙ ap not c.if-is_none.false) in
    refused _ (Back c.args.alt.now c.args.name.now) _ tt (λ bits x limit tree here. back_none here c.args.alt.now c.args.name.now own.0 (sym c.alternative.ensures ∙ own.1) (sym c.in_default.ensures))

pub returns : goal.returns
returns c =
    let own = some_told _ (c.is_none.ensures ∙ ap not c.if-is_none.false) in
    rw c.set_roots.ensures (accepted _ (Back c.args.alt.now c.args.name.now) _ (λ bits x limit tree here. back_rests here c.args.alt.now c.args.name.now own.0 (sym c.alternative.ensures ∙ own.1) c.in-Some.saved (sym c.in-Some.ensures)))
