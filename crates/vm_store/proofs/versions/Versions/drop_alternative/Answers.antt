use Rattle.std.proofs.Common.{not, sym, ap, ◌∙◌}
use Rattle.vm_types.specs.declared.command.Command.TheVariants.{Drop}
use Rattle.vm_store.proofs.TurnLemmas.{accepted, refused, drop_absent, drop_top, drop_parent, drop_rests, some_told, none_told}
use Rattle.vm_store.proofs.versions.Versions.drop_alternative.Goals as goal

pub returns-in_default : goal.returns-in_default
returns-in_default c =
    refused _ (Drop c.args.alt.now) _ tt (λ bits x limit tree here. drop_absent here c.args.alt.now (sym c.in_default.ensures))

pub returns-then-is_none : goal.returns-then-is_none
returns-then-is_none c =
    refused _ (Drop c.args.alt.now) _ tt (λ bits x limit tree here. drop_top here c.args.alt.now c.in-Some.own (sym c.in-Some.ensures) (none_told _ (c.is_none.ensures ∙ ap not c.if-is_none.true)))

pub returns-then-has_children : goal.returns-then-has_children
returns-then-has_children c =
    let owner = some_told _ (c.is_none.ensures ∙ ap not c.if-is_none.false) in
    refused _ (Drop c.args.alt.now) _ tt (λ bits x limit tree here. drop_parent here c.args.alt.now c.in-Some.own (sym c.in-Some.ensures) owner.0 owner.1 (sym c.has_children.ensures ∙ c.if-has_children.true))

pub returns : goal.returns
returns c =
    let owner = some_told _ (c.is_none.ensures ∙ ap not c.if-is_none.false) in
    rw c.take_out.ensures (accepted _ (Drop c.args.alt.now) _ (λ bits x limit tree here. drop_rests here c.args.alt.now c.in-Some.own (sym c.in-Some.ensures) owner.0 owner.1 (sym c.has_children.ensures ∙ c.if-has_children.false)))
