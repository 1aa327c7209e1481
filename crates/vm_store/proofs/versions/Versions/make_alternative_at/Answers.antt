use Rattle.std.proofs.Common.{◌<◌, ◌≤◌, length, not, subst, sym, ap, ◌∙◌, arith}
use Rattle.std.proofs.lemmas.Grind.{common_steps}
use Rattle.vm_types.specs.declared.command.Command.TheVariants.{NewAt}
use Rattle.vm_types.specs.Name.{IsName}
use Rattle.vm_store.specs.declared.version.Version.{Version}
use Rattle.vm_store.proofs.TurnLemmas.{accepted, refused, new_at_absent, new_at_exists, new_at_none, new_at_full, new_at_rests, some_told, none_told}
use Rattle.vm_store.proofs.versions.Versions.make_alternative_at.Goals as goal

pub returns-then-is_none : goal.returns-then-is_none
returns-then-is_none c =
    refused _ (NewAt c.args.name.now c.args.parent.now c.args.checkpoint.now) _ tt (λ bits x limit tree here. new_at_absent here c.args.name.now c.args.parent.now c.args.checkpoint.now (sym c.alternative.ensures ∙ none_told _ (c.is_none.ensures ∙ ap not c.if-is_none.true)))

pub returns-then-is_some : goal.returns-then-is_some
returns-then-is_some c =
    let above = some_told _ (c.is_none.ensures ∙ ap not c.if-is_none.false) in
    let old = some_told _ (sym c.is_some.ensures ∙ c.if-is_some.true) in
    refused _ (NewAt c.args.name.now c.args.parent.now c.args.checkpoint.now) _ tt (λ bits x limit tree here. new_at_exists here c.args.name.now c.args.parent.now c.args.checkpoint.now above.0 (sym c.alternative.ensures ∙ above.1) old.0 (sym c.alternative-2.ensures ∙ old.1))

pub returns-in_default : goal.returns-in_default
returns-in_default c =
    let above = some_told _ (c.is_none.ensures ∙ ap not c.if-is_none.false) in
    refused _ (NewAt c.args.name.now c.args.parent.now c.args.checkpoint.now) _ tt (λ bits x limit tree here. new_at_none here c.args.name.now c.args.parent.now c.args.checkpoint.now above.0 (sym c.alternative.ensures ∙ above.1) (sym c.alternative-2.ensures ∙ none_told _ (sym c.is_some.ensures ∙ c.if-is_some.false)) (sym c.in_default.ensures))

pub returns-then-are_full : goal.returns-then-are_full
returns-then-are_full c =
    let above = some_told _ (c.is_none.ensures ∙ ap not c.if-is_none.false) in
    let many : 511 ≤ length c.args.self.now = c.are_full.ensures.0 c.if-are_full.true in
    refused _ (NewAt c.args.name.now c.args.parent.now c.args.checkpoint.now) _ tt (λ bits x limit tree here. new_at_full here c.args.name.now c.args.parent.now c.args.checkpoint.now above.0 (sym c.alternative.ensures ∙ above.1) (sym c.alternative-2.ensures ∙ none_told _ (sym c.is_some.ensures ∙ c.if-is_some.false)) c.in-Some.saved (sym c.in-Some.ensures) many)

pub returns : goal.returns
returns c =
    let above = some_told _ (c.is_none.ensures ∙ ap not c.if-is_none.false) in
    let few : length c.args.self.now < 511 = grind (arith, common_steps) in
    rw (c.add.ensures.items, c.alternative_under.ensures) (accepted _ (NewAt c.args.name.now c.args.parent.now c.args.checkpoint.now) _ (λ bits x limit tree here. new_at_rests here c.args.name.now c.args.parent.now c.args.checkpoint.now above.0 (sym c.alternative.ensures ∙ above.1) (sym c.alternative-2.ensures ∙ none_told _ (sym c.is_some.ensures ∙ c.if-is_some.false)) c.in-Some.saved (sym c.in-Some.ensures) few (subst (λ (v : Version). IsName v.name) c.alternative_under.ensures c.add.ensures.name)))
