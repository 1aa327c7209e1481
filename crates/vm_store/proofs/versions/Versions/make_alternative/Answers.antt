use Rattle.std.proofs.Common.{◌<◌, ◌≤◌, length, subst, sym, ◌∙◌, arith}
use Rattle.std.proofs.lemmas.Grind.{common_steps}
use Rattle.vm_types.specs.declared.command.Command.TheVariants.{New}
use Rattle.vm_types.specs.Name.{IsName}
use Rattle.vm_store.specs.declared.version.Version.{Version}
use Rattle.vm_store.proofs.TurnLemmas.{accepted, refused, new_absent, new_exists, new_full, new_rests, some_told, none_told}
use Rattle.vm_store.proofs.versions.Versions.make_alternative.Goals as goal

pub returns-in_default : goal.returns-in_default
returns-in_default c =
    refused _ (New c.args.name.now c.args.parent.now) _ tt (λ bits x limit tree here. new_absent here c.args.name.now c.args.parent.now (sym c.in_default.ensures))

pub returns-then-is_some : goal.returns-then-is_some
returns-then-is_some c =
    let old = some_told _ (sym c.is_some.ensures ∙ c.if-is_some.true) in
    refused _ (New c.args.name.now c.args.parent.now) _ tt (λ bits x limit tree here. new_exists here c.args.name.now c.args.parent.now c.in-Some.above (sym c.in-Some.ensures) old.0 (sym c.alternative-2.ensures ∙ old.1))

pub returns-then-are_full : goal.returns-then-are_full
returns-then-are_full c =
    let many : 511 ≤ length c.args.self.now = c.are_full.ensures.0 c.if-are_full.true in
    refused _ (New c.args.name.now c.args.parent.now) _ tt (λ bits x limit tree here. new_full here c.args.name.now c.args.parent.now c.in-Some.above (sym c.in-Some.ensures) (sym c.alternative-2.ensures ∙ none_told _ (sym c.is_some.ensures ∙ c.if-is_some.false)) many)

pub returns : goal.returns
returns c =
    let few : length c.args.self.now < 511 = grind (arith, common_steps) in
    rw (c.add.ensures.items, c.alternative_under.ensures) (accepted _ (New c.args.name.now c.args.parent.now) _ (λ bits x limit tree here. new_rests here c.args.name.now c.args.parent.now c.in-Some.above (sym c.in-Some.ensures) (sym c.alternative-2.ensures ∙ none_told _ (sym c.is_some.ensures ∙ c.if-is_some.false)) few (subst (λ (v : Version). IsName v.name) c.alternative_under.ensures c.add.ensures.name)))
