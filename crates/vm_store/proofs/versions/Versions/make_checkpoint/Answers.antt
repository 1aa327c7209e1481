use Rattle.std.proofs.Common.{◌<◌, ◌≤◌, length, sym, ◌∙◌, arith}
use Rattle.std.proofs.lemmas.Grind.{common_steps}
use Rattle.vm_types.specs.declared.command.Command.TheVariants.{Checkpoint}
use Rattle.vm_store.proofs.TurnLemmas.{accepted, refused, checkpoint_absent, checkpoint_exists, checkpoint_full, checkpoint_rests, some_told, none_told}
use Rattle.vm_store.proofs.versions.Versions.make_checkpoint.Goals as goal

pub returns-in_default : goal.returns-in_default
returns-in_default c =
    refused _ (Checkpoint c.args.alt.now c.args.name.now) _ tt (λ bits x limit tree here. checkpoint_absent here c.args.alt.now c.args.name.now (sym c.in_default.ensures))

pub returns-then-is_some : goal.returns-then-is_some
returns-then-is_some c =
    let old = some_told _ (sym c.is_some.ensures ∙ c.if-is_some.true) in
    refused _ (Checkpoint c.args.alt.now c.args.name.now) _ tt (λ bits x limit tree here. checkpoint_exists here c.args.alt.now c.args.name.now c.in-Some.own (sym c.in-Some.ensures) old.0 (sym c.checkpoint.ensures ∙ old.1))

pub returns-then-are_full : goal.returns-then-are_full
returns-then-are_full c =
    let many : 511 ≤ length c.args.self.now = c.are_full.ensures.0 c.if-are_full.true in
    refused _ (Checkpoint c.args.alt.now c.args.name.now) _ tt (λ bits x limit tree here. checkpoint_full here c.args.alt.now c.args.name.now c.in-Some.own (sym c.in-Some.ensures) (sym c.checkpoint.ensures ∙ none_told _ (sym c.is_some.ensures ∙ c.if-is_some.false)) many)

pub returns : goal.returns
returns c =
    let few : length c.args.self.now < 511 = grind (arith, common_steps) in
    rw c.add.ensures.items (accepted _ (Checkpoint c.args.alt.now c.args.name.now) _ (λ bits x limit tree here. checkpoint_rests here c.args.alt.now c.args.name.now c.in-Some.own (sym c.in-Some.ensures) (sym c.checkpoint.ensures ∙ none_told _ (sym c.is_some.ensures ∙ c.if-is_some.false)) few c.add.ensures.name))
