-- What a command is, to which parts were added in turn.
use Rattle.std.proofs.Common.{◌≡◌, ◌∙◌, ◌||◌, false, ap, ap₂, Bool, Result, Ok, Err, IfOk}
use Rattle.std.proofs.lemmas.Result.{IfOk-weaker}
use Rattle.clap.specs.Words.{AddsArg, App, Rule, app_of, rule_of, with_rule, with_subcommand}
use Rattle.clap.specs.declared.builder.arg.Arg.{Arg}
use Rattle.clap.specs.declared.builder.command.Command.{Command}
use Rattle.vm_cli.specs.program.Words.{AddsTask, IsLocal}

-- one more argument, of this rule
pub with_arg : (old : Command) (a : Arg) (new : Command) (before : App) (rule : Rule) → AddsArg old a new → app_of old ≡ before → rule_of a ≡ rule → a.global ≡ false
    → app_of new ≡ with_rule before rule
with_arg old a new before rule adds was is local = adds.shape local ∙ ap₂ with_rule was is

-- it leaves the command without an argument that its subcommands take too
pub local_arg : (old : Command) (a : Arg) (new : Command) → AddsArg old a new → IsLocal old → a.global ≡ false → IsLocal new
local_arg old a new adds was local = adds.globals ∙ ap₂ (λ (x y : Bool). x || y) was local

-- one more task, where this is known of the program and of the task
pub with_made : {E : Type 0} (program task : Result Command E) (whole : Command) (before made : App) → IfOk program (λ c. app_of c ≡ before)
    → IfOk task (λ c. app_of c ≡ made) → IfOk task (λ c. IsLocal c) → AddsTask program task whole → app_of whole ≡ with_subcommand before made.top
with_made (Ok p) (Ok c) whole before made was is local adds = adds local ∙ ap₂ with_subcommand was (ap (λ (a : App). a.top) is)
with_made (Ok p) (Err e) whole before made was is local adds = absurd adds
with_made (Err e) task whole before made was is local adds = absurd adds

-- the same of all that is made
pub with_made_ok : {E : Type 0} (program task whole : Result Command E) (before made : App) → IfOk program (λ c. app_of c ≡ before)
    → IfOk task (λ c. app_of c ≡ made) → IfOk task (λ c. IsLocal c) → IfOk whole (AddsTask program task) → IfOk whole (λ c. app_of c ≡ with_subcommand before made.top)
with_made_ok program task whole before made was is local adds = IfOk-weaker whole _ _ (λ c add. with_made program task c before made was is local add) adds
