-- What a session promises: one of lines, one with batches, or one with batches of many planners.
use Rattle.std.specs.Prelude.{Bool, List, Result}
use Rattle.vm_types.specs.declared.answer.Answer.{Answer}
use Rattle.vm_types.specs.declared.command.Command.{Command}
use Rattle.vm_types.specs.declared.refusal.Refusal.{Refusal}
use Rattle.vm_types.specs.State.{State}
use Rattle.vm_store.specs.declared.store.Store.{Store}
use Rattle.vm_cli.specs.session.Known.{SessionStreams}
use Rattle.vm_cli.specs.session.Keeps.{answers_of, commands_of}
use Rattle.vm_cli.specs.session.Planners.{ServesPlanners, telling}
use Rattle.vm_cli.specs.session.Rounds.{AreWholeBatches}
use Rattle.vm_cli.specs.session.StreamKeeps.{answers_streamed, commands_streamed, rounds_of}
use Rattle.vm_cli.specs.session.Streams.{ServesBatches}
use Rattle.vm_cli.specs.session.Session.{Serves}
use Rattle.vm_cli.specs.declared.session.Grouping.{Grouping}
use Rattle.vm_cli.specs.declared.session.Grouping.TheVariants.{Batches, Lines, Planners}
use Rattle.vm_cli.specs.declared.session.Manner.{Manner}
use Rattle.vm_cli.specs.declared.session.ServeFault.{ServeFault}

module _ {D : Type 0} {members : _} where
  -- a session over some input
  abbrev pub ServesBy : Grouping → Store D members → Store D members → State → Manner → Result Bool ServeFault → SessionStreams → Type 0
  ServesBy Lines old new s on result known = Serves old new s on result known
  ServesBy Batches old new s on result known = ServesBatches old new s on result known
  ServesBy Planners old new s on result known = ServesPlanners old new s (telling on) result known

  -- the commands that it carried out
  abbrev pub commands_by : (grouping : Grouping) (old new : Store D members) (s : State) (on : Manner) (result : Result Bool ServeFault) (known : SessionStreams)
      → ServesBy grouping old new s on result known → List Command
  commands_by Lines old new s on result known serves = commands_of serves
  commands_by Batches old new s on result known serves = commands_streamed serves
  commands_by Planners old new s on result known serves = commands_streamed serves

  -- the answers to them
  abbrev pub answers_by : (grouping : Grouping) (old new : Store D members) (s : State) (on : Manner) (result : Result Bool ServeFault) (known : SessionStreams)
      → ServesBy grouping old new s on result known → List (Result Answer Refusal)
  answers_by Lines old new s on result known serves = answers_of serves
  answers_by Batches old new s on result known serves = answers_streamed serves
  answers_by Planners old new s on result known serves = answers_streamed serves

  -- its batches are whole, if it has any
  abbrev pub IsWholeBy : (grouping : Grouping) (old new : Store D members) (s : State) (on : Manner) (result : Result Bool ServeFault) (known : SessionStreams)
      → ServesBy grouping old new s on result known → Type 0
  IsWholeBy Lines old new s on result known serves = Unit {0}
  IsWholeBy Batches old new s on result known serves = AreWholeBatches s (rounds_of serves)
  IsWholeBy Planners old new s on result known serves = AreWholeBatches s (rounds_of serves)
