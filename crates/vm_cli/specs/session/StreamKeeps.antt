-- What a session in which lines are answered one after another carried out, and what a crash leaves of it.
use Rattle.std.specs.Prelude.{◌++◌, ℕ, Bool, List, Result, Ok, Err}
use Rattle.vm_types.specs.declared.answer.Answer.{Answer}
use Rattle.vm_types.specs.declared.command.Command.{Command}
use Rattle.vm_types.specs.declared.refusal.Refusal.{Refusal}
use Rattle.vm_types.specs.State.{State}
use Rattle.vm_disk.specs.declared.disk.Disk.{Ghosts}
use Rattle.vm_store.specs.declared.store.Store.{Store}
use Rattle.vm_cli.specs.session.SessionKinds.{SessionKind, Course, EndsInput, EndsWithLine, ServesStream}
use Rattle.vm_cli.specs.session.SessionKinds.LastAnswered.{end_answered, line_answered}
use Rattle.vm_cli.specs.session.SessionKinds.LastRefused.{end_refuses, line_refused}
use Rattle.vm_cli.specs.session.Known.{SessionStreams}
use Rattle.vm_cli.specs.session.Rounds.{Round, all_answers, all_commands}
use Rattle.vm_cli.specs.declared.session.Manner.{Manner}
use Rattle.vm_cli.specs.declared.session.ServeFault.{ServeFault}
use Rattle.vm_cli.specs.declared.session.ServeFault.TheVariants as fault

module _ {D : Type 0} {members : Ghosts D} {kind : SessionKind D members} {old new : Store D members} {s : State} {how : Manner} where
  -- what came of the lines of a session that ended with one
  abbrev pub rounds_ended : {course : Course} {input text : List ℕ} → EndsWithLine kind old new s how course input text → List Round
  rounds_ended ended = ended.taken.rounds ++ ended.rounds

  -- or of one that took all of its input
  abbrev pub rounds_taken : {input text : List ℕ} {again last : Bool} → EndsInput kind old new s how input text again last → List Round
  rounds_taken ended = ended.taken.rounds

  -- what came of all its lines
  abbrev pub rounds_of : {result : Result Bool ServeFault} {known : SessionStreams} → ServesStream kind old new s how result known → List Round
  rounds_of {result = Ok refused} serves = rounds_taken serves.served.ended
  rounds_of {result = Err fault.Read} serves = serves.served.taken.rounds
  rounds_of {result = Err fault.Store} serves = rounds_ended serves.served.ended
  rounds_of {result = Err fault.Unsure} serves = rounds_ended serves.served.ended
  rounds_of {result = Err fault.Refused} serves = elim serves.served.last [ line_refused ended ↦ rounds_ended ended | end_refuses again ended ↦ rounds_taken ended ]
  rounds_of {result = Err fault.Write} serves = elim serves.served.last [ line_answered course ended ↦ rounds_ended ended | end_answered again last ended ↦ rounds_taken ended ]

  -- the commands that were carried out
  abbrev pub commands_streamed : {result : Result Bool ServeFault} {known : SessionStreams} → ServesStream kind old new s how result known → List Command
  commands_streamed serves = all_commands (rounds_of serves)

  -- the answers to them
  abbrev pub answers_streamed : {result : Result Bool ServeFault} {known : SessionStreams} → ServesStream kind old new s how result known → List (Result Answer Refusal)
  answers_streamed serves = all_answers (rounds_of serves)
