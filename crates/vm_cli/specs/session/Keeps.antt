-- What a crash leaves at each moment of a session.
use Rattle.std.specs.Prelude.{◌≤◌, ℕ, Bool, List, [], ◌++◌, Result, Ok, Err}
use Rattle.vm_types.specs.declared.answer.Answer.{Answer}
use Rattle.vm_types.specs.declared.command.Command.{Command}
use Rattle.vm_types.specs.declared.refusal.Refusal.{Refusal}
use Rattle.vm_types.specs.Kept.{Kept}
use Rattle.vm_types.specs.Moments.{KeptThroughout}
use Rattle.vm_types.specs.State.{State}
use Rattle.vm_disk.specs.Disk.{Contents, DiskState, LeftAt, moment}
use Rattle.vm_store.specs.Shown.{Shows}
use Rattle.vm_store.specs.declared.store.Store.{Store}
use Rattle.vm_cli.specs.session.Known.{SessionStreams}
use Rattle.vm_cli.specs.session.Session.{EndsSession, Serves, with_answer, with_command}
use Rattle.vm_cli.specs.declared.session.Manner.{Manner}
use Rattle.vm_cli.specs.declared.session.ServeFault.{ServeFault}
use Rattle.vm_cli.specs.declared.session.ServeFault.TheVariants as fault

-- commands were answered so while the disk went from the one state to the other, and what a crash leaves at each moment of it shows
-- what is committed after a beginning of them, which is empty or ends in a commit, and holds each commit acknowledged by then
pub record Keeps (old new : DiskState) (s : State) (commands : List Command) (answers : List (Result Answer Refusal)) : Type 0 where
  -- the last command has ended
  pub time : ℕ
  pub within : time ≤ moment new
  -- up to then each moment belongs to a command: that in which it is, or the next one
  pub calls : KeptThroughout Shows (LeftAt new) s (moment old) commands answers time
  -- from then on each command has its answer
  pub rest : (t : ℕ) (x : Contents) → time ≤ t → t ≤ moment new → LeftAt new t x → Kept Shows s commands answers x
  -- and what the disk holds at the end is kept so
  pub held : Kept Shows s commands answers new.now.contents

module _ {D : Type 0} {members : _} where
  -- the commands of a session that ended with a line: that line's own comes last
  abbrev pub commands_ended : {old new : Store D members} {s : State} {on : Manner} {ends : Bool} {all : List (List ℕ)} {text : List ℕ}
      → EndsSession old new s on ends all text → List Command
  commands_ended ended = ended.answered.commands ++ with_command ended.handled.done []

  -- the answers to them
  abbrev pub answers_ended : {old new : Store D members} {s : State} {on : Manner} {ends : Bool} {all : List (List ℕ)} {text : List ℕ}
      → EndsSession old new s on ends all text → List (Result Answer Refusal)
  answers_ended ended = ended.answered.answers ++ with_answer ended.handled.done []

  -- the commands among the lines that a session answered, even the last one if its answer wasn't written whole
  abbrev pub commands_of : {old new : Store D members} {s : State} {on : Manner} {result : Result Bool ServeFault} {known : SessionStreams}
      → Serves old new s on result known → List Command
  commands_of {result = Ok refused} serves = serves.served.answered.commands
  commands_of {result = Err fault.Read} serves = serves.served.answered.commands
  commands_of {result = Err fault.Unsure} serves = []
  commands_of {result = Err fault.Store} serves = commands_ended serves.served.ended
  commands_of {result = Err fault.Refused} serves = commands_ended serves.served.ended
  commands_of {result = Err fault.Write} serves = commands_ended serves.served.ended

  -- the answers to them
  abbrev pub answers_of : {old new : Store D members} {s : State} {on : Manner} {result : Result Bool ServeFault} {known : SessionStreams}
      → Serves old new s on result known → List (Result Answer Refusal)
  answers_of {result = Ok refused} serves = serves.served.answered.answers
  answers_of {result = Err fault.Read} serves = serves.served.answered.answers
  answers_of {result = Err fault.Unsure} serves = []
  answers_of {result = Err fault.Store} serves = answers_ended serves.served.ended
  answers_of {result = Err fault.Refused} serves = answers_ended serves.served.ended
  answers_of {result = Err fault.Write} serves = answers_ended serves.served.ended
