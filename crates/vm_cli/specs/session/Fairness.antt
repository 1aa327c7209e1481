-- Nobody waits long in a stream of planners: what each line leaves waiting.
use Rattle.std.specs.Prelude.{◌≡◌, ℕ, Bool, false, List, [], ◌∷◌, Result, Ok, Err}
use Rattle.vm_types.specs.State.{State}
use Rattle.vm_disk.specs.declared.disk.Disk.{Ghosts}
use Rattle.vm_store.specs.declared.store.Store.{Store}
use Rattle.vm_cli.specs.session.SessionKinds.{HasTaken, ServesStream, TakesEach}
use Rattle.vm_cli.specs.session.SessionKinds.LastAnswered.{end_answered, line_answered}
use Rattle.vm_cli.specs.session.SessionKinds.LastRefused.{end_refuses, line_refused}
use Rattle.vm_cli.specs.session.Known.{SessionStreams}
use Rattle.vm_cli.specs.session.Planners.{Gathering, gathering, planners}
use Rattle.vm_cli.specs.session.Rounds.{Round}
use Rattle.vm_cli.specs.session.Waiting.{Waiting, waits}
use Rattle.vm_cli.specs.declared.session.Manner.{Manner}
use Rattle.vm_cli.specs.declared.session.ServeFault.{ServeFault}
use Rattle.vm_cli.specs.declared.session.ServeFault.TheVariants as fault

-- at most one batch of each planner waits
abbrev pub WaitOnce : List Waiting → Type 0
WaitOnce [] = Unit {0}
WaitOnce (it ∷ waiting) = (waits it.number waiting ≡ false) × WaitOnce waiting

abbrev pub AllWaitOnce : List Gathering → Type 0
AllWaitOnce [] = Unit {0}
AllWaitOnce (at ∷ others) = WaitOnce at.waiting × AllWaitOnce others

module _ {D : Type 0} {members : Ghosts D} where
  -- what is held after each of some lines
  abbrev pub gatherings_after : (old new : Store D members) (s : State) (how : Manner) (at : Gathering) (parts : List (List ℕ)) (text : List ℕ) (at' : Gathering) (rounds : List Round) (again : Bool)
      → TakesEach planners old new s how at parts text at' rounds again → List Gathering
  gatherings_after old new s how at [] text at' rounds again each = []
  gatherings_after old new s how at (part ∷ parts) text at' rounds again it = it.next ∷ gatherings_after it.mid new _ how it.next parts it.rest at' it.later it.others it.more

  -- after each of the first lines of an input
  abbrev pub gatherings_in : {old mid : Store D members} {s : State} {how : Manner} {parts : List (List ℕ)} {text : List ℕ} {at : Gathering} {again : Bool} → HasTaken planners old mid s how parts text at again → List Gathering
  gatherings_in {old = old} {mid = mid} {s = s} {how = how} {parts = parts} {text = text} {at = at} {again = again} taken =
      gatherings_after old mid s how (gathering [] []) parts text at taken.rounds again taken.each

module _ {D : Type 0} {members : Ghosts D} {old new : Store D members} {s : State} {how : Manner} where
  -- after each line of a session but the last
  abbrev pub gatherings_of : {result : Result Bool ServeFault} {known : SessionStreams} → ServesStream planners old new s how result known → List Gathering
  gatherings_of {result = Ok refused} serves = gatherings_in serves.served.ended.taken
  gatherings_of {result = Err fault.Read} serves = gatherings_in serves.served.taken
  gatherings_of {result = Err fault.Store} serves = gatherings_in serves.served.ended.taken
  gatherings_of {result = Err fault.Unsure} serves = gatherings_in serves.served.ended.taken
  gatherings_of {result = Err fault.Refused} serves = elim serves.served.last [ line_refused ended ↦ gatherings_in ended.taken | end_refuses again ended ↦ gatherings_in ended.taken ]
  gatherings_of {result = Err fault.Write} serves = elim serves.served.last [ line_answered course ended ↦ gatherings_in ended.taken | end_answered again last ended ↦ gatherings_in ended.taken ]
