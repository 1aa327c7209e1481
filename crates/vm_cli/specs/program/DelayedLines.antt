-- What becomes of a disk while written blocks of it wait in memory.
use Rattle.std.specs.Prelude.{◌≡◌, ◌<◌, ℕ, true, List, Result}
use Rattle.vm_types.specs.declared.answer.Answer.{Answer}
use Rattle.vm_types.specs.declared.command.Command.{Command}
use Rattle.vm_types.specs.declared.refusal.Refusal.{Refusal}
use Rattle.vm_types.specs.State.{State}
use Rattle.vm_disk.specs.Delayed.{FollowsBelow, IsIdleOver, delayed_state, inner_of}
use Rattle.vm_disk.specs.declared.delayed.DelayedDisk.{DelayedDisk}
use Rattle.vm_disk.specs.declared.disk.Disk.{Ghosts}
use Rattle.vm_cli.specs.session.Known.{SessionStreams}
use Rattle.vm_cli.specs.session.Served.{answers_by, commands_by}
use Rattle.vm_cli.specs.program.Openings.{HasRefused}
use Rattle.vm_cli.specs.program.DiskUses.{HasServed}
use Rattle.vm_cli.specs.declared.program.Exit.{Exit}
use Rattle.vm_cli.specs.declared.program.opening.NoStore.{NoStore}
use Rattle.vm_cli.specs.declared.session.Manner.{Manner}

module _ {D : Type 0} (members : Ghosts D) where
  -- a delayed disk on which this many blocks may wait was made over the old disk, this was done with it, and the new disk is the one below it, which followed
  pub record IsDoneLate (buffer : ℕ) (IsDone : DelayedDisk D members → DelayedDisk D members → Type 0) (old new : D) : Type 0 where
    pub first : DelayedDisk D members
    pub last : DelayedDisk D members
    pub some : 0 < buffer
    pub idle : IsIdleOver members.state old buffer first
    pub done : IsDone first last
    pub given_back : new ≡ inner_of last
    pub follows : (delayed_state members.state last).honest ≡ true → FollowsBelow members.state last

module _ {D : Type 0} (members : Ghosts D) (late : Ghosts (DelayedDisk D members)) where
  -- a disk was refused
  pub data IsRefusedLate (buffer : ℕ) (old new : D) (why : NoStore) : Type 0 where
    -- itself
    refused_itself : HasRefused (members.state old) (members.state new) why → IsRefusedLate buffer old new why
    -- with a delayed disk over it
    refused_late : IsDoneLate members buffer (λ first last. HasRefused (late.state first) (late.state last) why) old new
        → IsRefusedLate buffer old new why

  -- lines were answered
  pub data IsServedLate (buffer : ℕ) (on : Manner) (old new : D) (exit : Exit) (known : SessionStreams) : Type 0 where
    -- over a disk itself
    served_itself : HasServed members on old new exit known → IsServedLate buffer on old new exit known
    -- over a delayed disk over it
    served_late : IsDoneLate members buffer (λ first last. HasServed late on first last exit known) old new
        → IsServedLate buffer on old new exit known

  -- the commands among these lines, if the store stood for this state at first
  abbrev pub commands_late : {buffer : ℕ} {on : Manner} {old new : D} {exit : Exit} {known : SessionStreams}
      → IsServedLate buffer on old new exit known → State → List Command
  commands_late {on = on} {known = known} (served_itself served) s = commands_by on.grouping served.first served.last s on served.served known (served.serves s)
  commands_late {on = on} {known = known} (served_late over) s = commands_by on.grouping over.done.first over.done.last s on over.done.served known (over.done.serves s)

  -- the answers to them
  abbrev pub answers_late : {buffer : ℕ} {on : Manner} {old new : D} {exit : Exit} {known : SessionStreams}
      → IsServedLate buffer on old new exit known → State → List (Result Answer Refusal)
  answers_late {on = on} {known = known} (served_itself served) s = answers_by on.grouping served.first served.last s on served.served known (served.serves s)
  answers_late {on = on} {known = known} (served_late over) s = answers_by on.grouping over.done.first over.done.last s on over.done.served known (over.done.serves s)
