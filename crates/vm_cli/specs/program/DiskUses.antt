-- What becomes of a disk on which a store is made, or lines are answered.
use Rattle.std.specs.Prelude.{◌≡◌, ◌↔◌, ℕ, ◌≤◌, Bool, length, true, false, None, Result, Ok, Err}
use Rattle.vm_types.specs.declared.sizes.TheConstants.{MIN_BLOCKS}
use Rattle.vm_types.specs.declared.refusal.Refusal.{Refusal}
use Rattle.vm_types.specs.declared.refusal.Refusal.TheVariants.{AlreadyAStore, BadSize, Device}
use Rattle.vm_types.specs.State.{Seen, State, committed_of, opened}
use Rattle.vm_disk.specs.Disk.{Contents, DiskState, Goes, NoCalls, block}
use Rattle.vm_disk.specs.Moments.{Leaves, Throughout}
use Rattle.vm_disk.specs.declared.disk.Disk.{Ghosts}
use Rattle.vm_store.specs.NewStore.{IsAnyHeader, IsBadSize, IsFormatted}
use Rattle.vm_store.specs.Growth.{Grows}
use Rattle.vm_store.specs.Recovery.{OpensAs}
use Rattle.vm_store.specs.Refused.{IsAtMostSynced}
use Rattle.vm_store.specs.Shown.{Shows}
use Rattle.vm_store.specs.Store.{Holds, disk_of, has_failed}
use Rattle.vm_store.specs.declared.store.Store.{Store}
use Rattle.vm_cli.specs.program.StoreCounts.{IsCounted}
use Rattle.vm_cli.specs.session.Keeps.{Keeps}
use Rattle.vm_cli.specs.session.Known.{SessionStreams}
use Rattle.vm_cli.specs.session.Served.{IsWholeBy, ServesBy, answers_by, commands_by}
use Rattle.vm_cli.specs.session.Session.{Passes}
use Rattle.vm_cli.specs.declared.program.Exit.{Exit}
use Rattle.vm_cli.specs.declared.program.Exit.TheVariants.{Done, LineRefused, Stopped}
use Rattle.vm_cli.specs.declared.session.Manner.{Manner}
use Rattle.vm_cli.specs.declared.session.OnCommand.TheVariants.{Refuse}
use Rattle.vm_cli.specs.declared.session.OnRefusal.{OnRefusal}
use Rattle.vm_cli.specs.declared.session.OnRefusal.TheVariants.{Ignore, Stop, Tell}
use Rattle.vm_cli.specs.declared.session.ServeFault.{ServeFault}
use Rattle.vm_cli.specs.declared.session.ServeFault.TheVariants.{Refused}

-- the end of a session over all lines of which one was refused
abbrev pub end_refused : OnRefusal → Exit
end_refused Ignore = Done
end_refused Tell = LineRefused
end_refused Stop = LineRefused

-- the end of a session
abbrev pub end_of : OnRefusal → Result Bool ServeFault → Exit
end_of on (Ok false) = Done
end_of on (Ok true) = end_refused on
end_of on (Err Refused) = LineRefused
end_of on (Err fault) = Stopped

-- there are blocks enough for a store, and the first one is the header of one, of this format or an earlier one
pub record IsAnyStore (x : Contents) : Type 0 where
  pub least : MIN_BLOCKS ≤ length x
  pub header : IsAnyHeader (block x 0)

-- a store of this many blocks was made where there was none, and is shown
pub record HasMade (old new : DiskState) (blocks : ℕ) : Type 0 where
  pub goes : Goes ⊥ old new
  pub none : new.honest ≡ true → IsAnyStore old.now.contents → ⊥
  pub shown : new.honest ≡ true → IsFormatted blocks new.now

-- no store was made, for this reason, Device only if a call of this disk failed, and AlreadyAStore only if there is one: that stands
-- as it was, and for a bad size no call was made
pub record HasMadeNone (old new : DiskState) (blocks : ℕ) (refusal : Refusal) : Type 0 where
  pub goes : Goes (refusal ≡ Device) old new
  pub size : refusal ≡ BadSize ↔ IsBadSize blocks old.blocks
  pub untouched : refusal ≡ BadSize → NoCalls old new
  pub there : new.honest ≡ true → refusal ≡ AlreadyAStore → IsAnyStore old.now.contents
  pub stands : new.honest ≡ true → IsAnyStore old.now.contents → new.now.contents ≡ old.now.contents

-- this disk was opened as one that shows this, and came back: at each moment nothing has changed, or all is synced
pub record HasShown (old new : DiskState) (seen : Seen) : Type 0 where
  pub goes : Goes ⊥ old new
  pub shown : Shows old.now.contents seen
  pub moments : Throughout old new (IsAtMostSynced old.now)

module _ {D : Type 0} (members : Ghosts D) where
  -- the store that the disk showed was counted, and the disk came back: at each moment nothing has changed, or all is synced
  pub record HasCounted (old new : D) (alternatives checkpoints free : ℕ) : Type 0 where
    pub goes : Goes ⊥ (members.state old) (members.state new)
    pub counted : (members.state new).honest ≡ true → IsCounted members (members.state old).now.contents alternatives checkpoints free
    pub moments : (members.state new).honest ≡ true → Throughout (members.state old) (members.state new) (IsAtMostSynced (members.state old).now)

  -- the store that the disk showed was opened, the lines of an input were answered, which is the reader's own if that is known,
  -- and the disk came back as the store left it: it shows what was committed. The session is told for each state, so for that of the
  -- opening, and each part as long as the disk is honest
  pub record HasServed (on : Manner) (old new : D) (exit : Exit) (known : SessionStreams) : Type 0 where
    pub first : Store D members
    pub last : Store D members
    pub served : Result Bool ServeFault
    pub found : Goes ⊥ (members.state old) (members.state (disk_of first))
    pub goes : Grows ⊥ (members.state (disk_of first)) (members.state new)
    pub well : has_failed first ≡ false
    pub opens : (members.state (disk_of first)).honest ≡ true → OpensAs (members.state old).now.contents first
    pub serves : (s : State) → ServesBy on.grouping first last s on served known
    pub whole : (s : State) → IsWholeBy on.grouping first last s on served known (serves s)
    -- if commands are refused the disk is only read
    pub reads : on.on_command ≡ Refuse → Passes first last None
    pub ends : exit ≡ end_of on.on_refusal served
    pub given_back : new ≡ disk_of last
    pub shown : (members.state new).honest ≡ true → has_failed last ≡ false → (s : State) → Holds last s
        → Shows (members.state new).now.contents (committed_of s)
    -- so does a crash after the session
    pub left : (members.state new).honest ≡ true → has_failed last ≡ false → (s : State) → Holds last s
        → Leaves (λ x. Shows x (committed_of s)) (members.state new).now
    -- if a crash before the opening leaves something shown, one at any moment since leaves what the commands so far keep
    pub kept : (members.state new).honest ≡ true → (seen : Seen) → Leaves (λ x. Shows x seen) (members.state old).now
        → Keeps (members.state old) (members.state new) (opened seen)
        (commands_by on.grouping first last (opened seen) on served known (serves (opened seen)))
        (answers_by on.grouping first last (opened seen) on served known (serves (opened seen)))
