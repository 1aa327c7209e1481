-- What becomes of a disk while blocks of it stay in memory.
use Rattle.std.specs.Prelude.{◌≡◌, ◌<◌, ◌/◌, ℕ, List, Option, Some, None, Result, max, min}
use Rattle.vm_types.specs.declared.answer.Answer.{Answer}
use Rattle.vm_types.specs.declared.command.Command.{Command}
use Rattle.vm_types.specs.declared.refusal.Refusal.{Refusal}
use Rattle.vm_types.specs.State.{State}
use Rattle.vm_disk.specs.Cached.{IsEmptyOver, inner_of}
use Rattle.vm_disk.specs.declared.cached.CachedDisk.{CachedDisk}
use Rattle.vm_disk.specs.declared.delayed.DelayedDisk.{DelayedDisk}
use Rattle.vm_disk.specs.declared.disk.Disk.{Ghosts}
use Rattle.vm_cli.specs.program.DelayedLines.{IsRefusedLate, IsServedLate, answers_late, commands_late}
use Rattle.vm_cli.specs.session.Known.{SessionStreams}
use Rattle.vm_cli.specs.declared.program.Exit.{Exit}
use Rattle.vm_cli.specs.declared.program.opening.NoStore.{NoStore}
use Rattle.vm_cli.specs.declared.program.task.InMemory.{InMemory}
use Rattle.vm_cli.specs.declared.program.task.TheConstants.{LEAST_BUFFER, MAX_BUFFER}
use Rattle.vm_cli.specs.declared.session.Manner.{Manner}

-- how many written blocks may wait over a disk of this many blocks: as many as the words say, or a quarter of the disk's, in these limits
abbrev pub buffer_for : Option ℕ → ℕ → ℕ
buffer_for (Some buffer) blocks = buffer
buffer_for None blocks = min (max (blocks / 4) LEAST_BUFFER) MAX_BUFFER

-- the disks over which lines may be answered: a file's own, one with blocks of it in memory, one of which written blocks wait, and one
-- with both
pub record Disks (D : Type 0) : Type 1 where
  pub own : Ghosts D
  pub cached : Ghosts (CachedDisk D own)
  pub late : Ghosts (DelayedDisk D own)
  pub late_cached : Ghosts (DelayedDisk (CachedDisk D own) cached)

-- these four
abbrev pub disks : {D : Type 0} → (own : Ghosts D) → (cached : Ghosts (CachedDisk D own)) → Ghosts (DelayedDisk D own) → Ghosts (DelayedDisk (CachedDisk D own) cached) → Disks D
disks own cached late late_cached = record { own = own; cached = cached; late = late; late_cached = late_cached }

module _ {D : Type 0} (members : Ghosts D) where
  -- a cache of this many blocks was made over the old disk, this was done with the cache, and the new disk is the one below it
  pub record IsDoneOverCache (capacity : ℕ) (IsDone : CachedDisk D members → CachedDisk D members → Type 0) (old new : D) : Type 0 where
    pub first : CachedDisk D members
    pub last : CachedDisk D members
    pub some : 0 < capacity
    pub empty : IsEmptyOver old capacity first
    pub done : IsDone first last
    pub given_back : new ≡ inner_of last

module _ {D : Type 0} (members : Ghosts D) (cached : Ghosts (CachedDisk D members)) (late : Ghosts (DelayedDisk D members))
    (late_cached : Ghosts (DelayedDisk (CachedDisk D members) cached)) where
  -- lines were answered, either way with a delayed disk over that or without
  pub data IsServed (in_memory : InMemory) (on : Manner) (old new : D) (exit : Exit) (known : SessionStreams) : Type 0 where
    -- over a disk
    served_over_disk : IsServedLate members late (buffer_for in_memory.buffer (members.state old).blocks) on old new exit known
        → IsServed in_memory on old new exit known
    -- over a cache of its blocks
    served_over_cache : IsDoneOverCache members in_memory.cache
        (λ first last. IsServedLate cached late_cached (buffer_for in_memory.buffer (members.state old).blocks) on first last exit known) old new
        → IsServed in_memory on old new exit known

  -- a disk was refused, either way with a delayed disk over that or without
  pub data IsNotServed (in_memory : InMemory) (old new : D) (why : NoStore) : Type 0 where
    -- itself
    refused_over_disk : IsRefusedLate members late (buffer_for in_memory.buffer (members.state old).blocks) old new why
        → IsNotServed in_memory old new why
    -- with a cache of its blocks over it
    refused_over_cache : IsDoneOverCache members in_memory.cache
        (λ first last. IsRefusedLate cached late_cached (buffer_for in_memory.buffer (members.state old).blocks) first last why) old new
        → IsNotServed in_memory old new why

  -- the commands among these lines, if the store stood for this state at first
  abbrev pub commands_told : (in_memory : InMemory) {on : Manner} {old new : D} {exit : Exit} {known : SessionStreams}
      → IsServed in_memory on old new exit known → State → List Command
  commands_told in_memory (served_over_disk served) s = commands_late members late served s
  commands_told in_memory (served_over_cache over) s = commands_late cached late_cached over.done s

  -- the answers to them
  abbrev pub answers_told : (in_memory : InMemory) {on : Manner} {old new : D} {exit : Exit} {known : SessionStreams}
      → IsServed in_memory on old new exit known → State → List (Result Answer Refusal)
  answers_told in_memory (served_over_disk served) s = answers_late members late served s
  answers_told in_memory (served_over_cache over) s = answers_late cached late_cached over.done s
