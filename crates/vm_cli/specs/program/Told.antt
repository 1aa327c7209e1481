-- What is told of what became of a disk.
use Rattle.std.specs.Prelude.{◌⊎◌, ℕ, Bool, List, Option}
use Rattle.vm_types.specs.State.{Seen}
use Rattle.vm_types.specs.declared.refusal.Refusal.{Refusal}
use Rattle.vm_disk.specs.Disk.{DiskState}
use Rattle.vm_disk.specs.Moments.{Throughout}
use Rattle.vm_disk.specs.declared.delayed.DelayedDisk.{DelayedDisk}
use Rattle.vm_disk.specs.declared.disk.Disk.{Ghosts}
use Rattle.vm_store.specs.NewStore.{IsFormatting, IsOfFormat}
use Rattle.vm_cli.specs.program.DelayedLines.{IsRefusedLate, IsServedLate}
use Rattle.vm_cli.specs.program.Branches.{tree_text}
use Rattle.vm_cli.specs.program.Exits.{Tells, check_text, created_text, no_store_text, refused_text, survey_text}
use Rattle.vm_cli.specs.session.Known.{IsUntouched, SessionStreams, Writers, Written, written}
use Rattle.vm_cli.specs.program.Openings.{HasRefused, NamesAll}
use Rattle.vm_cli.specs.program.DiskUses.{HasCounted, HasMade, HasMadeNone, HasServed, HasShown}
use Rattle.vm_cli.specs.declared.program.Exit.{Exit}
use Rattle.vm_cli.specs.declared.program.opening.NoStore.{NoStore}
use Rattle.vm_cli.specs.declared.program.Exit.TheVariants.{Done, Refused}
use Rattle.vm_cli.specs.declared.session.Manner.{Manner}

-- at each moment nothing has changed, or all is synced; or there was no store, and a crash shows at most the new one
abbrev pub FormatsOnly : ℕ → DiskState → DiskState → Type 0
FormatsOnly blocks old new = Throughout old new (IsFormatting blocks old.now)

-- the job was to make a store of this many blocks on a disk, which came back in this state: what is told with this end
module _ {W F : Type 0} (blocks : ℕ) (old new : DiskState) (exit : Exit) (to : Writers W F) where
  -- it was made, the output is told so, and nothing was said to the errors
  pub record TellsMade : Type 0 where
    pub quiet : IsUntouched to.errors
    pub made : HasMade old new blocks
    pub told : Tells Done exit (written to.output) (created_text blocks)

  -- it was not, the errors are told why, and the output is as it was
  pub record TellsMadeNone : Type 0 where
    pub empty : IsUntouched to.output
    pub refusal : Refusal
    pub of_format : IsOfFormat refusal
    pub none : HasMadeNone old new blocks refusal
    pub told : Tells Refused exit (written to.errors) (refused_text refusal)

  -- one or the other
  abbrev pub MakesStore : Type 0
  MakesStore = TellsMade ⊎ TellsMadeNone

-- a disk was opened, and came back with this end: what is told
module _ {D : Type 0} (members : Ghosts D) (old : D) (result : Exit × D) (to : Written) where
  -- what the store that it showed holds
  pub record TellsCount : Type 0 where
    pub alternatives : ℕ
    pub checkpoints : ℕ
    pub free : ℕ
    pub counted : HasCounted members old result.1 alternatives checkpoints free
    pub told : Tells Done result.0 to (check_text alternatives checkpoints free)

  -- the tree that it showed
  pub record TellsTree : Type 0 where
    pub seen : Seen
    pub shown : HasShown (members.state old) (members.state result.1) seen
    pub told : Tells Done result.0 to (tree_text seen.tree)

  -- why it was refused
  pub record TellsRefusal : Type 0 where
    pub why : NoStore
    pub refused : HasRefused (members.state old) (members.state result.1) why
    pub told : Tells Refused result.0 to (no_store_text why)

  -- the same, and which blocks are damaged
  pub record TellsDamage : Type 0 where
    pub why : NoStore
    pub damaged : Option (List Bool)
    pub refused : HasRefused (members.state old) (members.state result.1) why
    pub names : NamesAll (members.state old) (members.state result.1) why damaged
    pub told : Tells Refused result.0 to (survey_text why damaged)

-- lines were answered over a disk, which came back with this end
module _ {D : Type 0} (members : Ghosts D) where
  -- over the disk itself
  abbrev pub AnswersOver : Manner → D → Exit × D → SessionStreams → Type 0
  AnswersOver on old result known = HasServed members on old result.1 result.0 known

  -- over it, or over a delayed disk over it
  abbrev pub AnswersLate : Ghosts (DelayedDisk D members) → ℕ → Manner → D → Exit × D → SessionStreams → Type 0
  AnswersLate late buffer on old result known = IsServedLate members late buffer on old result.1 result.0 known

  -- the disk was refused, itself or with a delayed disk over it, and it is told why
  pub record TellsRefusalLate (late : Ghosts (DelayedDisk D members)) (buffer : ℕ) (old : D) (result : Exit × D) (to : Written) : Type 0 where
    pub why : NoStore
    pub refused : IsRefusedLate members late buffer old result.1 why
    pub told : Tells Refused result.0 to (no_store_text why)
