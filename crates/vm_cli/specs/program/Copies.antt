-- What becomes of a store that is copied to a new file, and of that file.
use Rattle.std.specs.Prelude.{◌≡◌, ◌≢◌, ◌⊎◌, ℕ, ◌+◌, ◌-◌, ◌<◌, ◌≤◌, true, [], Option, Some, None, IfErr, IfOk, Result, codes}
use Rattle.clap.specs.Words.{Text}
use Rattle.vm_types.specs.declared.refusal.Refusal.{Refusal}
use Rattle.vm_types.specs.declared.refusal.Refusal.TheVariants.{AlreadyAStore, BadSize, Device, Full, Memory}
use Rattle.vm_types.specs.State.{Seen}
use Rattle.vm_disk.specs.Disk.{Contents, DiskState}
use Rattle.vm_disk.specs.Moments.{Throughout}
use Rattle.vm_disk.specs.declared.disk.Disk.{Ghosts}
use Rattle.vm_store.specs.Copies.{IsCopy, IsCopying, in_blocks}
use Rattle.vm_store.specs.NewStore.{IsBadSize}
use Rattle.vm_store.specs.Recovery.{OpensWhole}
use Rattle.vm_store.specs.Rest.{spare_of}
use Rattle.vm_store.specs.Store.{FromState, blocks_of, disk_of, free_of}
use Rattle.vm_store.specs.declared.store.Store.{Store}
use Rattle.vm_cli.specs.program.Exits.{Report, Tells, copied_text, file_text, no_store_text, part_of, refused_text}
use Rattle.vm_cli.specs.session.Known.{Written}
use Rattle.vm_cli.specs.program.Places.{Denies, IsHonestAfter, IsNew, IsUnused, KeepsBut, KeepsFile, KeepsOthers, OpensNone, OpensOne, PlaceState, PlaceUse, state_after, state_before}
use Rattle.vm_cli.specs.program.Openings.{HasRefused}
use Rattle.vm_cli.specs.program.DiskUses.{HasShown, IsAnyStore}
use Rattle.vm_cli.specs.declared.program.Exit.{Exit}
use Rattle.vm_cli.specs.declared.program.Exit.TheVariants.{Done, Refused, Stopped}
use Rattle.vm_cli.specs.declared.program.opening.NoStore.{NoStore}
use Rattle.vm_cli.specs.declared.program.store_copy.Size.{Size}

-- how many blocks a copy has: as many as were asked for, or as many as the store
abbrev pub blocks_for : Option ℕ → ℕ → ℕ
blocks_for (Some blocks) held = blocks
blocks_for None held = held

-- what a copy of this shows
abbrev pub copy_of : Seen → Option ℕ → Seen
copy_of seen asked = record { tree = seen.tree; blocks = blocks_for asked seen.blocks }

module _ {D : Type 0} {members : _} where
  -- how many blocks are in use, the store's own among them
  abbrev pub used_of : Store D members → ℕ
  used_of store = blocks_of store - free_of store

  -- the size of a copy of the store, which has as many blocks as are in use
  pub record HasSize (asked : Option ℕ) (store : Store D members) (size : Size) : Type 0 where
    pub blocks_are : size.blocks ≡ blocks_for asked (blocks_of store)
    pub used_are : size.used ≡ used_of store
    pub enough : used_of store ≤ size.blocks

  -- a copy of the store would have fewer, and is refused
  pub record IsTooSmall (asked : Option ℕ) (store : Store D members) (refusal : Refusal) : Type 0 where
    pub full : refusal ≡ Full
    pub few : blocks_for asked (blocks_of store) < used_of store

  -- one or the other
  abbrev pub Sizes : Result Size Refusal → Option ℕ → Store D members → Type 0
  Sizes result asked store = IfOk result (HasSize asked store) × IfErr result (IsTooSmall asked store)

module _ {D : Type 0} (members : Ghosts D) where
  -- these contents show this, and `used` of its blocks are in use: all but the spare ones
  pub record IsInUse (x : Contents) (seen : Seen) (used : ℕ) : Type 0 where
    pub store : Store D members
    pub over : (members.state (disk_of store)).now.contents ≡ x
    pub opens : OpensWhole x store
    pub shows : opens.seen ≡ seen
    pub used_are : used ≡ seen.blocks - spare_of opens.stands.holds.rests

-- a disk before and after
pub record DiskUse : Type 0 where
  pub old : DiskState
  pub new : DiskState

abbrev pub disk_use : DiskState → DiskState → DiskUse
disk_use old new = record { old = old; new = new }

-- a copy that is to be made of a store
pub record CopyJob : Type 0 where
  -- the name that its file is to have
  pub to : Text
  -- what it is to show
  pub seen : Seen
  -- how many of its blocks are to be in use
  pub used : ℕ
  -- the disk of the store
  pub source : DiskUse

abbrev pub copy_job : Text → Seen → ℕ → DiskUse → CopyJob
copy_job to seen used source = record { to = to; seen = seen; used = used; source = source }

-- why a copy of this many blocks is refused on its disk: for want of memory, or since the disk has fewer, and no call was made of it; or it
-- has a store
abbrev pub RefusesCopy : ℕ → DiskUse → Refusal → Type 0
RefusesCopy blocks target Memory = target.new ≡ target.old
RefusesCopy blocks target BadSize = IsBadSize blocks target.old.blocks × (target.new ≡ target.old)
RefusesCopy blocks target AlreadyAStore = IsAnyStore target.old.now.contents
RefusesCopy blocks target refusal = ⊥

-- the disk that came back last as the file of this name was in this state, and the file holds what it held
pub record IsNamed (name : Text) (s : DiskState) (place : PlaceState) : Type 0 where
  pub holds : place.files name ≡ Some s.now.contents
  pub came : place.came name ≡ Some s

-- what is told if nothing was copied to a disk, for this reason
pub data ToldOfDrop (refusal : Refusal) (exit : Exit) (errors : Written) : Type 0 where
  -- a device failed: the program stops
  stops : refusal ≡ Device → exit ≡ Stopped → ToldOfDrop refusal exit errors
  -- any other reason: it is told
  tells_refusal : refusal ≢ Device → Tells Refused exit errors (refused_text refusal) → ToldOfDrop refusal exit errors

module _ {P : Type 0} (place : PlaceUse P) where
  -- a disk came back under the one name, and none did later: its file is there under it, or has it no more. All files but those of these two
  -- names are as they were
  pub record ComesBack (part to : Text) (given : DiskState) : Type 0 where
    pub honest : given.honest ≡ true
    pub came : (state_after place).came part ≡ Some given
    pub left : ((state_after place).files part ≡ None) ⊎ ((state_after place).files part ≡ Some given.now.contents)
    pub others : KeepsBut part to (state_before place) (state_after place)

  -- what is told if a copy of this size came back, and its file was to get this name
  pub data ToldOfName (to : Text) (size : Size) (given : DiskState) (report : Report) : Type 0 where
    -- no file had the name, and now the copy's file has it: that it was copied
    name_given : (state_before place).files to ≡ None → IsNamed to given (state_after place)
        → Tells Done report.exit report.output (copied_text size.blocks size.used) → ToldOfName to size given report
    -- the place denied the name, and its file is as it was: that it cannot be created
    name_denied : KeepsFile place to → Denies place to
        → Tells Refused report.exit report.errors (file_text (codes "altctl: cannot create ") to) → ToldOfName to size given report

  -- a copy of this size came back under the one name, and its file was to get the other
  pub record NamesCopy (part to : Text) (size : Size) (given : DiskState) (report : Report) : Type 0 where
    pub back : ComesBack part to given
    pub told : ToldOfName to size given report

  -- a disk to which nothing was copied, for this reason, came back under a name
  pub record DropsCopy (part : Text) (given : DiskState) (refusal : Refusal) (exit : Exit) (errors : Written) : Type 0 where
    pub honest : given.honest ≡ true
    pub came : (state_after place).came part ≡ Some given
    pub left : ((state_after place).files part ≡ None) ⊎ ((state_after place).files part ≡ Some given.now.contents)
    pub others : KeepsOthers part (state_before place) (state_after place)
    pub told : ToldOfDrop refusal exit errors

-- a copy was to be made at a place, and this was told
module _ {P : Type 0} (copy : CopyJob) (place : PlaceUse P) (report : Report) where
  -- what became of the name, and what is told, if the store was to be copied to this disk
  pub data ToldOfCopy (target : DiskUse) : Type 0 where
    -- no file had the name, the store was copied, and the copy's file has the name: it is told that it was copied
    copied : IsCopy copy.seen target.new.now → (state_before place).files copy.to ≡ None → IsNamed copy.to target.new (state_after place)
        → Tells Done report.exit report.output (copied_text copy.seen.blocks copy.used) → ToldOfCopy target
    -- the store was copied, but the place denied the name, whose file is as it was: it is told that it cannot be created
    unnamed : KeepsFile place copy.to → IsCopy copy.seen target.new.now → Denies place copy.to
        → Tells Refused report.exit report.errors (file_text (codes "altctl: cannot create ") copy.to) → ToldOfCopy target
    -- the store was not copied, for a reason that is told, and a file of the name is as it was
    refused : KeepsFile place copy.to → (refusal : Refusal) → RefusesCopy copy.seen.blocks target refusal
        → Tells Refused report.exit report.errors (refused_text refusal) → ToldOfCopy target
    -- a call of one of the two disks failed: the program stops, and a file of the name is as it was
    failed : KeepsFile place copy.to → report.exit ≡ Stopped
        → copy.source.old.failures + target.old.failures < copy.source.new.failures + target.new.failures → ToldOfCopy target

  -- the store was to be copied to the disk that was made under the name `part`: it came back under that, and at each moment until then it
  -- was as it was made, at most synced, or it was no store and a crash shows at most the copy
  pub record CopiesOnto (part : Text) (start : DiskState) : Type 0 where
    pub end : DiskState
    pub was : start.honest ≡ true
    pub back : ComesBack place part copy.to end
    pub moments : Throughout start end (IsCopying copy.seen start.now)
    pub told : ToldOfCopy (disk_use start end)

  -- a disk was made, of as many blocks as the copy has, of which the first is zero, under the name with `.part` after it, the store was
  -- copied to it, and it came back under that name. Only then, and only if it is the copy, the file got the name that was asked for: until
  -- then no disk had that
  pub record LaysCopy : Type 0 where
    pub start : DiskState
    pub size : start.blocks ≡ copy.seen.blocks
    pub blank : IsNew copy.seen.blocks start.now.contents
    pub fresh : start.past ≡ []
    pub copies : CopiesOnto (part_of copy.to) start

  -- what files were asked for, and what is told
  pub data ToldOfJob : Type 0 where
    -- the copy has fewer blocks than are to be in use: no file was asked for, and it is told that it is too small
    too_small : OpensNone place → copy.seen.blocks < copy.used → KeepsFile place copy.to
        → Tells Refused report.exit report.errors (refused_text Full) → ToldOfJob
    -- there is no memory for the name with `.part`: no file was asked for
    no_memory : OpensNone place → copy.used ≤ copy.seen.blocks → KeepsFile place copy.to
        → Tells Refused report.exit report.errors (refused_text Memory) → ToldOfJob
    -- the place denied the name: no file was asked for, and it is told that the name cannot be created
    denied : OpensNone place → copy.used ≤ copy.seen.blocks → KeepsFile place copy.to → Denies place copy.to
        → Tells Refused report.exit report.errors (file_text (codes "altctl: cannot create ") copy.to) → ToldOfJob
    -- exactly one file was asked for, under the name with `.part`, and the place gave none: it is told that this name cannot be created
    unmade : OpensOne place → copy.used ≤ copy.seen.blocks → KeepsFile place copy.to → Denies place (part_of copy.to)
        → Tells Refused report.exit report.errors (file_text (codes "altctl: cannot create ") (part_of copy.to)) → ToldOfJob
    -- exactly one file was asked for, there was none of either name, and it was made
    made : OpensOne place → copy.used ≤ copy.seen.blocks → (state_before place).files copy.to ≡ None
        → (state_before place).files (part_of copy.to) ≡ None → LaysCopy → ToldOfJob

  -- a file was asked for with the copy
  pub record MakesCopy : Type 0 where
    pub told : ToldOfJob
    -- a file of that name or of the other that was there is as it was
    pub stays : (contents : Contents) → (state_before place).files copy.to ≡ Some contents → (state_after place).files copy.to ≡ Some contents
    pub part_stays : (contents : Contents) → (state_before place).files (part_of copy.to) ≡ Some contents
        → (state_after place).files (part_of copy.to) ≡ Some contents
    pub others : KeepsBut (part_of copy.to) copy.to (state_before place) (state_after place)

module _ {D : Type 0} {members : _} where
  -- a copy of a store, as it was before and after, that is to have this name, show this, and have `used` blocks in use
  abbrev pub job_over : (old new : Store D members) → Text → Seen → ℕ → CopyJob
  job_over old new to seen used = copy_job to seen used (disk_use (members.state (disk_of old)) (members.state (disk_of new)))

-- each at a place that is honest after it
module _ {P D : Type 0} {members : _} (place : PlaceUse P) (report : Report) where
  -- a store was copied to a disk in this state, of a file of the one name that is to have the other: the disk has as many blocks as are in use
  abbrev pub CopiesTo : (part to : Text) → (old new : Store D members) → Size → DiskState → Type 0
  CopiesTo part to old new size start =
      used_of old ≤ size.blocks → part ≢ to → IsHonestAfter place
      → FromState old new (λ s. CopiesOnto (job_over old new to (in_blocks s size.blocks) size.used) place report part start)

  -- a file was asked for with a copy of a store
  abbrev pub CopiesIn : Text → Option ℕ → (old new : Store D members) → Type 0
  CopiesIn to asked old new =
      IsHonestAfter place
      → FromState old new (λ s. MakesCopy (job_over old new to (in_blocks s (blocks_for asked s.blocks)) (used_of old)) place report)

module _ {P D : Type 0} (disk_state : D → DiskState) (place : PlaceUse P) where
  -- a disk with a copy came back
  abbrev pub NamesIn : D → Size → (part to : Text) → Report → Type 0
  NamesIn disk size part to report = part ≢ to → IsHonestAfter place → NamesCopy place part to size (disk_state disk) report

  -- a disk to which nothing was copied came back
  abbrev pub DropsIn : D → Text → Refusal → Exit → Written → Type 0
  DropsIn disk part refusal exit errors = IsHonestAfter place → DropsCopy place part (disk_state disk) refusal exit errors

module _ {P D : Type 0} (own : Ghosts D) (place : PlaceUse P) (report : Report) where
  -- a disk was opened, and came back
  pub data TakesCopy (found back : D) (name : Text) (asked : Option ℕ) : Type 0 where
    -- a file was asked for with a copy of the store that it showed
    makes : (seen : Seen) (used : ℕ) → HasShown (own.state found) (own.state back) seen → IsInUse own (own.state found).now.contents seen used
        → MakesCopy (copy_job name (copy_of seen asked) used (disk_use (own.state found) (own.state back))) place report
        → TakesCopy found back name asked
    -- it was refused, it is told why, and no call of the place was made
    refuses : (why : NoStore) → HasRefused (own.state found) (own.state back) why → IsUnused place
        → Tells Refused report.exit report.errors (no_store_text why) → TakesCopy found back name asked

  -- the same if both it and the place are honest after it
  abbrev pub TakesCopyIn : (found back : D) → Text → Option ℕ → Type 0
  TakesCopyIn found back name asked = IsHonestAfter place → (own.state back).honest ≡ true → TakesCopy found back name asked
