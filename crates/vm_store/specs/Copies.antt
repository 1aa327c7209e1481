-- What a copy of a store on another disk is.
use Rattle.std.specs.Prelude.{◌≡◌, ◌⊎◌, ℕ, ◌+◌, ◌<◌, ◌≤◌, Bool, true, false, List, [], length, vec_capacity, Result, Err, IfErr, IfOk, IsOk, OnOk}
use Rattle.vm_types.specs.declared.refusal.Refusal.{Refusal}
use Rattle.vm_types.specs.declared.refusal.Refusal.TheVariants as refusal
use Rattle.vm_types.specs.declared.sizes.TheConstants.{FIRST_DATA, MAX_VERSIONS}
use Rattle.vm_types.specs.State.{Seen, State}
use Rattle.vm_types.specs.Tree.{Tree}
use Rattle.vm_disk.specs.Disk.{Contents, DiskState, Goes, IsClean, Medium, block}
use Rattle.vm_disk.specs.Moments.{Leaves, Throughout}
use Rattle.vm_alloc.specs.Held.{IsHeld, free_count}
use Rattle.vm_alloc.specs.Marks.{IsMarked}
use Rattle.vm_block.specs.Slot.{SlotFits}
use Rattle.vm_block.specs.declared.slot.Entry.{Entry}
use Rattle.vm_check.specs.TreeCopy.{AreCopied, CopiesMarked, IsUndamaged, Paired, RootCopied, WhereCopied}
use Rattle.vm_check.specs.declared.tree_copy.CopyFault.{CopyFault}
use Rattle.vm_check.specs.declared.tree_copy.CopyFault.TheVariants as of_copy
use Rattle.vm_check.specs.Renumbering.{IsUnused}
use Rattle.vm_check.specs.declared.renumbering.Renumbering.{Renumbering}
use Rattle.vm_tree.specs.Faults.{refusal_of}
use Rattle.vm_store.specs.Filed.{Anywhere, Filed, Standing, StandsAs, tree_of}
use Rattle.vm_store.specs.Layout.{WithoutHeader}
use Rattle.vm_store.specs.NewStore.{IsAnyHeader, IsBadSize}
use Rattle.vm_store.specs.Refused.{IsAtMostSynced}
use Rattle.vm_store.specs.Shown.{Shows, ShowsAtMost}
use Rattle.vm_store.specs.Store.{Holds, IsHonest, blocks_of, free_of, has_failed, reads_of}
use Rattle.vm_store.specs.Versions.{slot_entries}
use Rattle.vm_store.specs.declared.store.Store.{Store}
use Rattle.vm_store.specs.declared.store.copies.Room.{Room}
use Rattle.vm_store.specs.declared.version.Version.{Version}

-- the same version, except that its roots are the copies of the roots
pub record VersionCopied (numbers : Renumbering) (v copy : Version) : Type 0 where
  pub kind : copy.kind ≡ v.kind
  pub name : copy.name ≡ v.name
  pub owner : copy.owner ≡ v.owner
  pub current : RootCopied numbers v.current copy.current
  pub base : RootCopied numbers v.base copy.base

-- what was copied stands there after it, and the version's copy is answered
abbrev pub CopiesVersion : Result Version CopyFault → ℕ → Version → DiskState → DiskState → Renumbering → DiskState → DiskState → Renumbering → Type 0
CopiesVersion result limit v s t old s' t' new =
    WhereCopied limit s t old s' t' (IfOk result (λ copy. AreCopied s.now.contents t'.now.contents limit new × VersionCopied new v copy))

-- what was copied stands there after it, and these are the copies of all versions
abbrev pub CopiesVersions : {T : Type 0} → Result T CopyFault → ℕ → List Version → List Version → DiskState → DiskState → Renumbering → DiskState → DiskState → Renumbering → Type 0
CopiesVersions result limit vs copies s t old s' t' new =
    WhereCopied limit s t old s' t' (OnOk result (AreCopied s.now.contents t'.now.contents limit new × Paired (VersionCopied new) vs copies))

-- # When no damage is found, if the source is honest after it

-- under both roots of the version lie maps
abbrev pub SoundVersionCopy : {T : Type 0} → Result T CopyFault → ℕ → Version → DiskState → DiskState → Type 0
SoundVersionCopy result kept v s s' = s'.honest ≡ true → (f : Filed) → StandsAs Anywhere s.now.contents kept v f → IsUndamaged result

-- under the roots of all versions do
abbrev pub SoundVersionsCopy : {T : Type 0} → Result T CopyFault → ℕ → List Version → DiskState → DiskState → Type 0
SoundVersionsCopy result kept vs s s' = s'.honest ≡ true → (fs : List Filed) → Standing Anywhere s.now.contents kept vs fs → IsUndamaged result

-- # Which blocks are copied, whatever the answer, if the source is honest after it

-- under both roots of the version lie maps in marked blocks
abbrev pub ReachedVersionCopy : {T : Type 0} → Result T CopyFault → ℕ → Version → DiskState → Renumbering → DiskState → Renumbering → Type 0
ReachedVersionCopy result kept v s old s' new =
    s'.honest ≡ true → (marks : List Bool) (f : Filed) → StandsAs (IsMarked marks) s.now.contents kept v f → CopiesMarked (result ≡ Err of_copy.Full) marks old new

-- under the roots of all versions do
abbrev pub ReachedVersionsCopy : {T : Type 0} → Result T CopyFault → ℕ → List Version → DiskState → Renumbering → DiskState → Renumbering → Type 0
ReachedVersionsCopy result kept vs s old s' new =
    s'.honest ≡ true → (marks : List Bool) (fs : List Filed) → Standing (IsMarked marks) s.now.contents kept vs fs → CopiesMarked (result ≡ Err of_copy.Full) marks old new

-- # The entries of a copy

-- room for the versions of a copy and for its entries, and the numbers of the copies of this many blocks, none of which was copied
pub record IsRoom (kept : ℕ) (room : Room) : Type 0 where
  pub none : room.versions.items ≡ []
  pub versions : MAX_VERSIONS ≤ vec_capacity room.versions
  pub entries : MAX_VERSIONS ≤ vec_capacity room.entries
  pub numbers : IsUnused kept room.numbers

-- these are the entries of the copies of the versions
pub record EntriesCopied (x y : Contents) (limit : ℕ) (numbers : Renumbering) (vs : List Version) (es : List Entry) : Type 0 where
  pub copies : List Version
  pub named : slot_entries copies ≡ es
  pub copied : AreCopied x y limit numbers
  pub each : Paired (VersionCopied numbers) vs copies

-- the versions are copied, and these are the entries of the copies
abbrev pub CopiesEntries : {T : Type 0} → Result T CopyFault → ℕ → List Version → List Entry → DiskState → DiskState → Renumbering → DiskState → DiskState → Renumbering → Type 0
CopiesEntries result limit vs es s t old s' t' new =
    WhereCopied limit s t old s' t' (OnOk result (EntriesCopied s.now.contents t'.now.contents limit new vs es))

-- # What a copy does

-- the refusal for a fault
abbrev pub refusal_of_copy : CopyFault → Refusal
refusal_of_copy (of_copy.Source fault) = refusal_of fault
refusal_of_copy of_copy.Target = refusal.Device
refusal_of_copy of_copy.Full = refusal.Full

-- what it does to the source and the target, on any disks, where `fails` says that one of them failed in it
pub record GoesOnBoth (fails : Type 0) (s t s' t' : DiskState) : Type 0 where
  pub source : Goes ⊥ s s'
  pub target : Goes ⊥ t t'
  pub fault : fails → s.failures + t.failures < s'.failures + t'.failures

-- a store of this many blocks may have these versions, and under their roots lie the maps of this tree
pub record HasVersions (tree : Tree) (kept : ℕ) (vs : List Version) (x : Contents) : Type 0 where
  pub filed : List Filed
  pub fits : SlotFits kept (slot_entries vs)
  pub stands : Standing Anywhere x kept vs filed
  pub gives : tree_of filed ≡ tree

-- a device failed, or the target is too small
abbrev pub IsOfTarget : Refusal → Type 0
IsOfTarget r = (r ≡ refusal.Device) ⊎ (r ≡ refusal.Full)

-- or a block of the source is damaged
abbrev pub IsOfFill : Refusal → Type 0
IsOfFill r = IsOfTarget r ⊎ ((b : ℕ) × (r ≡ refusal.Damaged b))

-- the first 34 blocks are held, and all blocks under the roots of the versions
pub record HoldsVersions (held : List Bool) (kept : ℕ) (vs : List Version) (x : Contents) : Type 0 where
  pub first : (n : ℕ) → n < FIRST_DATA → IsHeld held n
  pub filed : List Filed
  pub stands : Standing (IsHeld held) x kept vs filed

-- if it is refused for want of blocks, it has fewer than are held; if it was done, no more blocks were read than are held for data
pub record FillsFrom (held : List Bool) (full done : Type 0) (s s' : DiskState) (blocks : ℕ) : Type 0 where
  pub lacks : full → blocks + free_count held < length held
  pub reads : done → s'.reads + FIRST_DATA + free_count held ≤ s.reads + length held

-- the same with this result, if the source is honest after it and the versions stand in held blocks
abbrev pub FillsFromHeld : {T : Type 0} → Result T Refusal → DiskState → DiskState → ℕ → List Version → ℕ → Type 0
FillsFromHeld result s s' kept vs blocks =
    s'.honest ≡ true → (held : List Bool) → HoldsVersions held kept vs s.now.contents → FillsFrom held (result ≡ Err refusal.Full) (IsOk result) s s' blocks

-- this is shown, and all is synced
pub record IsCopy (seen : Seen) (m : Medium) : Type 0 where
  pub shown : Shows m.contents seen
  pub clean : IsClean m

-- from these versions of a store of this many blocks to one of that many on the target, if both disks are honest after it
module _ (s t s' t' : DiskState) (kept : ℕ) (vs : List Version) (blocks : ℕ) where
  -- Q holds of each tree whose maps lie under the roots of the versions
  abbrev pub OfEach : (Tree → Type 0) → Type 0
  OfEach Q = s'.honest ≡ true → (tree : Tree) → HasVersions tree kept vs s.now.contents → Q tree

  -- a crash of the target at any moment shows at most a copy, if there was no header
  abbrev pub FillsAtMost : Type 0
  FillsAtMost = OfEach (λ tree. WithoutHeader t t' (Leaves (ShowsAtMost (record { tree = tree; blocks = blocks }))))

  -- and it is shown, if it was done
  abbrev pub Fills : {T E : Type 0} → Result T E → Type 0
  Fills result = OfEach (λ tree. t'.honest ≡ true → OnOk result (IsCopy (record { tree = tree; blocks = blocks }) t'.now))

  -- it is refused for a device that failed or a target that is too small, and for nothing else
  abbrev pub FillsSoundly : {T : Type 0} → Result T Refusal → Type 0
  FillsSoundly result = OfEach (λ tree. IfErr result IsOfTarget)

-- nothing has changed except that it may be synced; or there was no header, and a crash shows at most this
abbrev pub IsCopying : Seen → Medium → Medium → Type 0
IsCopying seen old m = IsAtMostSynced old m ⊎ ((IsAnyHeader (block old.contents 0) → ⊥) × Leaves (ShowsAtMost seen) m)

-- the refusals of a copy of a store that stands for a state
abbrev pub IsOfCopy : Refusal → Type 0
IsOfCopy r = (r ≡ refusal.Failed) ⊎ ((r ≡ refusal.BadSize) ⊎ ((r ≡ refusal.Memory) ⊎ ((r ≡ refusal.AlreadyAStore) ⊎ IsOfTarget r)))

-- the refusals that come before a call of either disk
abbrev pub ComesBefore : Refusal → Type 0
ComesBefore r = (r ≡ refusal.Failed) ⊎ ((r ≡ refusal.BadSize) ⊎ (r ≡ refusal.Memory))

-- what is committed, in this many blocks
abbrev pub in_blocks : State → ℕ → Seen
in_blocks s blocks = record { tree = s.committed; blocks = blocks }

module _ {D : Type 0} {members : _} where
  -- fewer blocks than the store holds
  abbrev pub LacksBlocks : Store D members → ℕ → Type 0
  LacksBlocks store blocks = blocks + free_of store < blocks_of store

  -- Q holds of each state that the store stood for, if its disk is honest after the call
  abbrev pub OfState : (old new : Store D members) → (State → Type 0) → Type 0
  OfState old new Q = IsHonest new → (s : State) → Holds old s → Q s

  -- a crash of the target at any moment shows what it did before, or had no header and shows at most what the store has committed
  abbrev pub CopiesAtMost : (old new : Store D members) → DiskState → DiskState → ℕ → Type 0
  CopiesAtMost old new t t' blocks = OfState old new (λ s. t'.honest ≡ true → Throughout t t' (IsCopying (in_blocks s blocks) t.now))

  -- it shows exactly what the store has committed, in this many blocks, and all is synced, if it was done
  abbrev pub Copies : {T E : Type 0} → Result T E → (old new : Store D members) → DiskState → ℕ → Type 0
  Copies result old new t' blocks = OfState old new (λ s. t'.honest ≡ true → OnOk result (IsCopy (in_blocks s blocks) t'.now))

  -- if it was done, it made no more reads than the source holds blocks for data
  abbrev pub ReadsHeld : {T E : Type 0} → Result T E → (old new : Store D members) → Type 0
  ReadsHeld result old new = OfState old new (λ s. OnOk result (reads_of new + FIRST_DATA + free_of old ≤ reads_of old + blocks_of old))

  -- it made no more reads of the source than the copy has blocks for data, if it was done
  abbrev pub ReadsFew : {T E : Type 0} → Result T E → (old new : Store D members) → DiskState → ℕ → Type 0
  ReadsFew result old new t' blocks = IsHonest new → t'.honest ≡ true → OnOk result (reads_of new + FIRST_DATA ≤ reads_of old + blocks)

  -- why it is refused before a call of either disk
  abbrev pub IsRefusedFirst : Store D members → ℕ → ℕ → Refusal → Type 0
  IsRefusedFirst store blocks available refusal.Failed = has_failed store ≡ true
  IsRefusedFirst store blocks available refusal.BadSize = (has_failed store ≡ false) × IsBadSize blocks available
  IsRefusedFirst store blocks available refusal.Memory = (has_failed store ≡ false) × (IsBadSize blocks available → ⊥)
  IsRefusedFirst store blocks available refusal.Full = (has_failed store ≡ false) × ((IsBadSize blocks available → ⊥) × LacksBlocks store blocks)
  IsRefusedFirst store blocks available other = ⊥
