-- A store, and the state that it stands for.
use Rattle.std.specs.Prelude.{◌≡◌, ◌≢◌, ℕ, ◌+◌, ◌-◌, ◌<◌, ◌≤◌, ◌⊎◌, Bool, true, false, List, Option, None, find, take, Result, Ok, Err, IfErr, IsOk, OnOk}
use Rattle.vm_types.specs.declared.answer.Answer.{Answer}
use Rattle.vm_types.specs.declared.answer.Answer.TheVariants.{Done}
use Rattle.vm_types.specs.declared.command.Command.{Command}
use Rattle.vm_types.specs.declared.command.Command.TheVariants.{Commit, Grow, Merge, Post, Put, Reclaim, Remove}
use Rattle.vm_types.specs.declared.command.Side.{Side}
use Rattle.vm_types.specs.declared.key.Key.{Key}
use Rattle.vm_types.specs.declared.refusal.Refusal.{Refusal}
use Rattle.vm_types.specs.declared.refusal.Refusal.TheVariants.{Device, Failed, Full, Memory}
use Rattle.vm_types.specs.Kept.{LeftBy}
use Rattle.vm_types.specs.State.{Seen, State, blocks_a_change, changes_made, committed_of, merge_changes, next, outcome, start_of}
use Rattle.vm_disk.specs.Disk.{Goes}
use Rattle.vm_disk.specs.Moments.{Leaves, OnlyReads, Throughout}
use Rattle.vm_alloc.specs.Held.{free_count}
use Rattle.vm_block.specs.Selector.{other_slot}
use Rattle.vm_catalog.specs.Written.{TouchesBoth, WritesBoth}
use Rattle.vm_tree.specs.Unsynced.{NeverSyncs}
use Rattle.vm_store.specs.Answers.{ComesAfterMarking, ComesFirst, HasMarked, IsAnswer, IsDeep, IsEarly, IsGrowDue, IsMergeAnswer, MakesNoChange, TakesForChanges, most_taken}
use Rattle.vm_store.specs.ChangeList.{MeetsFullPath}
use Rattle.vm_store.specs.Growth.{Grows}
use Rattle.vm_store.specs.Guarded.{IsGuarded}
use Rattle.vm_store.specs.Rest.{PartsStandFor, spare_of}
use Rattle.vm_store.specs.Roots.{current_root}
use Rattle.vm_store.specs.Shared.{unshared_on_sides, unshared_with_parent}
use Rattle.vm_store.specs.Shown.{Shows}
use Rattle.vm_store.specs.Versions.{is_alternative_of, slot_entries}
use Rattle.vm_store.specs.declared.store.Store.{Store}
use Rattle.vm_store.specs.declared.version.Version.{Version}

module _ {D : Type 0} {members : _} where
  -- the disk below
  abbrev pub disk_of : Store D members → D
  disk_of store = store.disk

  -- an earlier command was answered by Device
  abbrev pub has_failed : Store D members → Bool
  has_failed store = store.failed

  -- the entries, committed and working, with the tops of their trees
  abbrev pub entries_of : Store D members → List Version × List Version
  entries_of store = (store.parts.committed, store.parts.working)

  -- the alternative in which a series of changes goes on, if one does
  abbrev pub series_of : Store D members → Option (List ℕ)
  series_of store = store.parts.series

  -- the block of the root of the working records of an alternative
  abbrev pub root_of : Store D members → List ℕ → ℕ
  root_of store alt = current_root (find (is_alternative_of alt) store.parts.working)

  -- the store is as before: its size, entries, held blocks, marks and series, and whether it has failed; of its disk nothing is said
  pub record IsSameButDisk (old new : Store D members) : Type 0 where
    pub alloc : new.alloc ≡ old.alloc
    pub parts : new.parts ≡ old.parts
    pub failed : new.failed ≡ old.failed

  -- the disk has kept the rules of a disk in every call so far
  abbrev pub IsHonest : Store D members → Type 0
  IsHonest store = (members.state (disk_of store)).honest ≡ true

  -- what a call of the store does to its disk, on any disk, where `fails` says that the device failed in it; it may give it more blocks
  abbrev pub GrowsOn : Type 0 → (old new : Store D members) → Type 0
  GrowsOn fails old new = Grows fails (members.state (disk_of old)) (members.state (disk_of new))

  -- the same of a call that leaves the number of its blocks
  abbrev pub GoesOn : Type 0 → (old new : Store D members) → Type 0
  GoesOn fails old new = Goes fails (members.state (disk_of old)) (members.state (disk_of new))

  -- at each moment of the call the disk held what it held before
  abbrev pub ReadsAlone : (old new : Store D members) → Type 0
  ReadsAlone old new = OnlyReads (members.state (disk_of old)) (members.state (disk_of new))

  -- how many reads were asked of the disk
  abbrev pub reads_of : Store D members → ℕ
  reads_of store = (members.state (disk_of store)).reads

  -- a refusal that comes before blocks are marked, taken or written leaves all but the disk as it was
  abbrev pub EarlyKeeps : Result Answer Refusal → (old new : Store D members) → Type 0
  EarlyKeeps answer old new = IfErr answer (λ refusal. IsEarly refusal → IsSameButDisk old new)

  -- which blocks are held
  abbrev pub held_of : Store D members → List Bool
  held_of store = store.parts.held

  -- how many blocks it has
  abbrev pub blocks_of : Store D members → ℕ
  blocks_of store = store.parts.blocks

  -- how many of them were committed
  abbrev pub kept_of : Store D members → ℕ
  kept_of store = store.parts.kept

  -- how many blocks are not held
  abbrev pub free_of : Store D members → ℕ
  free_of store = free_count store.parts.held

  -- the store stands for this state
  abbrev pub Holds : Store D members → State → Type 0
  Holds store s = PartsStandFor (members.state (disk_of store)).now store.parts s

  -- what a call does that may mark what the entries reach, where this is its answer: it reads alone, and keeps the entries and what the store
  -- stands for
  pub record MarksStore {T : Type 0} (answer : Result T Refusal) (old new : Store D members) : Type 0 where
    pub any : GoesOn (answer ≡ Err Device) old new
    pub failed : has_failed new ≡ has_failed old
    pub never : (answer ≢ Err Failed) × (answer ≢ Err Memory) × (answer ≢ Err Full)
    pub late : IfErr answer (λ refusal. IsEarly refusal → ⊥)
    pub same : entries_of new ≡ entries_of old
    pub roots : root_of new ≡ root_of old
    pub reads : IsHonest new → ReadsAlone old new
    pub only : IsHonest new → (s : State) → Holds old s → IfErr answer (λ refusal. refusal ≡ Device)
    pub state : IsHonest new → (s : State) → Holds old s → Holds new s

  -- Q holds for each state that a store stands for which has not failed
  abbrev pub InState : Store D members → (State → Type 0) → Type 0
  InState store Q = has_failed store ≡ false → (s : State) → Holds store s → Q s

  -- Q holds for each state that the old store stood for, which had not failed, if the disk is honest under the new one
  abbrev pub FromState : (old new : Store D members) → (State → Type 0) → Type 0
  FromState old new Q = IsHonest new → has_failed old ≡ false → (s : State) → Holds old s → Q s

  -- the disk has as many blocks as before
  abbrev pub IsAsLong : (old new : Store D members) → Type 0
  IsAsLong old new = (members.state (disk_of new)).blocks ≡ (members.state (disk_of old)).blocks

  -- the disk has as many blocks as before, or no more than this many
  abbrev pub IsNoLonger : (old new : Store D members) → ℕ → Type 0
  IsNoLonger old new blocks = IsAsLong old new ⊎ ((members.state (disk_of new)).blocks ≤ blocks)

  -- a Grow gives the disk no more blocks than it asks for
  abbrev pub GrowsNoMore : (old new : Store D members) → Command → Type 0
  GrowsNoMore old new command = (blocks : ℕ) → command ≡ Grow blocks → IsNoLonger old new blocks

  -- a refusal that comes before blocks are marked, taken or written comes without a device call
  abbrev pub EarlyLeavesDisk : Result Answer Refusal → (old new : Store D members) → Type 0
  EarlyLeavesDisk answer old new = IfErr answer (λ refusal. IsEarly refusal → disk_of new ≡ disk_of old)

  -- no device call was made, and no block was taken or given back
  abbrev pub LeavesBlocks : (old new : Store D members) → Type 0
  LeavesBlocks old new = (disk_of new ≡ disk_of old) × (held_of new ≡ held_of old)

  -- what a Rollback does, on any disk: it is accepted, and makes no device call; the committed entries become the working ones, and the
  -- committed number of blocks the store's; of these blocks it takes none, and gives none back; and a series of changes ends
  pub record RollsBack (answer : Result Answer Refusal) (old new : Store D members) : Type 0 where
    pub accepted : answer ≡ Ok Done
    pub disk : disk_of new ≡ disk_of old
    pub entries : entries_of new ≡ (old.parts.committed, old.parts.committed)
    pub blocks : blocks_of new ≡ kept_of old
    pub held : held_of new ≡ take (kept_of old) (held_of old)
    pub series : series_of new ≡ None

  -- no more reads were made than this many, of a store that stood for a state; the disk is honest after the call
  abbrev pub ReadsAtMost : (old new : Store D members) → ((s : State) → Holds old s → ℕ) → Type 0
  ReadsAtMost old new most = IsHonest new → (s : State) (holds : Holds old s) → reads_of new ≤ reads_of old + most s holds

  -- exactly the spare blocks are free, if it was done
  abbrev pub SpareIsFree : {T : Type 0} → Result T Refusal → (old new : Store D members) → Type 0
  SpareIsFree answer old new = (s : State) (holds : Holds old s) → OnOk answer (free_of new ≡ spare_of holds.rests)

  -- one that is refused for want of blocks leaves exactly the spare ones free
  abbrev pub FullLeavesSpare : Result Answer Refusal → (old new : Store D members) → Type 0
  FullLeavesSpare answer old new = answer ≡ Err Full → (s : State) (holds : Holds old s) → free_of new ≡ spare_of holds.rests

  -- blocks were marked, and since then nothing was taken or given back: exactly the spare blocks are free
  abbrev pub is_marked : Store D members → Bool
  is_marked store = store.parts.marked

  -- a command that is refused for want of blocks leaves that so; where it was so before, it marks none again
  abbrev pub FullAgain : Result Answer Refusal → (old new : Store D members) → Type 0
  FullAgain answer old new = answer ≡ Err Full → (s : State) → Holds old s → (is_marked new ≡ true) × (is_marked old ≡ true → IsSameButDisk old new)

  -- and a Put that is refused so then makes no device call
  abbrev pub FullAtOnce : Result Answer Refusal → (old new : Store D members) → Type 0
  FullAtOnce answer old new = answer ≡ Err Full → is_marked old ≡ true → disk_of new ≡ disk_of old

  -- of the commands that may be refused so
  abbrev pub MarksOnce : Command → Result Answer Refusal → (old new : Store D members) → Type 0
  MarksOnce (Put alt key value) answer old new = FullAgain answer old new × FullAtOnce answer old new
  MarksOnce (Remove alt key) answer old new = FullAgain answer old new
  MarksOnce (Merge alt settled) answer old new = FullAgain answer old new
  MarksOnce command answer old new = Unit {0}

  -- after a marking that nothing followed, exactly the spare blocks are free
  abbrev pub MarksAll : Result Answer Refusal → (old new : Store D members) → Command → Type 0
  MarksAll answer old new command = HasMarked command answer → (s : State) (holds : Holds old s) → free_of new ≡ spare_of holds.rests

  -- if enough blocks are free for a change, it takes this many of them at most, and none if it is refused, unless the device failed; if
  -- too few are, blocks are marked first, and on an honest disk all that were spare except this many are free after it
  abbrev pub TakesUpTo : ℕ → Result Answer Refusal → (old new : Store D members) → Type 0
  TakesUpTo most answer old new =
      (blocks_a_change ≤ free_of old → free_of old ≤ free_of new + most_taken most answer)
      × (IsHonest new → free_of old < blocks_a_change → ComesAfterMarking answer → (s : State) (holds : Holds old s) → spare_of holds.rests ≤ free_of new + most_taken most answer)

  -- so a Put takes 16 blocks at most, a Remove 8, and a Merge 16 for each change that it makes; and a Post and a Commit take none
  abbrev pub KeepsFree : Command → Result Answer Refusal → (old new : Store D members) → Type 0
  KeepsFree (Put alt key value) answer old new = TakesUpTo 16 answer old new
  KeepsFree (Remove alt key) answer old new = TakesUpTo 8 answer old new
  KeepsFree (Merge alt settled) answer old new =
      IsHonest new → (s : State) (holds : Holds old s) → TakesForChanges (changes_made s.working (Merge alt settled)) answer (free_of old) (free_of new) (spare_of holds.rests)
  KeepsFree (Post alt) answer old new = held_of new ≡ held_of old
  KeepsFree Commit answer old new = held_of new ≡ held_of old
  KeepsFree command answer old new = Unit {0}

  -- a Commit that is done has written, byte by byte, the working entries into the slot that was not in use, with the store's
  -- number of blocks, and the selector that names this slot; and at no moment it touches another block
  abbrev pub WritesCommit : Result Answer Refusal → (old new : Store D members) → Type 0
  WritesCommit answer old new =
      WritesBoth answer (members.state (disk_of new)) (other_slot old.parts.slot_name) old.parts.blocks (slot_entries old.parts.working)
      × TouchesBoth (members.state (disk_of old)) (members.state (disk_of new)) (other_slot old.parts.slot_name) (slot_entries old.parts.working)

  -- a command that is refused before it takes or writes a block only reads
  abbrev pub FirstReads : Result Answer Refusal → (old new : Store D members) → Type 0
  FirstReads answer old new = IfErr answer (λ refusal. ComesFirst refusal → ReadsAlone old new)

  -- a Merge that is done, and needs no change on the smaller side, only reads
  abbrev pub MakesNoneByReading : List ℕ → List (Key × Side) → Result Answer Refusal → (old new : Store D members) → Type 0
  MakesNoneByReading alt settled answer old new = (s : State) → Holds old s → changes_made s.working (Merge alt settled) ≡ 0 → IsOk answer → ReadsAlone old new

  -- a Post and a Reclaim only read, and so do a Merge that makes no change and each other command that is refused so; of a Grow
  -- `EarlyLeavesDisk` tells it
  abbrev pub ReadsOnly : Command → Result Answer Refusal → (old new : Store D members) → Type 0
  ReadsOnly (Post alt) answer old new = ReadsAlone old new
  ReadsOnly Reclaim answer old new = ReadsAlone old new
  ReadsOnly (Merge alt settled) answer old new = FirstReads answer old new × MakesNoneByReading alt settled answer old new
  ReadsOnly (Grow blocks) answer old new = Unit {0}
  ReadsOnly command answer old new = FirstReads answer old new

  -- a Post makes no more reads than there are blocks that only one of its base and its parent's current tree has; a Merge that makes no
  -- change no more than these and those that only one of its base and its current tree has
  abbrev pub ReadsFew : Command → Result Answer Refusal → (old new : Store D members) → Type 0
  ReadsFew (Post alt) answer old new = ReadsAtMost old new (λ s holds. unshared_with_parent holds.rests alt)
  ReadsFew (Merge alt settled) answer old new =
      IsHonest new → (s : State) (holds : Holds old s) → MakesNoChange (changes_made s.working (Merge alt settled)) answer
      → reads_of new ≤ reads_of old + unshared_on_sides holds.rests alt
  ReadsFew command answer old new = Unit {0}

  -- the blocks that a store lacks of this many are free, too, if it was done
  abbrev pub NewAreFree : Result Answer Refusal → (old new : Store D members) → ℕ → Type 0
  NewAreFree answer old new blocks = (s : State) → Holds old s → OnOk answer (free_of new ≡ free_of old + (blocks - s.blocks))

  -- after a Grow the new blocks are free, too
  abbrev pub GrowsFree : Result Answer Refusal → (old new : Store D members) → Command → Type 0
  GrowsFree answer old new command = (blocks : ℕ) → command ≡ Grow blocks → NewAreFree answer old new blocks

  -- P holds of what was committed by a store that has not failed, if the disk that is given back is honest
  abbrev pub ClosesWith : Store D members → D → (Seen → Type 0) → Type 0
  ClosesWith store disk P = (members.state disk).honest ≡ true → has_failed store ≡ false → (s : State) → Holds store s → P (committed_of s)

  -- a crash at any moment of the call leaves what was committed, or what the command commits
  abbrev pub CrashLeaves : (old new : Store D members) → State → Command → Type 0
  CrashLeaves old new s command = Throughout (members.state (disk_of old)) (members.state (disk_of new)) (Leaves (LeftBy Shows s command))

  -- at each moment of the call the slots that a crash may leave in use are whole, clean and held
  abbrev pub StaysGuarded : (old new : Store D members) → Type 0
  StaysGuarded old new = Throughout (members.state (disk_of old)) (members.state (disk_of new)) (IsGuarded (held_of new))

  -- nothing is synced: what was dirty at a moment of the call is so at the next one
  abbrev pub StaysUnsynced : (old new : Store D members) → Type 0
  StaysUnsynced old new = NeverSyncs (members.state (disk_of old)) (members.state (disk_of new))

  -- what is answered to a command by a store that stands for the state, in terms of the store before and after
  abbrev pub Answers : (old new : Store D members) (s : State) → Holds old s → Command → Result Answer Refusal → Type 0
  Answers old new s holds (Merge alt settled) result =
      IsMergeAnswer s (spare_of holds.rests) (MeetsFullPath (members.state (disk_of new)).now.contents new.parts.blocks (start_of s.working alt settled) (merge_changes s.working alt settled)) alt settled result
  Answers old new s holds (Grow blocks) result = IsGrowDue (outcome s (Grow blocks)) result
  Answers old new s holds command result =
      IsAnswer s (spare_of holds.rests) (IsDeep (members.state (disk_of old)).now.contents (root_of old) command) command result

  -- a command was carried out by a store that stands for the state, on an honest disk
  pub record Carries (old new : Store D members) (s : State) (holds : Holds old s) (command : Command) (answer : Result Answer Refusal) : Type 0 where
    -- the answer is the one that is due, with Full and Deep on their conditions, or Device, or Memory
    pub answers : Answers old new s holds command answer
    -- unless the device failed, the store stands for what the answer leaves
    pub state : answer ≢ Err Device → Holds new (next s command answer)
    -- a crash at any moment leaves what was committed, or what the command commits
    pub crash : CrashLeaves old new s command
    -- for at each moment the slots that it may leave in use are whole, clean and held
    pub guarded : StaysGuarded old new
    -- no command but a Commit syncs
    pub unsynced : command ≢ Commit → StaysUnsynced old new

  -- the same, whatever state the store stood for, on a disk that is honest after it
  abbrev pub IsCarriedOut : (old new : Store D members) → Command → Result Answer Refusal → Type 0
  IsCarriedOut old new command answer = IsHonest new → (s : State) (holds : Holds old s) → Carries old new s holds command answer
