-- What an opening gives.
use Rattle.std.specs.Prelude.{◌≡◌, ◌≢◌, ◌⊎◌, ℕ, ◌≤◌, Bool, true, false, List, length, Option, Result, Ok, Err, IfErr, IfOk, IsErrAnd, IsSomeAnd}
use Rattle.vm_types.specs.declared.refusal.Refusal.{Refusal}
use Rattle.vm_types.specs.declared.refusal.Refusal.TheVariants.{Damaged, Device, Memory}
use Rattle.vm_types.specs.State.{Seen, State, opened}
use Rattle.vm_disk.specs.Disk.{Contents, DiskState, Goes, IsClean, Medium, block}
use Rattle.vm_block.specs.Selector.{named_slot}
use Rattle.vm_block.specs.declared.selector.SlotName.{SlotName}
use Rattle.vm_catalog.specs.Catalog.{SlotAt}
use Rattle.vm_catalog.specs.Place.{selected}
use Rattle.vm_catalog.specs.declared.reader.Slot.{Slot}
use Rattle.vm_block.specs.declared.slot.Entry.{Entry}
use Rattle.vm_tree.specs.Answers.{Lists}
use Rattle.vm_tree.specs.declared.faults.ListFault.{ListFault}
use Rattle.vm_tree.specs.declared.root.Root.{Root}
use Rattle.vm_check.specs.Trees.{AreTopped}
use Rattle.vm_check.specs.Damage.{AreDamaged}
use Rattle.vm_check.specs.Verification.{HaveTrees}
use Rattle.vm_store.specs.Sizes.{sizes}
use Rattle.vm_store.specs.Versions.{numbers_of, versions_of}
use Rattle.vm_store.specs.Refused.{HasNoSlot, IsRefused, IsStore, SyncsAtMost, SyncsUnless}
use Rattle.vm_store.specs.Shown.{Shows, ShowsNothing}
use Rattle.vm_alloc.specs.Held.{free_count}
use Rattle.vm_store.specs.Rest.{PartsStandFor, spare_of}
use Rattle.vm_store.specs.Store.{Holds, disk_of, free_of, has_failed}
use Rattle.vm_store.specs.declared.store.Store.{Store}
use Rattle.vm_store.specs.declared.store.parts.Parts.{Parts}

-- the parts of a store stand for this, committed and working alike, and exactly the spare blocks are free
pub record PartsStandAs (m : Medium) (parts : Parts) (seen : Seen) : Type 0 where
  pub holds : PartsStandFor m parts (opened seen)
  pub free : (s : State) (holds : PartsStandFor m parts s) → free_count parts.held ≡ spare_of holds.rests

-- the contents show this, and the parts of a store stand for it
pub record PartsHold (m : Medium) (parts : Parts) : Type 0 where
  pub seen : Seen
  pub shown : Shows m.contents seen
  pub stands : PartsStandAs m parts seen

-- if the contents show something, the parts of a store stand for it, committed and working alike, and exactly the spare blocks are free
abbrev pub PartsShow : Medium → Parts → Type 0
PartsShow m parts = (seen : Seen) → Shows m.contents seen → PartsStandAs m parts seen

-- the contents show something
abbrev pub ShowsSome : Contents → Type 0
ShowsSome x = (seen : Seen) × Shows x seen

-- the parts of a store have the versions of these entries, under whose roots the top blocks have their form
pub record AreTops (x : Contents) (limit : ℕ) (es : List Entry) (parts : Parts) : Type 0 where
  pub roots : List Root
  pub blocks : parts.blocks ≡ limit
  pub committed : parts.committed ≡ versions_of es roots
  pub working : parts.working ≡ versions_of es roots
  pub topped : AreTopped x limit roots

-- what was read of the contents has its form: they are a store, the slot that the selector names is one, of this many blocks as the parts
-- have, which the disk has, and so are the top blocks under its roots
pub record AreRead (x : Contents) (parts : Parts) : Type 0 where
  pub store : IsStore x
  pub entries : List Entry
  pub slot : SlotAt x (selected x) parts.blocks entries
  pub inside : parts.blocks ≤ length x
  pub tops : AreTops x parts.blocks entries parts

-- both of a pair are this
abbrev pub IsTwice : {X : Type 0} → X → X × X → Type 0
IsTwice x pair = (pair.0 ≡ x) × (pair.1 ≡ x)

-- these blocks are damaged of the trees of the slot that the selector names, and no other that is reached by whole blocks; the first number
-- that is told is this one
pub record AllDamaged (x : Contents) (first : ℕ) (damaged : List Bool) : Type 0 where
  pub limit : ℕ
  pub entries : List Entry
  pub slot : SlotAt x (selected x) limit entries
  pub are : AreDamaged sizes x limit (numbers_of entries) first damaged

-- a refusal as damaged tells of a slot, and nothing is left; or of trees, and marks on all damaged blocks are left. With another nothing is
pub record TellsAll (old new : DiskState) (damaged damaged' : Option (List Bool)) (refusal : Refusal) : Type 0 where
  pub all : (first : ℕ) → refusal ≡ Damaged first
      → ((damaged' ≡ damaged) × (new.honest ≡ true → HasNoSlot old.now.contents)) ⊎ IsSomeAnd damaged' (λ marks. new.honest ≡ true → AllDamaged old.now.contents first marks)
  pub none : ((first : ℕ) → refusal ≢ Damaged first) → damaged' ≡ damaged

-- the same, of the maps of a slot
pub record TellsMaps (old new : DiskState) (slot : Slot) (damaged damaged' : Option (List Bool)) (refusal : Refusal) : Type 0 where
  pub all : (first : ℕ) → refusal ≡ Damaged first
      → IsSomeAnd damaged' (λ marks. new.honest ≡ true → AreDamaged sizes old.now.contents slot.blocks (numbers_of slot.entries.items) first marks)
  pub none : ((first : ℕ) → refusal ≢ Damaged first) → damaged' ≡ damaged

-- what an opening finds on a disk that is honest after it
module _ (old new : DiskState) where
  -- there is a store, and this is the slot that its selector names
  abbrev pub FindsSlot : Result SlotName Refusal → Type 0
  FindsSlot result =
      new.honest ≡ true → IfOk result (λ slot_name. IsStore old.now.contents × (slot_name ≡ named_slot (block old.now.contents 1)))

  -- a refusal of the slot that the selector names has its reason
  abbrev pub RefusesSlot : {T : Type 0} → Result T Refusal → SlotName → Type 0
  RefusesSlot result slot_name =
      new.honest ≡ true → IsStore old.now.contents → slot_name ≡ named_slot (block old.now.contents 1) → IfErr result (IsRefused old.now.contents)

  -- a refusal as damaged says that it is no slot
  abbrev pub LacksSlot : {T : Type 0} → Result T Refusal → SlotName → Type 0
  LacksSlot result slot_name =
      new.honest ≡ true → slot_name ≡ named_slot (block old.now.contents 1) → (n : ℕ) → result ≡ Err (Damaged n) → HasNoSlot old.now.contents

  -- so has a refusal of the maps of this slot
  abbrev pub RefusesMaps : {T : Type 0} → Result T Refusal → SlotName → Slot → Type 0
  RefusesMaps result slot_name slot =
      new.honest ≡ true → IsStore old.now.contents → slot_name ≡ named_slot (block old.now.contents 1)
      → SlotAt old.now.contents slot_name slot.blocks slot.entries.items → IfErr result (IsRefused old.now.contents)

  -- if each of the numbers has a tree, a value with P is answered, unless the device fails or no memory is found
  abbrev pub WhereTrees : {T : Type 0} → Result T ListFault → ℕ → List ℕ → (Contents → T → Type 0) → Type 0
  WhereTrees result limit ns P = new.honest ≡ true → HaveTrees sizes old.now.contents limit ns → Lists result (P old.now.contents)

  -- if each root of this slot has a map, the parts of a store stand for the maps, on a disk that is synced
  abbrev pub ReadsMaps : Result Parts Refusal → SlotName → Slot → Type 0
  ReadsMaps result slot_name slot =
      new.honest ≡ true → IsClean old.now → IsStore old.now.contents → slot_name ≡ named_slot (block old.now.contents 1)
      → SlotAt old.now.contents slot_name slot.blocks slot.entries.items → HaveTrees sizes old.now.contents slot.blocks (numbers_of slot.entries.items)
      → IfOk result (PartsHold new.now)

  -- the top block under each root of this slot has its form
  abbrev pub TopsRead : Result Parts Refusal → Slot → Type 0
  TopsRead result slot = new.honest ≡ true → IfOk result (AreTops old.now.contents slot.blocks slot.entries.items)

  -- each root of this slot has a map
  abbrev pub ReadsWhole : Result Parts Refusal → Slot → Type 0
  ReadsWhole result slot = new.honest ≡ true → IfOk result (λ _. HaveTrees sizes old.now.contents slot.blocks (numbers_of slot.entries.items))

  -- a refusal with which the disk comes back has its reason
  abbrev pub RefusesFor : {T E : Type 0} → Result T (E × Refusal) → Type 0
  RefusesFor result = new.honest ≡ true → IfErr result (λ e. IsRefused old.now.contents e.1)

  -- except for the device and memory, it comes only if nothing is shown
  abbrev pub RefusesNothing : {T E : Type 0} → Result T (E × Refusal) → Type 0
  RefusesNothing result = new.honest ≡ true → IfErr result (λ e. e.1 ≢ Device → e.1 ≢ Memory → ShowsNothing old.now.contents)

module _ {D : Type 0} {members : _} where
  -- the store stands for this, committed and working alike, and exactly the spare blocks are free
  pub record StandsAs (store : Store D members) (seen : Seen) : Type 0 where
    pub holds : Holds store (opened seen)
    pub free : (s : State) (holds : Holds store s) → free_of store ≡ spare_of holds.rests

  -- the store stands for what these contents show, if they show anything, and what was read of them has its form
  pub record OpensAs (x : Contents) (store : Store D members) : Type 0 where
    pub read : AreRead x store.parts
    pub stands : (seen : Seen) → Shows x seen → StandsAs store seen

  -- these contents show this, and the store stands for it
  pub record OpensWhole (x : Contents) (store : Store D members) : Type 0 where
    pub seen : Seen
    pub shown : Shows x seen
    pub stands : StandsAs store seen

  -- the disk that comes back, in the store or with a refusal
  abbrev pub disk_in : Result (Store D members) (D × Refusal) → D
  disk_in (Ok store) = disk_of store
  disk_in (Err e) = e.0

  -- what every opening of a disk that was in this state keeps, whatever it holds
  pub record IsOpening (old : DiskState) (result : Result (Store D members) (D × Refusal)) : Type 0 where
    pub any : Goes (IsErrAnd result (λ e. e.1 ≡ Device)) old (members.state (disk_in result))
    pub well : IfOk result (λ store. has_failed store ≡ false)
    -- a refusal has its reason. Except for the device and memory, it comes only if nothing is shown
    pub refused : RefusesFor old (members.state (disk_in result)) result
    pub none : RefusesNothing old (members.state (disk_in result)) result
    -- at each moment nothing has changed, or everything is synced. At the end everything is, even if it is refused, unless the device
    -- failed
    pub moments : SyncsAtMost old (members.state (disk_in result))
    pub synced : SyncsUnless (IsErrAnd result (λ e. e.1 ≡ Device)) old (members.state (disk_in result))
