-- What becomes of a disk that is opened, and why it is refused.
use Rattle.std.specs.Prelude.{◌≡◌, ◌≢◌, ◌⊎◌, ◌↔◌, ◌<◌, ℕ, Bool, List, length, Option, None, Some, IsSomeAnd, Result, IfErr, IfOk, true, false}
use Rattle.vm_types.specs.declared.refusal.Refusal.{Refusal}
use Rattle.vm_types.specs.declared.refusal.Refusal.TheVariants.{Damaged, Device, NotAStore}
use Rattle.vm_types.specs.declared.sizes.TheConstants.{FIRST_DATA}
use Rattle.vm_disk.specs.Disk.{Contents, DiskState, Goes, block}
use Rattle.vm_disk.specs.Moments.{OnlyReads, Throughout}
use Rattle.vm_block.specs.Header.{IsEarlierHeader}
use Rattle.vm_store.specs.Recovery.{AllDamaged}
use Rattle.vm_store.specs.Refused.{HasNoSlot, IsAtMostSynced, IsRefused, IsSynced}
use Rattle.vm_sums.specs.Sums.{IsWithoutSum}
use Rattle.vm_store.specs.Store.{disk_of, has_failed}
use Rattle.vm_store.specs.declared.store.Store.{Store}
use Rattle.vm_cli.specs.declared.program.opening.NoStore.{NoStore}
use Rattle.vm_cli.specs.declared.program.opening.NoStore.TheVariants.{Earlier, Refused, WithoutSums}

-- the refusal of a disk
abbrev pub refusal_of : NoStore → Refusal
refusal_of (Refused refusal) = refusal
refusal_of Earlier = NotAStore
refusal_of (WithoutSums n) = Damaged n

-- the number of the damaged block that a refusal tells
abbrev pub told_of : NoStore → Option ℕ
told_of (Refused (Damaged n)) = Some n
told_of (WithoutSums n) = Some n
told_of why = None

-- block n, one of a slot, has no checksum
abbrev pub LacksSum : Contents → ℕ → Type 0
LacksSum x n = (n < FIRST_DATA) × (n < length x) × IsWithoutSum n (block x n)

-- what is told of an earlier program's file
pub record TellsEarlier (x : Contents) (why : NoStore) : Type 0 where
  -- of contents that are no store, exactly if block 0 is the header of one of an earlier format
  pub header : refusal_of why ≡ NotAStore → (why ≡ Earlier) ↔ IsEarlierHeader (block x 0)
  -- of a slot that is damaged, exactly if its first block has no checksum
  pub sums : (n : ℕ) → refusal_of why ≡ Damaged n → (why ≡ WithoutSums n) ↔ LacksSum x n

-- the file is looked at again for this refusal
abbrev pub IsLookedAt : Refusal → Type 0
IsLookedAt refusal = (refusal ≡ NotAStore) ⊎ ((n : ℕ) × (refusal ≡ Damaged n))

-- the refusal is this one, or, if the file was looked at again for it, that the device failed
abbrev pub KeepsRefusal : Refusal → NoStore → Type 0
KeepsRefusal refusal why = (refusal_of why ≡ refusal) ⊎ (IsLookedAt refusal × (refusal_of why ≡ Device))

-- why a disk is refused whose opening gave this refusal: it may be looked at again to tell that, and is only read
pub record FindsWhy (refusal : Refusal) (old new : DiskState) (why : NoStore) : Type 0 where
  pub any : Goes (IsLookedAt refusal × (refusal_of why ≡ Device)) old new
  pub reads : new.honest ≡ true → OnlyReads old new
  pub only : KeepsRefusal refusal why
  pub told : new.honest ≡ true → TellsEarlier old.now.contents why

-- the disk was refused for this reason, Device only if a call of this disk failed, and at each moment nothing has changed, or all is
-- synced
pub record HasRefused (old new : DiskState) (told : NoStore) : Type 0 where
  pub goes : Goes (refusal_of told ≡ Device) old new
  pub why : new.honest ≡ true → IsRefused old.now.contents (refusal_of told)
  pub earlier : new.honest ≡ true → TellsEarlier old.now.contents told
  pub moments : new.honest ≡ true → Throughout old new (IsAtMostSynced old.now)

module _ {D : Type 0} {members : _} where
  -- the store on the disk was opened, as `Opens` tells, and the disk is synced: at each moment nothing had changed, or all was synced
  pub record HasOpened (Opens : Contents → Store D members → Type 0) (old : DiskState) (store : Store D members) : Type 0 where
    pub goes : Goes ⊥ old (members.state (disk_of store))
    pub well : has_failed store ≡ false
    pub opens : (members.state (disk_of store)).honest ≡ true → Opens old.now.contents store
    pub synced : (members.state (disk_of store)).honest ≡ true → IsSynced old.now (members.state (disk_of store)).now
    pub moments : (members.state (disk_of store)).honest ≡ true → Throughout old (members.state (disk_of store)) (IsAtMostSynced old.now)

module _ {D : Type 0} (members : _) where
  -- the store on a disk was opened, as `Opens` tells, or the disk was refused
  pub record IsOpening (Opens : Contents → Store D members → Type 0) (disk : D) (result : Result (Store D members) (D × NoStore)) : Type 0 where
    pub opened : IfOk result (HasOpened Opens (members.state disk))
    pub refused : IfErr result (λ e. HasRefused (members.state disk) (members.state e.0) e.1)

-- which damaged blocks are named with a refusal that tells of this one
pub data NamesDamaged (old new : DiskState) (first : ℕ) (damaged : Option (List Bool)) : Type 0 where
  -- none, if it is one of the slot
  of_slot : damaged ≡ None → (new.honest ≡ true → HasNoSlot old.now.contents) → NamesDamaged old new first damaged
  -- each damaged block of the trees, if it is one of them
  of_trees : IsSomeAnd damaged (λ marks. new.honest ≡ true → AllDamaged old.now.contents first marks) → NamesDamaged old new first damaged

-- with a refusal as damaged each damaged block of the trees is named, unless it tells of the slot; with another none is, except that those
-- found by then may be if the device failed
pub record NamesAll (old new : DiskState) (why : NoStore) (damaged : Option (List Bool)) : Type 0 where
  pub all : (first : ℕ) → refusal_of why ≡ Damaged first → NamesDamaged old new first damaged
  pub none : ((first : ℕ) → refusal_of why ≢ Damaged first) → refusal_of why ≢ Device → damaged ≡ None
