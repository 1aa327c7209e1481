-- What calls on trees do to a disk and to the blocks that are held.
use Rattle.std.specs.Prelude.{◌≡◌, ℕ, ◌≤◌, true, Bool, List, length, Option, Result, Ok, Err, IfSome}
use Rattle.vm_disk.specs.Disk.{DiskState, Goes}
use Rattle.vm_disk.specs.Moments.{Throughout, OnlyReads, TouchesOnly}
use Rattle.vm_alloc.specs.Held.{HoldsMore, free_count}
use Rattle.vm_tree.specs.Free.{IsTaken, SparesBase, SparesOwn, TakesAtMost, TakesLowest, is_free}
use Rattle.vm_tree.specs.Spent.{ReadsAtMost}
use Rattle.vm_tree.specs.Unsynced.{NeverSyncs}
use Rattle.vm_tree.specs.declared.faults.ListFault.{ListFault}
use Rattle.vm_tree.specs.declared.faults.ListFault.TheVariants as list
use Rattle.vm_tree.specs.declared.faults.PutFault.{PutFault}
use Rattle.vm_tree.specs.declared.faults.PutFault.TheVariants as put
use Rattle.vm_tree.specs.declared.faults.TreeFault.{TreeFault}
use Rattle.vm_tree.specs.declared.faults.TreeFault.TheVariants.{Device, Damaged}

-- a call that answers that the device failed exactly if `fails` holds only looked at the disk: its failures rise if it failed, and an
-- honest disk held at each moment what it held before
pub record Looks (fails : Type 0) (old new : DiskState) : Type 0 where
  pub goes : Goes fails old new
  pub reads : new.honest ≡ true → OnlyReads old new

-- a call with this result only looked
abbrev pub OnlyLooks : {T : Type 0} → Result T TreeFault → DiskState → DiskState → Type 0
OnlyLooks result old new = Looks (result ≡ Err Device) old new

-- the same of a call that makes a list
abbrev pub OnlyLists : {T : Type 0} → Result T ListFault → DiskState → DiskState → Type 0
OnlyLists result old new = Looks (result ≡ Err (list.Tree Device)) old new

-- it only looked, and read so many blocks at most
pub record LooksWithin (n : ℕ) (fails : Type 0) (old new : DiskState) : Type 0 where
  pub goes : Goes fails old new
  pub reads : new.honest ≡ true → OnlyReads old new
  pub most : ReadsAtMost n old new

-- a call with this result did
abbrev pub ReadsWithin : {T : Type 0} → ℕ → Result T TreeFault → DiskState → DiskState → Type 0
ReadsWithin n result old new = LooksWithin n (result ≡ Err Device) old new

-- if `when` holds, the same blocks are held as before, and an honest disk was only looked at
pub record LooksIf (when : Type 0) (held later : List Bool) (old new : DiskState) : Type 0 where
  pub kept : when → later ≡ held
  pub reads : new.honest ≡ true → when → OnlyReads old new

-- a Put is refused: a block is damaged, or there is no room for one more record
abbrev pub IsRefused : {T : Type 0} → Result T PutFault → Type 0
IsRefused (Ok x) = ⊥
IsRefused (Err (put.Tree Device)) = ⊥
IsRefused (Err (put.Tree (Damaged b))) = Unit {0}
IsRefused (Err put.Deep) = Unit {0}

-- this is found before any block is taken or written
abbrev pub LooksIfRefused : {T : Type 0} → Result T PutFault → List Bool → List Bool → DiskState → DiskState → Type 0
LooksIfRefused result held later old new = LooksIf (IsRefused result) held later old new

-- so many blocks may be written here: they are free, the held ones lie on the disk, and the own one, if there is one, is held
pub record MayWrite (n : ℕ) (own : Option ℕ) (held : List Bool) (now : DiskState) : Type 0 where
  pub inside : length held ≤ now.blocks
  pub mine : IfSome own (IsTaken held)
  pub free : n ≤ free_count held

-- a call that answers that the device failed exactly if `fails` holds wrote blocks
pub record Writes (fails : Type 0) (may : List Bool → Type 0) (n most : ℕ) (held later : List Bool) (old new : DiskState) : Type 0 where
  -- its failures rise if it failed
  pub goes : Goes fails old new
  -- what was held stays held, and the lowest free blocks were taken, so many at most
  pub still : HoldsMore held later
  pub lowest : TakesLowest held later
  pub taken : TakesAtMost most held later
  -- at no moment had a block of an honest disk other bytes than before which is one of held blocks that it `may` spare
  pub moments : new.honest ≡ true → (spared : List Bool) → HoldsMore spared held → may spared → Throughout old new (TouchesOnly (is_free spared) old.now)
  -- and no dirty one was synced
  pub unsynced : new.honest ≡ true → NeverSyncs old new
  -- so many blocks were read at most
  pub reads : ReadsAtMost n old new

-- a call with this result wrote the own block, or if there is none free blocks alone; so many were read at most, and so many taken
abbrev pub WritesOwn : {T : Type 0} → Result T TreeFault → Option ℕ → ℕ → ℕ → List Bool → List Bool → DiskState → DiskState → Type 0
WritesOwn result own n most held later old new = Writes (result ≡ Err Device) (SparesOwn own) n most held later old new

-- it wrote free blocks, and such as are held and not in the baseline; if there is none, free ones alone
abbrev pub WritesBeside : {T : Type 0} → Result T TreeFault → Option (List Bool) → ℕ → ℕ → List Bool → List Bool → DiskState → DiskState → Type 0
WritesBeside result base n most held later old new = Writes (result ≡ Err Device) (SparesBase base) n most held later old new

-- the same of a Put
abbrev pub PutsBeside : {T : Type 0} → Result T PutFault → Option (List Bool) → ℕ → ℕ → List Bool → List Bool → DiskState → DiskState → Type 0
PutsBeside result base n most held later old new = Writes (result ≡ Err (put.Tree Device)) (SparesBase base) n most held later old new

-- and of a Put that wrote the own block, or if there is none free blocks alone
abbrev pub PutsOwn : {T : Type 0} → Result T PutFault → Option ℕ → ℕ → ℕ → List Bool → List Bool → DiskState → DiskState → Type 0
PutsOwn result own n most held later old new = Writes (result ≡ Err (put.Tree Device)) (SparesOwn own) n most held later old new
