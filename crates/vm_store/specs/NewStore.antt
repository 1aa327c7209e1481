-- What a formatting leaves.
use Rattle.std.specs.Prelude.{◌≡◌, ◌⊎◌, ◌↔◌, ℕ, ◌<◌, Bool, true, List, [], ◌∷◌, None, Result, Ok, Err, IfOk, IsErr, IsErrAnd, IsTrue, OnOk, codes}
use Rattle.vm_types.specs.declared.sizes.TheConstants.{MIN_BLOCKS, MAX_BLOCKS}
use Rattle.vm_types.specs.declared.refusal.Refusal.{Refusal}
use Rattle.vm_types.specs.declared.refusal.Refusal.TheVariants.{AlreadyAStore, BadSize, Device}
use Rattle.vm_disk.specs.Disk.{DiskState, Medium, IsClean, block}
use Rattle.vm_disk.specs.Moments.{Leaves, Throughout}
use Rattle.vm_block.specs.Header.{IsEarlierHeader, IsHeader}
use Rattle.vm_block.specs.declared.slot.Kind.TheVariants as kind
use Rattle.vm_block.specs.declared.slot.Entry.{Entry}
use Rattle.vm_block.specs.declared.selector.SlotName.TheVariants.{A}
use Rattle.vm_catalog.specs.Written.{IsAsWritten}
use Rattle.vm_store.specs.Refused.{IsAtMostSynced}
use Rattle.vm_store.specs.Shown.{Shows, ShowsAtMostNew, new_store}

-- the one entry of a new store: `top` without a record
abbrev pub fresh_entry : Entry
fresh_entry = record { kind = kind.Alternative; name = codes "top"; owner = None; current = 0; base = 0 }

-- a count of blocks that a store can't have, or that the disk lacks
abbrev pub IsBadSize : ℕ → ℕ → Type 0
IsBadSize blocks available = (blocks < MIN_BLOCKS) ⊎ ((MAX_BLOCKS < blocks) ⊎ (available < blocks))

-- a new store of this many blocks is shown, slot A and the selector are as they are written, byte by byte, and all is synced
pub record IsFormatted (blocks : ℕ) (m : Medium) : Type 0 where
  pub shown : Shows m.contents (new_store blocks)
  pub written : IsAsWritten m.contents A blocks (fresh_entry ∷ [])
  pub clean : IsClean m

-- these bytes are the header of a store, of this format or an earlier one
abbrev pub IsAnyHeader : List ℕ → Type 0
IsAnyHeader bytes = IsHeader bytes ⊎ IsEarlierHeader bytes

-- nothing has changed except that it may be synced; or there was no header, and a crash shows at most a new store of this many blocks
abbrev pub IsFormatting : ℕ → Medium → Medium → Type 0
IsFormatting blocks old m = IsAtMostSynced old m ⊎ ((IsAnyHeader (block old.contents 0) → ⊥) × Leaves (ShowsAtMostNew blocks) m)

-- the disk that comes back, with a refusal or without one
abbrev pub given_back : {D : Type 0} → Result D (D × Refusal) → D
given_back (Ok disk) = disk
given_back (Err e) = e.0

-- the refusals of a formatting
abbrev pub IsOfFormat : Refusal → Type 0
IsOfFormat refusal = (refusal ≡ BadSize) ⊎ ((refusal ≡ AlreadyAStore) ⊎ (refusal ≡ Device))

-- the disk came back with this refusal
abbrev pub ComesBack : {T E : Type 0} → Result T (E × Refusal) → Refusal → Type 0
ComesBack result refusal = IsErrAnd result (λ e. e.1 ≡ refusal)

-- what a formatting does to a disk that is honest after it
module _ (old new : DiskState) where
  -- it is told whether block 0 is a header, of this format or an earlier one
  abbrev pub TellsHeader : {E : Type 0} → Result Bool E → Type 0
  TellsHeader result = new.honest ≡ true → IfOk result (λ header. IsTrue header ↔ IsAnyHeader (block old.now.contents 0))

  -- if P holds, block 0 was a header
  abbrev pub HadHeader : Type 0 → Type 0
  HadHeader P = new.honest ≡ true → P → IsAnyHeader (block old.now.contents 0)

  -- if block 0 was a header, this is refused, and the contents are as they were
  abbrev pub LeavesStore : {T E : Type 0} → Result T E → Type 0
  LeavesStore result = new.honest ≡ true → IsAnyHeader (block old.now.contents 0) → IsErr result × (new.now.contents ≡ old.now.contents)

  -- that there is a store is told only if there is one, and it is left as it was
  pub record SparesStore {T E : Type 0} (refused : Type 0) (result : Result T E) : Type 0 where
    pub already : HadHeader refused
    pub was_there : LeavesStore result

  -- at each moment nothing has changed except that it may be synced; or there was no header, and a crash shows at most a new store
  abbrev pub FormatsAtMost : ℕ → Type 0
  FormatsAtMost blocks = new.honest ≡ true → Throughout old new (IsFormatting blocks old.now)

-- a new store of this many blocks is shown, and all is synced, if it was done and the disk is honest after it
abbrev pub Formats : {T E : Type 0} → ℕ → Result T E → DiskState → Type 0
Formats blocks result new = new.honest ≡ true → OnOk result (IsFormatted blocks new.now)
