-- Why an opening refuses what a disk holds.
use Rattle.std.specs.Prelude.{◌≡◌, ◌⊎◌, ℕ, ◌<◌, ◌≤◌, true, List, length}
use Rattle.vm_types.specs.declared.sizes.TheConstants.{MIN_BLOCKS}
use Rattle.vm_types.specs.declared.refusal.Refusal.{Refusal}
use Rattle.vm_types.specs.declared.refusal.Refusal.TheVariants.{Device, Memory, Damaged, NotAStore, BadSize}
use Rattle.vm_disk.specs.Disk.{Contents, DiskState, Medium, IsClean, block}
use Rattle.vm_disk.specs.Moments.{Throughout}
use Rattle.vm_block.specs.Header.{IsHeader}
use Rattle.vm_block.specs.declared.slot.Entry.{Entry}
use Rattle.vm_catalog.specs.Place.{slot_at, selected}
use Rattle.vm_catalog.specs.Catalog.{SlotAt}
use Rattle.vm_store.specs.Filed.{Anywhere, Filed, Standing}
use Rattle.vm_store.specs.Versions.{slot_entries}
use Rattle.vm_store.specs.declared.version.Version.{Version}

-- there are blocks enough for a store, and the first one is a header
pub record IsStore (x : Contents) : Type 0 where
  pub least : MIN_BLOCKS ≤ length x
  pub header : IsHeader (block x 0)

-- there are too few blocks for a store, or the first one is no header
abbrev pub IsNoStore : Contents → Type 0
IsNoStore x = IsStore x → ⊥

-- the slot that the selector names is no slot
abbrev pub HasNoSlot : Contents → Type 0
HasNoSlot x = (limit : ℕ) (es : List Entry) → SlotAt x (selected x) limit es → ⊥

-- that slot is one, of a store of more blocks than there are
pub record IsTooLarge (x : Contents) : Type 0 where
  pub limit : ℕ
  pub entries : List Entry
  pub slot : SlotAt x (selected x) limit entries
  pub larger : length x < limit

-- that slot is one, of a store within the disk, but under some root lies no map
pub record LacksMap (x : Contents) : Type 0 where
  pub limit : ℕ
  pub entries : List Entry
  pub slot : SlotAt x (selected x) limit entries
  pub inside : limit ≤ length x
  pub none : (versions : List Version) (filed : List Filed) → slot_entries versions ≡ entries → Standing Anywhere x limit versions filed → ⊥

-- why an opening refuses these contents; that the device fails and that memory runs out may come anywhere
abbrev pub IsRefused : Contents → Refusal → Type 0
IsRefused x NotAStore = IsNoStore x
IsRefused x BadSize = IsStore x × IsTooLarge x
IsRefused x (Damaged n) = IsStore x × (((n ≡ slot_at (selected x)) × HasNoSlot x) ⊎ LacksMap x)
IsRefused x Device = Unit {0}
IsRefused x Memory = Unit {0}
IsRefused x refusal = ⊥

-- the contents are the same, and all is synced: no block is dirty, so all are sure
pub record IsSynced (old new : Medium) : Type 0 where
  pub same : new.contents ≡ old.contents
  pub clean : IsClean new

-- nothing has changed, or all is synced
abbrev pub IsAtMostSynced : Medium → Medium → Type 0
IsAtMostSynced old m = (m ≡ old) ⊎ IsSynced old m

-- on a disk that is honest after the call: at each moment of it nothing has changed, or all is synced
abbrev pub SyncsAtMost : DiskState → DiskState → Type 0
SyncsAtMost old new = new.honest ≡ true → Throughout old new (IsAtMostSynced old.now)

-- and at its end all is synced, unless it failed like this
abbrev pub SyncsUnless : Type 0 → DiskState → DiskState → Type 0
SyncsUnless Fails old new = new.honest ≡ true → (Fails → ⊥) → IsSynced old.now new.now
