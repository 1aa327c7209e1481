-- How a store is put on a disk without one: data blocks first, then its entries, and the header last.
use Rattle.std.specs.Prelude.{◌≡◌, ℕ, ◌≤◌, true, false, List, length, Result, OnOk}
use Rattle.vm_types.specs.Tree.{Tree}
use Rattle.vm_types.specs.declared.sizes.TheConstants.{FIRST_DATA}
use Rattle.vm_disk.specs.Disk.{DiskState, Medium, IsClean, block}
use Rattle.vm_disk.specs.Moments.{Leaves, Throughout}
use Rattle.vm_block.specs.Header.{IsHeader}
use Rattle.vm_block.specs.Slot.{SlotFits}
use Rattle.vm_block.specs.declared.slot.Entry.{Entry}
use Rattle.vm_block.specs.declared.selector.SlotName.TheVariants.{A}
use Rattle.vm_catalog.specs.Place.{selected}
use Rattle.vm_catalog.specs.Catalog.{SlotAt}
use Rattle.vm_catalog.specs.Written.{IsAsWritten}
use Rattle.vm_store.specs.Filed.{Anywhere, Filed, Standing, tree_of}
use Rattle.vm_store.specs.Shown.{Shows, ShowsAtMost}
use Rattle.vm_store.specs.Versions.{slot_entries}
use Rattle.vm_store.specs.declared.version.Version.{Version}

-- the selector names slot A with these entries of a store of this many blocks, both as they are written, and all is synced; the data blocks
-- are as they were
pub record IsLaidOut (blocks : ℕ) (es : List Entry) (old m : Medium) : Type 0 where
  pub count : length m.contents ≡ length old.contents
  pub same : (n : ℕ) → FIRST_DATA ≤ n → block m.contents n ≡ block old.contents n
  pub selected : selected m.contents ≡ A
  pub slot : SlotAt m.contents A blocks es
  pub written : IsAsWritten m.contents A blocks es
  pub clean : IsClean m

-- a slot of a store of this many blocks may have these entries, and under their roots lie the maps of this tree
pub record HasMaps (tree : Tree) (blocks : ℕ) (es : List Entry) (m : Medium) : Type 0 where
  pub versions : List Version
  pub filed : List Filed
  pub named : slot_entries versions ≡ es
  pub fits : SlotFits blocks es
  pub stands : Standing Anywhere m.contents blocks versions filed
  pub gives : tree_of filed ≡ tree

-- all is there but the header
pub record IsReady (tree : Tree) (blocks : ℕ) (es : List Entry) (m : Medium) : Type 0 where
  pub maps : HasMaps tree blocks es m
  pub laid : IsLaidOut blocks es m m

-- this tree is shown in a store of this many blocks, slot A with these entries and the selector are as they are written, byte by byte, and
-- all is synced
pub record IsPutDown (tree : Tree) (blocks : ℕ) (es : List Entry) (m : Medium) : Type 0 where
  pub shown : Shows m.contents (record { tree = tree; blocks = blocks })
  pub written : IsAsWritten m.contents A blocks es
  pub clean : IsClean m

-- what the steps do to a disk that is honest after them
module _ (old new : DiskState) where
  -- P holds at each moment, if block 0 was no header, and clean
  abbrev pub WithoutHeader : (Medium → Type 0) → Type 0
  WithoutHeader P = new.honest ≡ true → old.now.dirty 0 ≡ false → (IsHeader (block old.now.contents 0) → ⊥) → Throughout old new P

  -- these entries were laid out, if it was done
  abbrev pub LaysOut : {T E : Type 0} → Result T E → ℕ → List Entry → Type 0
  LaysOut result blocks es = new.honest ≡ true → SlotFits blocks es → OnOk result (IsLaidOut blocks es old.now new.now)

  -- if all was there but the header, a crash at any moment shows at most what it makes show
  abbrev pub StaysReady : Type 0
  StaysReady =
      new.honest ≡ true → (tree : Tree) (blocks : ℕ) (es : List Entry) → IsReady tree blocks es old.now
      → Throughout old new (Leaves (ShowsAtMost (record { tree = tree; blocks = blocks })))

  -- and it is shown, if it was done
  abbrev pub Completes : {T E : Type 0} → Result T E → Type 0
  Completes result =
      new.honest ≡ true → (tree : Tree) (blocks : ℕ) (es : List Entry) → IsReady tree blocks es old.now → blocks ≤ old.blocks
      → OnOk result (IsPutDown tree blocks es new.now)

  -- if the maps of a tree lie under these entries, and there was no header, a crash at any moment shows at most that tree
  abbrev pub PutsAtMost : ℕ → List Entry → Type 0
  PutsAtMost blocks es =
      (tree : Tree) → HasMaps tree blocks es old.now → WithoutHeader (Leaves (ShowsAtMost (record { tree = tree; blocks = blocks })))

  -- and it is shown, if it was done
  abbrev pub PutsDown : {T E : Type 0} → Result T E → ℕ → List Entry → Type 0
  PutsDown result blocks es =
      new.honest ≡ true → (tree : Tree) → HasMaps tree blocks es old.now → OnOk result (IsPutDown tree blocks es new.now)
