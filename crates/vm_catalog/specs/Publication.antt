-- What publishing entries does to a disk, at its end and at each moment of it.
use Rattle.std.specs.Prelude.{◌≡◌, ◌≢◌, ◌⊎◌, ℕ, ◌≤◌, true, false, List, length}
use Rattle.vm_types.specs.declared.sizes.TheConstants.{FIRST_DATA}
use Rattle.vm_disk.specs.Disk.{Contents, block, Medium, IsClean}
use Rattle.vm_block.specs.Header.{IsHeader}
use Rattle.vm_block.specs.Selector.{other_slot}
use Rattle.vm_block.specs.declared.slot.Entry.{Entry}
use Rattle.vm_block.specs.declared.selector.SlotName.{SlotName}
use Rattle.vm_catalog.specs.Place.{is_used}
use Rattle.vm_catalog.specs.Catalog.{SlotAt, Names, AtRest}

-- the new entries are named in this slot, no block is dirty, and the data blocks are as they were
pub record IsPublished (slot_name : SlotName) (old new : Medium) (limit : ℕ) (es : List Entry) : Type 0 where
  pub rest : AtRest slot_name new limit es
  pub clean : IsClean new
  pub same : (n : ℕ) → FIRST_DATA ≤ n → block new.contents n ≡ block old.contents n
  pub count : length new.contents ≡ length old.contents

-- what a crash in a publish leaves: the old entries with each data block that was clean, or the new ones with all blocks and all data
abbrev pub PublishLeaves : Medium → ℕ → List Entry → ℕ → List Entry → Contents → Type 0
PublishLeaves old limit es new_limit new left =
    (old.sure ≤ length left)
    × (length left ≤ length old.contents)
    × ((Names left limit es × ((n : ℕ) → FIRST_DATA ≤ n → old.dirty n ≡ false → block left n ≡ block old.contents n))
    ⊎ (Names left new_limit new × (length left ≡ length old.contents) × ((n : ℕ) → FIRST_DATA ≤ n → block left n ≡ block old.contents n)))

-- both slots are whole, a crash leaves each block, and none but the selector is dirty: so either slot may be found in use
pub record IsTurning (slot_name : SlotName) (m : Medium) (limit : ℕ) (es : List Entry) (new_limit : ℕ) (new : List Entry) : Type 0 where
  pub header : IsHeader (block m.contents 0)
  pub old : SlotAt m.contents slot_name limit es
  pub new_slot : SlotAt m.contents (other_slot slot_name) new_limit new
  pub clean : (n : ℕ) → n ≢ 1 → m.dirty n ≡ false
  pub sure : m.sure ≡ length m.contents

-- what holds at each moment of a publish that finds these entries in this slot, and writes new ones into the other
pub record IsSafelyPublishing (slot_name : SlotName) (old : Medium) (limit : ℕ) (es : List Entry) (new_limit : ℕ) (new : List Entry) (m : Medium) : Type 0 where
  pub count : length m.contents ≡ length old.contents
  -- a crash leaves at least the blocks that it left before
  pub sure : old.sure ≤ m.sure
  -- no data block is written
  pub same : (n : ℕ) → FIRST_DATA ≤ n → block m.contents n ≡ block old.contents n
  pub still_clean : (n : ℕ) → FIRST_DATA ≤ n → old.dirty n ≡ false → m.dirty n ≡ false
  -- neither the header nor a used block of the slot that was in use is written
  pub spared : (n : ℕ) → n ≢ 1 → is_used slot_name (length es) n ≡ true → (block m.contents n ≡ block old.contents n) × (m.dirty n ≡ false)
  -- while the selector is clean it names the old entries, or the new ones on a clean disk, and each block that names them is clean
  pub settled : m.dirty 1 ≡ false → AtRest slot_name m limit es ⊎ (AtRest (other_slot slot_name) m new_limit new × IsClean m)
  -- while the selector is dirty, both slots are whole and clean
  pub turning : m.dirty 1 ≡ true → IsTurning slot_name m limit es new_limit new
