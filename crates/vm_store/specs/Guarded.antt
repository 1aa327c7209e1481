-- What holds at each moment of a command, so that each slot which a crash may leave in use is whole.
use Rattle.std.specs.Prelude.{◌≡◌, ◌≢◌, ℕ, ◌≤◌, Bool, true, false, List, length}
use Rattle.vm_disk.specs.Disk.{block, Medium}
use Rattle.vm_block.specs.Header.{IsHeader}
use Rattle.vm_block.specs.declared.selector.SlotName.{SlotName}
use Rattle.vm_catalog.specs.Place.{selected, is_used}
use Rattle.vm_catalog.specs.Catalog.{SlotAt}
use Rattle.vm_store.specs.Filed.{Filed, Standing}
use Rattle.vm_store.specs.Rest.{IsSafe}
use Rattle.vm_store.specs.Versions.{slot_entries}
use Rattle.vm_store.specs.declared.version.Version.{Version}

-- a header stands before this slot, which names versions within the blocks that a crash leaves. The header, each block that names them and
-- each block under their roots is clean, so no write has gone to any of these; those under the roots are held, too
pub record IsWhole (bits : List Bool) (m : Medium) (slot_name : SlotName) : Type 0 where
  pub limit : ℕ
  pub versions : List Version
  pub filed : List Filed
  pub inside : limit ≤ m.sure
  pub header : IsHeader (block m.contents 0)
  pub slot : SlotAt m.contents slot_name limit (slot_entries versions)
  pub clean : (n : ℕ) → n ≢ 1 → is_used slot_name (length (slot_entries versions)) n ≡ true → m.dirty n ≡ false
  pub safe : Standing (IsSafe bits m) m.contents limit versions filed

-- while the selector is clean, the slot that it names is whole, and the other one may hold anything;
-- while the selector is dirty, a crash may leave either slot in use, and both are whole
pub record IsGuarded (bits : List Bool) (m : Medium) : Type 0 where
  pub settled : m.dirty 1 ≡ false → IsWhole bits m (selected m.contents)
  pub turning : m.dirty 1 ≡ true → (slot_name : SlotName) → IsWhole bits m slot_name
