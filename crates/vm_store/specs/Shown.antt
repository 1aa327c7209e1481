-- What a disk shows.
use Rattle.std.specs.Prelude.{◌≡◌, ℕ, ◌≤◌, List, length}
use Rattle.vm_types.specs.State.{Seen}
use Rattle.vm_types.specs.Tree.{fresh}
use Rattle.vm_disk.specs.Disk.{Contents}
use Rattle.vm_catalog.specs.Catalog.{Names}
use Rattle.vm_store.specs.Filed.{Anywhere, Filed, Standing, tree_of}
use Rattle.vm_store.specs.Versions.{slot_entries}
use Rattle.vm_store.specs.declared.version.Version.{Version}

-- these contents show this tree in a store of this many blocks: a header and a slot name versions within the disk, and under each root
-- lies a map
pub record Shows (x : Contents) (seen : Seen) : Type 0 where
  pub versions : List Version
  pub filed : List Filed
  pub names : Names x seen.blocks (slot_entries versions)
  pub inside : seen.blocks ≤ length x
  pub stands : Standing Anywhere x seen.blocks versions filed
  pub gives : tree_of filed ≡ seen.tree

-- these contents show nothing
abbrev pub ShowsNothing : Contents → Type 0
ShowsNothing x = (seen : Seen) → Shows x seen → ⊥

-- these contents show nothing, or this
abbrev pub ShowsAtMost : Seen → Contents → Type 0
ShowsAtMost wanted x = (seen : Seen) → Shows x seen → seen ≡ wanted

-- what a new store of this many blocks shows: `top` without a record
abbrev pub new_store : ℕ → Seen
new_store blocks = record { tree = fresh; blocks = blocks }

-- these contents show nothing, or a new store of this many blocks
abbrev pub ShowsAtMostNew : ℕ → Contents → Type 0
ShowsAtMostNew blocks x = ShowsAtMost (new_store blocks) x
