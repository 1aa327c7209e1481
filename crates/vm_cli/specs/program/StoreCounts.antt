-- What a check of a store counts.
use Rattle.std.specs.Prelude.{◌≡◌, ℕ, length, sum_by}
use Rattle.vm_types.specs.Tree.{Tree}
use Rattle.vm_disk.specs.Disk.{Contents}
use Rattle.vm_disk.specs.declared.disk.Disk.{Ghosts}
use Rattle.vm_store.specs.Recovery.{OpensWhole}
use Rattle.vm_store.specs.Rest.{spare_of}
use Rattle.vm_store.specs.Store.{disk_of, free_of}
use Rattle.vm_types.specs.State.{State}
use Rattle.vm_cli.specs.declared.program.store_counts.Counts.{Counts}
use Rattle.vm_store.specs.declared.store.Store.{Store}

-- how many checkpoints the alternatives of a tree have together
abbrev pub checkpoint_count : Tree → ℕ
checkpoint_count tree = sum_by (λ a. length a.saved) tree

-- these are the counts of a state and of the store that stands for it
abbrev pub AreCounts : {D : Type 0} {members : _} → Store D members → State → Counts → Type 0
AreCounts store s counts =
    (counts.alternatives ≡ length s.working) × (counts.checkpoints ≡ checkpoint_count s.working) × (counts.free ≡ free_of store)

module _ {D : Type 0} (members : Ghosts D) where
  -- these contents show a tree of this many alternatives and checkpoints, and a store that stands for it on a disk that holds them has this
  -- many spare blocks, all of which are free
  pub record IsCounted (x : Contents) (alternatives checkpoints free : ℕ) : Type 0 where
    pub store : Store D members
    pub over : (members.state (disk_of store)).now.contents ≡ x
    pub opens : OpensWhole x store
    pub alternatives_are : alternatives ≡ length opens.seen.tree
    pub checkpoints_are : checkpoints ≡ checkpoint_count opens.seen.tree
    pub free_are : free ≡ spare_of opens.stands.holds.rests
