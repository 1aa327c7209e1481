-- How many reads a walk makes under a block, if the disk is honest after the call.
use Rattle.std.specs.Prelude.{◌≡◌, ℕ, ◌+◌, ◌≤◌, nat_lt, true, false, Bool, List, length, if◌then◌else◌}
use Rattle.std.specs.List.{AllByRecursion}
use Rattle.std.proofs.Common.{inl, inr}
use Rattle.vm_types.specs.declared.key.Key.{Key}
use Rattle.vm_types.specs.Map.{Map}
use Rattle.vm_types.specs.Places.{RisesFrom, place, places}
use Rattle.vm_disk.specs.Disk.{Contents, DiskState}
use Rattle.vm_block.specs.Leaf.{BeginsWith, Record}
use Rattle.vm_block.specs.declared.node.Child.{Child}
use Rattle.vm_tree.specs.Tree.{Sizes, Subtree}
use Rattle.vm_tree.specs.Over.{subtree_over, tree_over}
use Rattle.vm_tree.specs.Root.{IsRooted}
use Rattle.vm_tree.specs.Windows.{given_of, is_full}
use Rattle.vm_tree.specs.declared.root.Root.{Root}
use Rattle.vm_tree.specs.declared.window.Window.{Window}

-- at most n blocks were read, on any disk and whatever the answer
abbrev pub ReadsAtMost : ℕ → DiskState → DiskState → Type 0
ReadsAtMost n old new = new.reads ≤ old.reads + n

-- P holds of the records that lay under a child, the top of this many levels above the leaves, in the contents before the call
abbrev pub OnSubtree : DiskState → DiskState → (limit level : ℕ) (top : Child)
    → ((sizes : Sizes) (x : Contents) (rs : List Record) (bs : List ℕ) → Subtree sizes x limit level top.block rs bs → Type 0) → Type 0
OnSubtree old new limit level top P =
    new.honest ≡ true → (sizes : Sizes) (x : Contents) → old.now.contents ≡ x → (rs : List Record) (bs : List ℕ)
    → (tree : Subtree sizes x limit level top.block rs bs) → BeginsWith top.low rs → RisesFrom 0 (places rs) → P sizes x rs bs tree

-- the records stand at places that pass the test
abbrev pub AllPass : (ℕ → Bool) → List Record → Type 0
AllPass test rs = AllByRecursion (λ r. test (place r.0) ≡ true) rs

-- the reads that a subtree costs beside its blocks over the part, which begins at place low: one for each of its levels, if it begins below
abbrev pub reads_aside : ℕ → ℕ → Key → ℕ
reads_aside low level first = if nat_lt (place first) low then level + 1 else 0

-- the same of the tree under a root
abbrev pub tree_aside : ℕ → (sizes : Sizes) (x : Contents) (limit : ℕ) (root : Root) (m : Map) (bs : List ℕ) → IsRooted sizes x limit root m bs → ℕ
tree_aside low sizes x limit root m bs (inl bare) = 0
tree_aside low sizes x limit root m bs (inr top) = reads_aside low root.level root.low

-- if some may be given, no more reads than there are blocks under a child over the records that are, and those aside
abbrev pub ReadsUnder : DiskState → DiskState → ℕ → ℕ → Child → Window → ℕ → Type 0
ReadsUnder old new limit level top w n =
    OnSubtree old new limit level top (λ sizes x rs bs tree. is_full w.most n ≡ false → place top.low ≤ place w.high → (test : ℕ → Bool) → AllPass test (given_of w n rs)
    → new.reads ≤ old.reads + (length (subtree_over test sizes x limit level top.block rs bs tree) + reads_aside (place w.low) level top.low))

-- the same under a root
abbrev pub ReadsWindow : DiskState → DiskState → ℕ → Root → Window → Type 0
ReadsWindow old new limit root w =
    new.honest ≡ true → (sizes : Sizes) (m : Map) (bs : List ℕ) → (tree : IsRooted sizes old.now.contents limit root m bs) → (test : ℕ → Bool) → AllPass test (given_of w 0 m)
    → new.reads ≤ old.reads + (length (tree_over test sizes old.now.contents limit root m bs tree) + tree_aside (place w.low) sizes old.now.contents limit root m bs tree)
