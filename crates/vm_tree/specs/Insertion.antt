-- What a change of one key makes of a tree.
use Rattle.std.specs.Prelude.{◌≡◌, ℕ, ◌+◌, ◌<◌, ◌≤◌, Bool, true, List, [], ◌∷◌, length, IsSomeAnd, Result, IfOk}
use Rattle.std.specs.List.{AllByRecursion}
use Rattle.vm_types.specs.declared.key.Key.{Key}
use Rattle.vm_types.specs.Map.{with_value}
use Rattle.vm_types.specs.Places.{place, value_at, with_record}
use Rattle.vm_disk.specs.Disk.{DiskState, block}
use Rattle.vm_alloc.specs.Held.{IsHeld}
use Rattle.vm_block.specs.Leaf.{Record}
use Rattle.vm_block.specs.declared.node.Child.{Child}
use Rattle.vm_tree.specs.Tree.{Sizes}
use Rattle.vm_tree.specs.Answers.{LacksRoom, Puts}
use Rattle.vm_tree.specs.Free.{TakesAtMost}
use Rattle.vm_tree.specs.FullPath.{GrowsBy}
use Rattle.vm_tree.specs.Splits.{Made, PutsBelow, extra}
use Rattle.vm_tree.specs.Replacement.{IsRenewed, Lacks, Replaces}
use Rattle.vm_tree.specs.Root.{IsRootedIn, IfUnder, IfWhole, sizes_of}
use Rattle.vm_tree.specs.Spent.{ReadsAtMost}
use Rattle.vm_tree.specs.declared.root.Root.{Root}
use Rattle.vm_tree.specs.declared.faults.PutFault.{PutFault}
use Rattle.vm_tree.specs.declared.faults.TreeFault.{TreeFault}
use Rattle.vm_tree.specs.declared.block_writes.Copied.{Copied}

-- the records have the key, with a value that is not shorter
abbrev pub HasAsLong : Record → List Record → Type 0
HasAsLong r rs = IsSomeAnd (value_at (place r.0) rs) (λ value. length r.1 ≤ length value)

-- if the leaf under a child has the key, with a value that is not shorter, it stays one leaf, and one block is taken at most
abbrev pub ReplacesInLeaf : Result Copied PutFault → List Bool → List Bool → DiskState → DiskState → Child → Record → Type 0
ReplacesInLeaf result held later old new top r =
    (sizes : Sizes) → IfUnder old new sizes (length held) 0 top (λ rs bs. HasAsLong r rs → IfOk result (λ copied. (extra copied ≡ 0) × TakesAtMost 1 held later))

-- if the records under a child of this level have it, it stays one block, and one a level is taken at most
abbrev pub ReplacesUnder : Result Copied PutFault → ℕ → List Bool → List Bool → DiskState → DiskState → ℕ → Child → Record → Type 0
ReplacesUnder result fan held later old new level top r =
    (levels : ℕ) → IfUnder old new (sizes_of fan levels) (length held) level top
    (λ rs bs. HasAsLong r rs → IfOk result (λ copied. (extra copied ≡ 0) × TakesAtMost (level + 1) held later))

-- if the map has it, one block a level is taken at most
abbrev pub ReplacesFrom : Result Root PutFault → Sizes → List Bool → List Bool → DiskState → DiskState → Root → Record → Type 0
ReplacesFrom result sizes held later old new root r =
    IfWhole old new sizes (length held) root (λ m bs. HasAsLong r m → IfOk result (λ answer. TakesAtMost (root.level + 1) held later))

-- the leaf under a child has the record, in as many more blocks as it grows by, which replace the leaf's
abbrev pub PutsUnderLeaf : Result Copied PutFault → ℕ → List Bool → List Bool → DiskState → DiskState → Child → Record → Type 0
PutsUnderLeaf result room held later old new top r =
    (sizes : Sizes) → IfUnder old new sizes (length held) 0 top
    (λ rs bs. PutsBelow result room (GrowsBy sizes old.now.contents r 0 top.block)
    (λ cs. Replaces held later bs (λ P. Made P sizes new.now.contents (length held) 0 cs (with_record r rs))))

-- the records under a child of this level have this one, in as many more blocks as it grows by, which replace those under the child
abbrev pub PutsUnder : Result Copied PutFault → ℕ → ℕ → List Bool → List Bool → DiskState → DiskState → ℕ → Child → Record → Type 0
PutsUnder result fan room held later old new level top r =
    (levels : ℕ) → IfUnder old new (sizes_of fan levels) (length held) level top
    (λ rs bs. PutsBelow result room (GrowsBy (sizes_of fan levels) old.now.contents r level top.block)
    (λ cs. Replaces held later bs (λ P. Made P (sizes_of fan levels) new.now.contents (length held) level cs (with_record r rs))))

-- the record alone lies under the root, in blocks that are held now, and to be kept if they were held before
abbrev pub PutsFirst : Result Root TreeFault → List Bool → List Bool → DiskState → Record → Type 0
PutsFirst result held later new r =
    new.honest ≡ true → (keep : ℕ → Bool) → (sizes : Sizes) → 0 < sizes.levels
    → IfOk result (λ root. IsRootedIn sizes (IsRenewed held later keep) new.now.contents (length held) root (r ∷ []))

-- the answer is a root, or Deep exactly if there is no room, unless the device fails; and if the blocks of the tree are held, the root has
-- the map with the value, in blocks that are held
abbrev pub PutsFrom : Result Root PutFault → Sizes → List Bool → List Bool → DiskState → DiskState → Root → Key → List ℕ → Type 0
PutsFrom result sizes held later old new root key value =
    IfWhole old new sizes (length held) root (λ m bs. Puts result (LacksRoom sizes old.now.contents root (key, value))
    (λ r. AllByRecursion (IsHeld held) bs
    → IsRootedIn sizes (IsHeld later) new.now.contents (length held) r (with_value m key value)))

-- a Put into the empty map read nothing, took one block at most, and its root is a leaf
pub record IsFirst {E : Type 0} (result : Result Root E) (held later : List Bool) (old new : DiskState) : Type 0 where
  pub first_reads : ReadsAtMost 0 old new
  pub first_taken : TakesAtMost 1 held later
  pub first_level : IfOk result (λ root. root.level ≡ 0)

-- if a value was answered, each block that was held, and is none of those under the child, has the bytes that it had
abbrev pub KeepsBeside : {T E : Type 0} → Result T E → ℕ → List Bool → DiskState → DiskState → ℕ → Child → Type 0
KeepsBeside result fan held old new level top =
    (levels : ℕ) → IfUnder old new (sizes_of fan levels) (length held) level top
    (λ rs bs. IfOk result (λ _. (n : ℕ) → IsHeld held n → Lacks n bs → block new.now.contents n ≡ block old.now.contents n))
