-- Blocks of a tree as they are rewritten.
use Rattle.std.specs.Prelude.{◌≡◌, ℕ, ◌+◌, ◌-◌, ◌<◌, ◌≤◌, min, Bool, true, List, [], ◌∷◌, ◌++◌, length, take, drop, Option, Result, Ok, Err, IfOk}
use Rattle.std.specs.List.{AllByRecursion}
use Rattle.vm_types.specs.Places.{RisesFrom, places, with_record}
use Rattle.vm_disk.specs.Disk.{Contents, DiskState, block}
use Rattle.vm_alloc.specs.Held.{HoldsMore}
use Rattle.vm_block.specs.declared.sizes.TheConstants.{LEAF_ROOM, MAX_CHILDREN}
use Rattle.vm_block.specs.Leaf.{HasRecords, Record, size_of}
use Rattle.vm_block.specs.Node.{ChildFits, IsNode, node_bytes}
use Rattle.vm_block.specs.declared.way.Way.{Way}
use Rattle.vm_block.specs.declared.node.Child.{Child}
use Rattle.vm_tree.specs.FullPath.{NeedsMore}
use Rattle.vm_tree.specs.Tree.{Sizes, Children, Subtree}
use Rattle.vm_tree.specs.Free.{AreTaken, IsPlace, IsTaken, TakesAtMost}
use Rattle.vm_tree.specs.Replacement.{IsRenewed, KeepsOwn, without_own}
use Rattle.vm_tree.specs.declared.root.Root.{Root}
use Rattle.vm_tree.specs.declared.faults.PutFault.{PutFault}
use Rattle.vm_tree.specs.declared.faults.PutFault.TheVariants as put
use Rattle.vm_tree.specs.declared.faults.TreeFault.{TreeFault}
use Rattle.vm_tree.specs.declared.faults.TreeFault.TheVariants.{Device, Damaged}
use Rattle.vm_tree.specs.declared.block_writes.Copied.{Copied}
use Rattle.vm_tree.specs.declared.block_writes.Copied.TheVariants.{One, Two, Three}

-- under these children, tops of subtrees of this many levels, lie these records, in blocks that have P
pub record Made (P : ℕ → Type 0) (sizes : Sizes) (x : Contents) (limit l : ℕ) (cs : List Child) (rs : List Record) : Type 0 where
  pub blocks : List ℕ
  pub under : Children (Subtree sizes x limit l) cs rs blocks
  pub each : AllByRecursion P blocks
  pub fit : AllByRecursion ChildFits cs

-- the blocks that one was rewritten as
abbrev pub children_of : Copied → List Child
children_of (One c) = c ∷ []
children_of (Two c d) = c ∷ d ∷ []
children_of (Three c d e) = c ∷ d ∷ e ∷ []

-- the children with these in place of the one at i
abbrev pub with_children : List Child → ℕ → List Child → List Child
with_children cs i now = take i cs ++ (now ++ drop (i + 1) cs)

-- how many blocks more than the one that it was
abbrev pub extra : Copied → ℕ
extra (One c) = 0
extra (Two c d) = 1
extra (Three c d e) = 2

-- what a Put under a block answers on a tree, beside which there is room for this many more blocks: blocks with P, as many more as it grows by; Deep,
-- if it would grow by more than there is room for; or that the device failed
abbrev pub PutsBelow : Result Copied PutFault → ℕ → (ℕ → Type 0) → (List Child → Type 0) → Type 0
PutsBelow (Ok copied) room grows P = P (children_of copied) × grows (extra copied)
PutsBelow (Err (put.Tree Device)) room grows P = Unit {0}
PutsBelow (Err (put.Tree (Damaged b))) room grows P = ⊥
PutsBelow (Err put.Deep) room grows P = (more : ℕ) × (room < more) × grows more

-- by how many blocks an inner block grows that would have this many children: by one, if they are more than may be in one
abbrev pub grown : ℕ → ℕ → ℕ
grown most n = min 1 (n - most)

-- a block was rewritten as this many more, which are held now
pub record Grows (held : List Bool) (more : ℕ) (copied : Copied) : Type 0 where
  pub taken : AreTaken held (children_of copied)
  pub grows : extra copied ≡ more

-- a block was rewritten as this many more at most, which are held now; as one, it took this many blocks at most
pub record GrowsWithin (above most : ℕ) (held later : List Bool) (copied : Copied) : Type 0 where
  pub taken : AreTaken later (children_of copied)
  pub room : extra copied ≤ above
  pub single : extra copied ≡ 0 → TakesAtMost most held later

-- block n was written: the own one, or if there is none one that was free; it is held now, and has these bytes, if the disk is honest
pub record IsWritten (own : Option ℕ) (held later : List Bool) (new : DiskState) (bytes : List ℕ) (n : ℕ) : Type 0 where
  pub taken : IsTaken later n
  pub place : IsPlace own held n
  pub bytes_are : new.honest ≡ true → block new.now.contents n ≡ bytes

-- if the disk is honest, the block of a root above the leaves, if it is an inner block, has two children at least
abbrev pub IsWide : DiskState → Root → Type 0
IsWide new root =
    new.honest ≡ true → 0 < root.level → (level : ℕ) (cs : List Child) → IsNode (block new.now.contents root.block) level cs → 2 ≤ length cs

-- # What is made of records, if the disk is honest after the call
-- Whatever was held before, the blocks are held now, and those to be kept that were held before. The own block, if there is one, was held
-- before, and is to be kept; what lies under a block that is written there is in others.

-- the records of these bytes, if they are two leaves, the first of lower keys
abbrev pub MakesTwo : Result Copied TreeFault → Option ℕ → List Bool → List Bool → DiskState → List ℕ → List ℕ → Type 0
MakesTwo result own held later new left right =
    new.honest ≡ true → (before : List Bool) (keep : ℕ → Bool) → HoldsMore before held → KeepsOwn own before keep → (sizes : Sizes) (front back : List Record)
    → HasRecords left front → HasRecords right back
    → IfOk result (λ copied. Made (IsRenewed before later keep) sizes new.now.contents (length held) 0 (children_of copied) (front ++ back))

-- if they are three leaves
abbrev pub MakesThree : Result Copied TreeFault → Option ℕ → List Bool → List Bool → DiskState → List ℕ → List ℕ → List ℕ → Type 0
MakesThree result own held later new left middle right =
    new.honest ≡ true → (before : List Bool) (keep : ℕ → Bool) → HoldsMore before held → KeepsOwn own before keep → (sizes : Sizes) (front mid back : List Record)
    → HasRecords left front → HasRecords middle mid → HasRecords right back
    → IfOk result (λ copied. Made (IsRenewed before later keep) sizes new.now.contents (length held) 0 (children_of copied) (front ++ (mid ++ back)))

-- the records of a leaf with this one, if they have no room in one leaf, in as many more as they need
abbrev pub SplitsLeaf : Result Copied PutFault → Option ℕ → ℕ → List Bool → List Bool → DiskState → List ℕ → Record → Type 0
SplitsLeaf result own room held later new bytes r =
    new.honest ≡ true → (rs : List Record) → HasRecords bytes rs → LEAF_ROOM < size_of (with_record r rs)
    → PutsBelow result room (NeedsMore (with_record r rs))
    (λ cs. (before : List Bool) (keep : ℕ → Bool) → HoldsMore before held → KeepsOwn own before keep → (sizes : Sizes)
    → Made (IsRenewed before later keep) sizes new.now.contents (length held) 0 cs (with_record r rs))

-- the records of these bytes, if they are a leaf
abbrev pub WritesLeaf : Result Child TreeFault → Option ℕ → List Bool → List Bool → DiskState → List ℕ → Type 0
WritesLeaf result own held later new bytes =
    new.honest ≡ true → (before : List Bool) (keep : ℕ → Bool) → HoldsMore before held → KeepsOwn own before keep → (sizes : Sizes) (rs : List Record) → HasRecords bytes rs
    → IfOk result (λ child. Made (IsRenewed before later keep) sizes new.now.contents (length held) 0 (child ∷ []) rs)

-- the records under the children of these bytes, if they are an inner block
abbrev pub WritesNode : Result Child TreeFault → Option ℕ → List Bool → List Bool → DiskState → DiskState → List ℕ → Type 0
WritesNode result own held later old new bytes =
    new.honest ≡ true → (before : List Bool) (keep : ℕ → Bool) → HoldsMore before held → KeepsOwn own before keep → (sizes : Sizes) (level : ℕ) (cs : List Child) (rs : List Record)
    → bytes ≡ node_bytes level cs → 0 < level → level ≤ 7 → 0 < length cs → length cs ≤ MAX_CHILDREN → length cs ≤ sizes.fan → RisesFrom 0 (places rs)
    → Made (IsRenewed before held (without_own own keep)) sizes old.now.contents (length held) (level - 1) cs rs
    → IfOk result (λ child. Made (IsRenewed before later keep) sizes new.now.contents (length held) level (child ∷ []) rs)

-- records under these children, in inner blocks of this level, if this many children may be in one
abbrev pub MakesNodesOf : {T : Type 0} → Result T TreeFault → (T → List Child) → Option ℕ → ℕ → ℕ → List Child → List Bool → List Bool → DiskState → DiskState → Type 0
MakesNodesOf result children own most level cs held later old new =
    new.honest ≡ true → (before : List Bool) (keep : ℕ → Bool) → HoldsMore before held → KeepsOwn own before keep → (sizes : Sizes) (rs : List Record)
    → 0 < level → level ≤ 7 → most ≤ sizes.fan → RisesFrom 0 (places rs)
    → Made (IsRenewed before held (without_own own keep)) sizes old.now.contents (length held) (level - 1) cs rs
    → IfOk result (λ done. Made (IsRenewed before later keep) sizes new.now.contents (length held) level (children done) rs)

-- in one
abbrev pub MakesNode : Result Child TreeFault → Option ℕ → ℕ → List Child → List Bool → List Bool → DiskState → DiskState → Type 0
MakesNode result own level cs held later old new = MakesNodesOf result (λ child. child ∷ []) own (length cs) level cs held later old new

-- in one or two, of this many children at most
abbrev pub MakesNodes : Result Copied TreeFault → Option ℕ → ℕ → ℕ → List Child → List Bool → List Bool → DiskState → DiskState → Type 0
MakesNodes result own most level cs held later old new = MakesNodesOf result children_of own most level cs held later old new

-- the same of the children of an inner block, with these in place of the one that was taken
abbrev pub MakesNodesWith : Result Copied TreeFault → Option ℕ → ℕ → ℕ → Way → List ℕ → List Child → List Bool → List Bool → DiskState → DiskState → Type 0
MakesNodesWith result own most level way bytes now held later old new =
    new.honest ≡ true → (before : List Bool) (keep : ℕ → Bool) → HoldsMore before held → KeepsOwn own before keep
    → (sizes : Sizes) (cs : List Child) (rs : List Record) → IsNode bytes level cs → way.count ≡ length cs → most ≤ sizes.fan
    → RisesFrom 0 (places rs)
    → Made (IsRenewed before held (without_own own keep)) sizes old.now.contents (length held) (level - 1) (with_children cs way.index now) rs
    → IfOk result (λ done. Made (IsRenewed before later keep) sizes new.now.contents (length held) level (children_of done) rs)
