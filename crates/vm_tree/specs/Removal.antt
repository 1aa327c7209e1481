-- A record taken out, and what is left then.
use Rattle.std.specs.Prelude.{◌≡◌, ◌≢◌, ◌⊎◌, ℕ, zero, suc, ◌+◌, ◌-◌, ◌<◌, ◌≤◌, true, false, Bool, List, [], ◌∷◌, ◌++◌, length, take, drop, Option, None, Some, IfSome, IsSomeAnd, IsOkAnd, Result, Ok, Err}
use Rattle.std.specs.List.{AllByRecursion}
use Rattle.vm_types.specs.declared.key.Key.{Key}
use Rattle.vm_types.specs.Map.{get, without}
use Rattle.vm_types.specs.Places.{RisesFrom, places, value_at}
use Rattle.arrayvec.specs.ArrayVec.{ArrayVec}
use Rattle.vm_disk.specs.Disk.{Contents, DiskState, block}
use Rattle.vm_alloc.specs.Held.{HoldsMore, IsHeld, is_held}
use Rattle.vm_block.specs.Changed.{leave_out, without_place}
use Rattle.vm_block.specs.Head.{IsNodeHead}
use Rattle.vm_block.specs.Leaf.{HasRecords, Record}
use Rattle.vm_block.specs.Node.{ChildFits, IsNode, child_bytes}
use Rattle.vm_block.specs.declared.node.Child.{Child}
use Rattle.vm_tree.specs.Tree.{Sizes, IsData, Children, Subtree}
use Rattle.vm_block.specs.declared.way.Way.{Way}
use Rattle.vm_tree.specs.Answers.{OkOrDevice, Removes}
use Rattle.vm_tree.specs.Calls.{LooksIf}
use Rattle.vm_tree.specs.Free.{TakesAtMost, is_free}
use Rattle.vm_tree.specs.Splits.{Made, IsWide}
use Rattle.vm_tree.specs.Replacement.{IsRenewed, KeepsOwn, Replaces, without_own}
use Rattle.vm_tree.specs.Root.{IsRootedIn, IfUnder, IfWhole, sizes_of}
use Rattle.vm_tree.specs.declared.root.Root.{Root}
use Rattle.vm_tree.specs.declared.faults.TreeFault.{TreeFault}
use Rattle.vm_tree.specs.declared.faults.TreeFault.TheVariants.{Device, Damaged}
use Rattle.vm_tree.specs.declared.removal.Left.{Left}
use Rattle.vm_tree.specs.declared.removal.Left.TheVariants.{Same, Nothing, Rest}

-- the top of a tree, as the child of a block above it
abbrev pub child_of : Root → Child
child_of root = record { low = root.low; block = root.block }

-- the level of what is left, if there is something, and else this one
abbrev pub level_of : Left → ℕ → ℕ
level_of Same l = l
level_of Nothing l = l
level_of (Rest root) l = root.level

-- under this root lies all that lay under a child, in the last of its blocks
pub record Narrows (sizes : Sizes) (x : Contents) (limit : ℕ) (top : Child) (root : Root) (rs : List Record) (bs : List ℕ) : Type 0 where
  pub above : List ℕ
  pub own : List ℕ
  pub under : Children (Subtree sizes x limit root.level) (child_of root ∷ []) rs own
  pub blocks : bs ≡ above ++ own
  pub fit : ChildFits top → ChildFits (child_of root)

-- what is left is answered: nothing of no records, and else a root with P
abbrev pub IsLeft : Result Left TreeFault → List Record → (Root → Type 0) → Type 0
IsLeft (Ok Same) rs P = ⊥
IsLeft (Ok Nothing) rs P = rs ≡ []
IsLeft (Ok (Rest root)) rs P = P root
IsLeft (Err e) rs P = e ≡ Device

-- what a Remove under a block answers: that no record stands at place p, or what is left without it, or that the device failed
abbrev pub RemovesBelow : Result Left TreeFault → ℕ → List Record → (Root → Type 0) → Type 0
RemovesBelow (Ok Same) p rs P = value_at p rs ≡ None
RemovesBelow (Ok Nothing) p rs P = (value_at p rs ≢ None) × (without_place p rs ≡ [])
RemovesBelow (Ok (Rest root)) p rs P = (value_at p rs ≢ None) × P root
RemovesBelow (Err e) p rs P = e ≡ Device

-- the block of this root is held as it was before: it was not taken now; and it is one of the `others`, which are not changed in place
abbrev pub WasThere : (ℕ → Type 0) → List Bool → List Bool → Root → Type 0
WasThere others held later root = (is_held later root.block ≡ is_held held root.block) × others root.block

-- there is nothing to write: no record was there, none is left, or a root is left that was there; or a block is damaged
abbrev pub NeedsNone : (ℕ → Type 0) → List Bool → List Bool → Result Left TreeFault → Type 0
NeedsNone others held later (Ok Same) = Unit {0}
NeedsNone others held later (Ok Nothing) = Unit {0}
NeedsNone others held later (Ok (Rest root)) = WasThere others held later root
NeedsNone others held later (Err Device) = ⊥
NeedsNone others held later (Err (Damaged b)) = Unit {0}

-- then the same blocks are held as before, and the disk was only looked at
abbrev pub LooksIfKept : Result Left TreeFault → (ℕ → Type 0) → List Bool → List Bool → DiskState → DiskState → Type 0
LooksIfKept result others held later old new = LooksIf (NeedsNone others held later result) held later old new

-- this block was not free in the baseline, if there is one
abbrev pub IsOutside : Option (List Bool) → ℕ → Type 0
IsOutside base n = IfSome base (λ bits. is_free bits n ≡ false)

-- the root that is left, if one is, is that of a block for data
abbrev pub LeavesData : ℕ → Left → Type 0
LeavesData limit Same = Unit {0}
LeavesData limit Nothing = Unit {0}
LeavesData limit (Rest root) = IsData limit root.block

-- it is a leaf or has two children at least
abbrev pub LeavesWide : DiskState → Left → Type 0
LeavesWide new Same = Unit {0}
LeavesWide new Nothing = Unit {0}
LeavesWide new (Rest root) = IsWide new root

-- what is left of a block of this level, which may be the root
pub record IsLeftOf (level : ℕ) (is_root : Bool) (held later : List Bool) (new : DiskState) (left : Left) : Type 0 where
  pub level_is : level_of left level ≤ level
  pub same_level : is_root ≡ false → level_of left level ≡ level
  -- one block was taken at most for each level of its root
  pub low_taken : TakesAtMost (level_of left level + 1) held later
  pub root : LeavesData (length held) left
  pub wide : is_root ≡ true → LeavesWide new left

-- the root of what is left of a map
pub record IsRootLeft (levels : ℕ) (held later : List Bool) (new : DiskState) (root : Root) : Type 0 where
  pub level : root.level < levels
  -- it has a block for data, or none
  pub among : (root.block ≡ 0) ⊎ IsData (length held) root.block
  pub low_taken : TakesAtMost (root.level + 1) held later
  pub wide : IsWide new root

-- the root that is answered has no block
abbrev pub Empties : Result (Option Root) TreeFault → Type 0
Empties result = IsOkAnd result (λ rest. IsSomeAnd rest (λ root. root.block ≡ 0))

-- there is nothing to write: the key was absent, no record is left, or a root is left that was there; or a block is damaged
abbrev pub KeepsAll : Option (List Bool) → List Bool → List Bool → Result (Option Root) TreeFault → Type 0
KeepsAll base held later (Ok None) = Unit {0}
KeepsAll base held later (Ok (Some root)) = (root.block ≡ 0) ⊎ WasThere (IsOutside base) held later root
KeepsAll base held later (Err Device) = ⊥
KeepsAll base held later (Err (Damaged b)) = Unit {0}

-- from block b, this many levels above the leaves, down to a leaf of one record each block has one child
unfoldable pub HasOne : Contents → ℕ → ℕ → Type 0
HasOne x zero b = (r : Record) × HasRecords (block x b) (r ∷ [])
HasOne x (suc l) b = (child : Child) × IsNodeHead (block x b) (suc l) 1 × (take 14 (drop 16 (block x b)) ≡ child_bytes child) × HasOne x l child.block

-- if `when` holds, and the disk is honest, this block had one record under it before the call
abbrev pub HadOneIf : Type 0 → DiskState → DiskState → ℕ → ℕ → Type 0
HadOneIf when old new level b = new.honest ≡ true → when → HasOne old.now.contents level b

-- the children of an inner block without the one that was taken
abbrev pub LeavesOut : Option (ArrayVec Child) → Way → List ℕ → Type 0
LeavesOut result way bytes =
    (level : ℕ) (cs : List Child) → IsNode bytes level cs → way.count ≡ length cs → IsSomeAnd result (λ rest. rest.items ≡ leave_out way.index cs)

-- the root that is answered has all that lies under a child of this level
abbrev pub NarrowsTo : Result Root TreeFault → ℕ → DiskState → DiskState → ℕ → ℕ → Child → Type 0
NarrowsTo result fan old new limit level top =
    new.honest ≡ true → (levels : ℕ) (rs : List Record) (bs : List ℕ)
    → Children (Subtree (sizes_of fan levels) old.now.contents limit level) (top ∷ []) rs bs
    → OkOrDevice result (λ root. Narrows (sizes_of fan levels) old.now.contents limit top root rs bs)

-- what is left of an inner block of this level with these children lies under a root, in blocks that are held now, and to be kept if they
-- were held before
abbrev pub LeavesRest : Result Left TreeFault → Option ℕ → ℕ → ℕ → List Child → List Bool → List Bool → DiskState → DiskState → Type 0
LeavesRest result own fan level cs held later old new =
    new.honest ≡ true → (levels : ℕ) (rs : List Record) (bs : List ℕ) → RisesFrom 0 (places rs) → AllByRecursion ChildFits cs
    → Children (Subtree (sizes_of fan levels) old.now.contents (length held) (level - 1)) cs rs bs
    → IsLeft result rs (λ root. (before : List Bool) (keep : ℕ → Bool) → HoldsMore before held → KeepsOwn own before keep
    → AllByRecursion (IsRenewed before held (without_own own keep)) bs
    → Made (IsRenewed before later keep) (sizes_of fan levels) new.now.contents (length held) root.level (child_of root ∷ []) rs)

-- the records of a leaf are left without the one at place p, under a root in a block that replaces the leaf's
abbrev pub RemovesFromLeaf : Result Left TreeFault → List Bool → List Bool → DiskState → DiskState → Child → ℕ → Type 0
RemovesFromLeaf result held later old new top p =
    (sizes : Sizes) → IfUnder old new sizes (length held) 0 top (λ rs bs. RemovesBelow result p rs
    (λ root. Replaces held later bs
    (λ P. Made P sizes new.now.contents (length held) root.level (child_of root ∷ []) (without_place p rs))))

-- the records under a child are left without the one at place p, under a root in blocks that replace those under the child
abbrev pub RemovesUnder : Result Left TreeFault → ℕ → List Bool → List Bool → DiskState → DiskState → ℕ → Child → ℕ → Type 0
RemovesUnder result fan held later old new level top p =
    (levels : ℕ) → IfUnder old new (sizes_of fan levels) (length held) level top (λ rs bs. RemovesBelow result p rs
    (λ root. Replaces held later bs
    (λ P. Made P (sizes_of fan levels) new.now.contents (length held) root.level (child_of root ∷ []) (without_place p rs))))

-- the answer is None exactly if the key is absent, and else a root, unless the device fails; and if the blocks of the tree are held,
-- the root has the map without the key, in blocks that are held
abbrev pub RemovesFrom : Result (Option Root) TreeFault → Sizes → List Bool → List Bool → DiskState → DiskState → Root → Key → Type 0
RemovesFrom result sizes held later old new root key =
    IfWhole old new sizes (length held) root (λ m bs. Removes result (get m key ≡ None) (λ r. AllByRecursion (IsHeld held) bs
    → IsRootedIn sizes (IsHeld later) new.now.contents (length held) r (without m key)))
