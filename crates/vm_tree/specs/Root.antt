-- Roots, and what map lies under one.
use Rattle.std.specs.Prelude.{◌≡◌, ◌⊎◌, ℕ, ◌<◌, ◌≤◌, true, List, []}
use Rattle.std.specs.List.{AllByRecursion}
use Rattle.vm_types.specs.Map.{Map}
use Rattle.vm_types.specs.Places.{RisesFrom, places}
use Rattle.vm_disk.specs.Disk.{Contents, DiskState}
use Rattle.vm_block.specs.declared.sizes.TheConstants.{MAX_CHILDREN}
use Rattle.vm_block.specs.Leaf.{Record, BeginsWith}
use Rattle.vm_block.specs.declared.node.Child.{Child}
use Rattle.vm_tree.specs.Tree.{Sizes, Subtree}
use Rattle.vm_tree.specs.declared.root.Root.{Root}

-- trees with inner blocks of this many children, and this many levels
abbrev pub sizes_of : ℕ → ℕ → Sizes
sizes_of fan levels = record { fan = fan; levels = levels }

-- how many children an inner block may have
pub record IsFan (fan : ℕ) : Type 0 where
  pub least : 3 ≤ fan
  pub most : fan ≤ MAX_CHILDREN

-- sizes that trees may have: a leaf may become three
pub record AreSizes (fan levels : ℕ) : Type 0 where
  pub fan_least : 3 ≤ fan
  pub fan_most : fan ≤ MAX_CHILDREN
  pub levels_least : 1 ≤ levels
  pub levels_most : levels ≤ 8

-- the root is the top of a tree with this map, in these blocks: it tells the tree's level, and the lowest key in it
pub record IsTop (sizes : Sizes) (x : Contents) (limit : ℕ) (root : Root) (m : Map) (bs : List ℕ) : Type 0 where
  pub level : root.level < sizes.levels
  pub subtree : Subtree sizes x limit root.level root.block m bs
  pub rising : RisesFrom 0 (places m)
  pub lowest : BeginsWith root.low m

-- the root has no block: the empty map
pub record IsBare (root : Root) (m : Map) (bs : List ℕ) : Type 0 where
  pub none : root.block ≡ 0
  pub empty : m ≡ []
  pub blocks : bs ≡ []

-- under the root lies this map, in these blocks
abbrev pub IsRooted : Sizes → Contents → ℕ → Root → Map → List ℕ → Type 0
IsRooted sizes x limit root m bs = IsBare root m bs ⊎ IsTop sizes x limit root m bs

-- under the root lies this map, in blocks that have P
pub record IsRootedIn (sizes : Sizes) (P : ℕ → Type 0) (x : Contents) (limit : ℕ) (root : Root) (m : Map) : Type 0 where
  pub stands_in : List ℕ
  pub rooted : IsRooted sizes x limit root m stands_in
  pub each : AllByRecursion P stands_in

-- on a disk that is honest after the call: P holds of the map that lay under the root before it, and of the map's blocks
abbrev pub IfWhole : DiskState → DiskState → Sizes → ℕ → Root → (Map → List ℕ → Type 0) → Type 0
IfWhole old new sizes limit root P =
    new.honest ≡ true → (m : Map) (bs : List ℕ) → IsRooted sizes old.now.contents limit root m bs → P m bs

-- the same of the records under a child, the top of this many levels above the leaves
abbrev pub IfUnder : DiskState → DiskState → Sizes → ℕ → ℕ → Child → (List Record → List ℕ → Type 0) → Type 0
IfUnder old new sizes limit level top P =
    new.honest ≡ true → (rs : List Record) (bs : List ℕ) → Subtree sizes old.now.contents limit level top.block rs bs → BeginsWith top.low rs → RisesFrom 0 (places rs)
    → P rs bs
