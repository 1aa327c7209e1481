-- Trees in blocks: what map lies under a root, and in which blocks.
use Rattle.std.specs.Prelude.{◌≡◌, ℕ, zero, suc, ◌<◌, ◌≤◌, List, [], ◌∷◌, ◌++◌, length}
use Rattle.std.specs.List.{AllByRecursion}
use Rattle.vm_types.specs.declared.sizes.TheConstants.{FIRST_DATA}
use Rattle.vm_types.specs.Places.{RisesFrom, places}
use Rattle.vm_disk.specs.Disk.{Contents, block}
use Rattle.vm_block.specs.Leaf.{Record, BeginsWith, HasRecords}
use Rattle.vm_block.specs.Node.{IsNode}
use Rattle.vm_block.specs.declared.node.Child.{Child}

-- how large trees are: the greatest counts of children of an inner block, and of levels
pub record Sizes : Type 0 where
  pub fan : ℕ
  pub levels : ℕ

-- a block for data, in a store of this many blocks
abbrev pub IsData : ℕ → ℕ → Type 0
IsData limit b = (FIRST_DATA ≤ b) × (b < limit)

-- under these children lie these records, joined, in these blocks; T tells what lies under one of them
abbrev pub Children : (ℕ → List Record → List ℕ → Type 0) → List Child → List Record → List ℕ → Type 0
Children T [] rs bs = (rs ≡ []) × (bs ≡ [])
Children T (c ∷ cs) rs bs =
    (first : List Record) × (rest : List Record) × (own : List ℕ) × (others : List ℕ)
    × T c.block first own × BeginsWith c.low first × Children T cs rest others
    × (rs ≡ first ++ rest) × (bs ≡ own ++ others)

-- block b is the top of a subtree of this many levels above its leaves, with these records, in these blocks
unfoldable pub Subtree : Sizes → Contents → ℕ → ℕ → ℕ → List Record → List ℕ → Type 0
Subtree sizes x limit zero b rs bs = IsData limit b × HasRecords (block x b) rs × (bs ≡ b ∷ [])
Subtree sizes x limit (suc l) b rs bs =
    IsData limit b × (cs : List Child) × (under : List ℕ)
    × IsNode (block x b) (suc l) cs × (length cs ≤ sizes.fan) × Children (Subtree sizes x limit l) cs rs under
    × (bs ≡ b ∷ under)

-- under root b lies this map, in these blocks: the empty one under 0, and else a tree whose keys rise strictly
unfoldable pub IsTree : Sizes → Contents → ℕ → ℕ → List Record → List ℕ → Type 0
IsTree sizes x limit zero m bs = (m ≡ []) × (bs ≡ [])
IsTree sizes x limit (suc b) m bs =
    (l : ℕ) × (l < sizes.levels) × Subtree sizes x limit l (suc b) m bs × RisesFrom 0 (places m)

-- under root b lies this map, in blocks that have P
pub record Stands (sizes : Sizes) (P : ℕ → Type 0) (x : Contents) (limit b : ℕ) (m : List Record) : Type 0 where
  pub blocks : List ℕ
  pub tree : IsTree sizes x limit b m blocks
  pub each : AllByRecursion P blocks
